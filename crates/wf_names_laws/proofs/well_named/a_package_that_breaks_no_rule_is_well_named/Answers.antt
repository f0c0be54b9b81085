use Rattle.wf_names_laws.proofs.PackageLaws.{package-named}
use Rattle.wf_names_laws.proofs.well_named.a_package_that_breaks_no_rule_is_well_named.Goals as goal

pub returns : goal.returns
returns c = package-named
