use Rattle.wf_read_laws.proofs.BrokenPlaces.{rules_stand_in_packages}
use Rattle.wf_read_laws.proofs.type_places.a_broken_rule_stands_in_the_package.Goals as goal

pub returns : goal.returns
returns c = rules_stand_in_packages
