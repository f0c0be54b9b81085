use Rattle.wf_read_laws.proofs.FilePlaces.{breaks_have_files, packages_break_in_files}
use Rattle.wf_read_laws.proofs.places.a_broken_rule_has_its_file.Goals as goal

pub returns-clause-declarations : goal.returns-clause-declarations
returns-clause-declarations c = breaks_have_files

pub returns-clause-packages : goal.returns-clause-packages
returns-clause-packages c = packages_break_in_files
