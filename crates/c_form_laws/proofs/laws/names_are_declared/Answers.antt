use Rattle.c_form_laws.proofs.NameLaws.{names_declared}
use Rattle.c_form_laws.proofs.laws.names_are_declared.Goals as goal

pub returns : goal.returns
returns c = names_declared
