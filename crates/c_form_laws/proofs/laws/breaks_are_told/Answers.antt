use Rattle.c_form_laws.proofs.BreakLaws.{breaks_told}
use Rattle.c_form_laws.proofs.laws.breaks_are_told.Goals as goal

pub returns : goal.returns
returns c = breaks_told
