use Rattle.c_form_laws.proofs.BreakLaws.{form_is_kept}
use Rattle.c_form_laws.proofs.laws.has_unit_form.Goals as goal

pub returns : goal.returns
returns c = form_is_kept
