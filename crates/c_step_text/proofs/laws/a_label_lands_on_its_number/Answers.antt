use Rattle.c_meaning.specs.CStep.{place_weight}
use Rattle.c_step_text.proofs.Landings.{found, same_order}
use Rattle.c_step_text.proofs.laws.a_label_lands_on_its_number.Goals as goal

pub returns-clause-found : goal.returns-clause-found
returns-clause-found c = λ t names end i next label code k tied laid follows. found t names end label i next code k tied laid follows

pub returns-clause-order : goal.returns-clause-order
returns-clause-order c = λ t names end m n p q h l. same_order m n end (place_weight p) (place_weight q) h.tied l.tied
