use Rattle.c_step_text.proofs.ByHand.{laid_by_hand}
use Rattle.c_step_text.proofs.laws.a_text_by_hand_is_laid_out.Goals as goal

pub returns : goal.returns
returns c = λ scope callable result_type otherwise. laid_by_hand scope callable result_type otherwise
