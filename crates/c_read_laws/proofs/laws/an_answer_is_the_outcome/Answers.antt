use Rattle.c_read_laws.proofs.Reading.{answer-is}
use Rattle.c_read_laws.proofs.laws.an_answer_is_the_outcome.Goals as goal

pub returns : goal.returns
returns c = answer-is
