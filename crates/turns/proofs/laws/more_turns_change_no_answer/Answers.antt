use Rattle.turns.proofs.Raises.{same_answer, same_fault, same_want}
use Rattle.turns.proofs.laws.more_turns_change_no_answer.Goals as goal

pub returns-clause-answer : goal.returns-clause-answer
returns-clause-answer g c step weight falls counts n more left s a e = same_answer step weight falls counts more n left s a e

pub returns-clause-fault : goal.returns-clause-fault
returns-clause-fault g c step weight falls counts n more s e = same_fault step weight falls counts more n s e

pub returns-clause-want : goal.returns-clause-want
returns-clause-want g c step weight falls counts n more s e = same_want step weight falls counts more n s e
