use Rattle.wf_meaning.proofs.MoreTurns.{same_answer, same_stuck, same_want}
use Rattle.wf_meaning.proofs.laws.more_turns_change_no_call.Goals as goal

pub returns-clause-answer : goal.returns-clause-answer
returns-clause-answer c p state call h n more a after e = same_answer p state call h n more a after e

pub returns-clause-stuck : goal.returns-clause-stuck
returns-clause-stuck c p state call h n more e = same_stuck p state call h n more e

pub returns-clause-want : goal.returns-clause-want
returns-clause-want c p state call h n more e = same_want p state call h n more e
