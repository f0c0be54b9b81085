use Rattle.c_meaning.proofs.Raised.{returned_more, undefined_more}
use Rattle.c_meaning.proofs.laws.more_turns_change_no_return.Goals as goal

pub returns-clause-returned : goal.returns-clause-returned
returns-clause-returned c = returned_more

pub returns-clause-undefined : goal.returns-clause-undefined
returns-clause-undefined c = undefined_more
