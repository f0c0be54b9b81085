use Rattle.c_step_load_exprs.proofs.CodeLemmas.{set_at}
use Rattle.c_step_load_exprs.proofs.emitting.set.Goals as goal

pub returns-clause-set : goal.returns-clause-set
returns-clause-set c = λ front behind old is at. set_at c.args.code.now.items front behind old c.args.it c.args.at is at
