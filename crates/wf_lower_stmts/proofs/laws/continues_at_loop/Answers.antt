use Rattle.wf_lower_stmts.proofs.LoopLabels.{continues_at}
use Rattle.wf_lower_stmts.proofs.laws.continues_at_loop.Goals as goal

pub returns : goal.returns
returns c = λ f n w b t few spelt around. continues_at f n w few b t spelt around
