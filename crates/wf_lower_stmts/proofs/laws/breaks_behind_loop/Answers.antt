use Rattle.wf_lower_stmts.proofs.LoopLabels.{breaks_at}
use Rattle.wf_lower_stmts.proofs.laws.breaks_behind_loop.Goals as goal

pub returns : goal.returns
returns c = λ f n w b t few spelt. breaks_at f n w few b t spelt
