use Rattle.wf_types_exprs.proofs.JudgedLaws.{judged-none}
use Rattle.wf_types_stmts.proofs.results.judge_via.Goals as goal

pub returns-in-None : goal.returns-in-None
returns-in-None c = rw c.in-None.is (judged-none c.args.here.now.around.now c.args.found.now)
