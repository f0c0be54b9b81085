use Rattle.wf_lower_stmts.proofs.Cases.{resumes_at_point}
use Rattle.wf_lower_stmts.proofs.laws.resumes_at_point.Goals as goal

pub returns : goal.returns
returns c = λ f n k b t ints. resumes_at_point f n k ints b t
