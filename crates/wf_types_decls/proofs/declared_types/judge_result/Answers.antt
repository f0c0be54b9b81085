use Rattle.std.proofs.Common.{ap, Some}
use Rattle.wf_types_exprs.proofs.JudgedLaws.{judged-none}
use Rattle.wf_types_decls.proofs.declared_types.judge_result.Goals as goal

pub returns-in_ok-ty-in-Some-clause-found : goal.returns-in_ok-ty-in-Some-clause-found
returns-in_ok-ty-in-Some-clause-found c = rw c.in-Some.is c.in_ok-ty-in-Some.ensures.found

pub returns-in_ok-ty-in-Some-clause-of : goal.returns-in_ok-ty-in-Some-clause-of
returns-in_ok-ty-in-Some-clause-of c = rw c.in-Some.is (ap Some c.in_ok-ty-in-Some.ensures.of)

pub returns-in-None-clause-found : goal.returns-in-None-clause-found
returns-in-None-clause-found c = rw c.in-None.is (judged-none c.args.here.now.around.now c.args.found.now)
