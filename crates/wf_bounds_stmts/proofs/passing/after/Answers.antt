use Rattle.std.proofs.Common.{◌≤◌, length, arith}
use Rattle.wf_bounds_stmts.proofs.PassLemmas.{told-passes}
use Rattle.wf_bounds_stmts.proofs.passing.after.Goals as goal

pub returns : goal.returns
returns c = λ nodes at refusal known told.
    let few : length c.args.facts.now.list ≤ 512 = omega (arith, c.keeps_limit.ensures) in
    told-passes nodes at refusal c.args.facts.now known few (rw c.in_ok-answer.was at told)
