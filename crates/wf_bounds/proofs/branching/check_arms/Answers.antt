use Rattle.std.proofs.Common.{arith}
use Rattle.std.proofs.lemmas.Grind.{common_steps}
use Rattle.wf_facts_exprs.specs.Claims.{claims_in}
use Rattle.wf_bounds_stmts.specs.Passing.{site_at}
use Rattle.wf_bounds.proofs.ComingLemmas.{fit_arms}
use Rattle.wf_bounds.proofs.branching.check_arms.Goals as goal

pub returns-then-room-2-clause-fit : goal.returns-then-room-2-clause-fit
returns-then-room-2-clause-fit c =
    let nodes = c.args.walk.now.t.now in
    fit_arms nodes (site_at nodes c.args.s) (claims_in nodes c.args.facts.now.list) c.args.arms.now (grind (arith, common_steps))
