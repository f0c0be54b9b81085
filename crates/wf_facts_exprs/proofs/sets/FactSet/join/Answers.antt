use Rattle.std.proofs.Common.{◌<◌, ◌/◌, arith}
use Rattle.wf_facts_exprs.proofs.JoinLemmas.{member_join}
use Rattle.wf_facts_exprs.proofs.sets.FactSet.join.Goals as goal

pub returns : goal.returns
returns c k h =
    let done : k / 64 < c.loop-w.w = omega (arith, h) in
    member_join c.args.self.now.words c.args.other.now.words c.loop-w.self.words k (c.loop-w.invariant.done (k / 64) done)
