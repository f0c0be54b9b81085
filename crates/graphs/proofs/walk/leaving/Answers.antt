use Rattle.std.proofs.Common.{◌≤◌, length, arith}
use Rattle.graphs.proofs.OrderLemmas.{leaving-made}
use Rattle.graphs.proofs.walk.leaving.Goals as goal

pub returns : goal.returns
returns c =
    let over : length c.args.rows.now ≤ c.loop-start.start = omega (arith, c.loop-start-test.false) in
    rw c.into_order.ensures
    (leaving-made c.args.rows.now c.loop-start.walk c.loop-start.invariant.0 c.loop-start.invariant.1 (λ b l. c.loop-start.invariant.2 b (omega (arith, l, over))))
