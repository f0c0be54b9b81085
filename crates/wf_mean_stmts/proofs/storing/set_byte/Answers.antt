use Rattle.std.proofs.Common.{arith}
use Rattle.wf_mean_stmts.proofs.StoringLemmas.{byte_set, past_change, set_change}
use Rattle.wf_mean_stmts.proofs.storing.set_byte.Goals as goal

pub returns-then-a-len : goal.returns-then-a-len
returns-then-a-len c =
    let array = c.at_mut-array.result.now in
    let left = c.set_byte-within.new.self in
    set_change _ c.args.arrays.now c.args.a left array c.at_mut-array.ensures.value (byte_set c.set_byte-within.result array left c.args.k c.args.b c.set_byte-within.ensures.within c.set_byte-within.ensures.after)

pub returns-else-a-len : goal.returns-else-a-len
returns-else-a-len c = past_change _ c.args.arrays.now c.args.a (omega (arith, c.if-a-len.false, c.len.ensures))
