use Rattle.std.proofs.Common.{arith}
use Rattle.wf_tokens.proofs.GapSizes.{next_byte, gap_ends}
use Rattle.wf_tokens.proofs.gaps.gap_len.Goals as goal

pub loop-goes_on-preserved : goal.loop-goes_on-preserved
loop-goes_on-preserved c =
    let k = next_byte c.args.due c.loop-goes_on.inside c.in-Some.goes_on c.args.bytes.now c.loop-goes_on.len c.in-Some.ensures in
    record { within = omega (arith, k.more); size = omega (arith, k.size, c.loop-goes_on.invariant.size) }

pub returns-clause-gap : goal.returns-clause-gap
returns-clause-gap c = gap_ends c.args.due c.loop-goes_on.inside c.args.bytes.now c.loop-goes_on.len c.loop-goes_on.invariant.size c.in_default.ensures
