use Rattle.std.proofs.Common.{arith}
use Rattle.wf_tokens.proofs.NumberValues.{too_large, at_end}
use Rattle.wf_tokens.proofs.numbers.value_of.Goals as goal

pub returns-in_err-value : goal.returns-in_err-value
returns-in_err-value c = rw c.from_residual.ensures (too_large c.args.base c.loop-byte.value c.loop-byte.byte-index c.args.digits.now c.requires (omega arith) c.loop-byte.invariant.same c.in_err-value.ensures)

pub returns : goal.returns
returns c =
    let whole = at_end c.args.base c.loop-byte.value c.loop-byte.byte-index c.args.digits.now (omega arith) c.loop-byte.invariant.small c.loop-byte.invariant.same in
    (whole.small, whole.same)
