use Rattle.std.proofs.Common.{arith}
use Rattle.wf_script_rules.proofs.NumberLaws.{too_large, at_end}
use Rattle.wf_script_rules.proofs.words.value_of.Goals as goal

pub returns-in_err-value : goal.returns-in_err-value
returns-in_err-value c = rw c.from_residual.ensures (too_large c.loop-digit.value c.loop-digit.digit-index c.args.digits.now (omega arith) c.loop-digit.invariant.same c.in_err-value.ensures)

pub returns : goal.returns
returns c =
    let whole = at_end c.loop-digit.value c.loop-digit.digit-index c.args.digits.now (omega arith) c.loop-digit.invariant.small c.loop-digit.invariant.same in
    (whole.small, whole.same)
