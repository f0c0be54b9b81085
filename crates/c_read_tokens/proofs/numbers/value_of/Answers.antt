use Rattle.std.proofs.Common.{arith}
use Rattle.c_read_tokens.proofs.NumberLaws.{too_large}
use Rattle.c_read_tokens.proofs.numbers.value_of.Goals as goal

pub returns-in_err-value : goal.returns-in_err-value
returns-in_err-value c = rw c.from_residual.ensures (too_large c.loop-digit.value c.loop-digit.digit-index c.args.digits.now (omega arith) c.loop-digit.invariant.same c.in_err-value.ensures)
