use Rattle.std.proofs.Common.{arith}
use Rattle.wf_num.proofs.Bits.{least-low, least-bit, least-bit_other}
use Rattle.wf_num.proofs.spans.+min_or.Goals as goal

pub returns-then-ys-m-clause-least : goal.returns-then-ys-m-clause-least
returns-then-ys-m-clause-least t c = grind (arith, least-low c.top_bit-m.result)

pub returns-then-m-xs-clause-least : goal.returns-then-m-xs-clause-least
returns-then-m-xs-clause-least t c = grind (arith, least-bit c.top_bit-m.result)

pub returns-then-m-ys-clause-least : goal.returns-then-m-ys-clause-least
returns-then-m-ys-clause-least t c = grind (arith, least-bit_other c.top_bit-m.result)
