use Rattle.c_read_tokens.proofs.NumberLaws.{zero_first, small_value, large_value}
use Rattle.c_read_tokens.proofs.numbers.literal_of.Goals as goal

pub returns-then-has_leading_zero : goal.returns-then-has_leading_zero
returns-then-has_leading_zero c = zero_first c.args.text.now _ _ c.digits_len.result c.digits_len.ensures.run c.digits_len.ensures.whole c.split_at.ensures.front c.split_at.ensures.back c.has_leading_zero.result c.has_leading_zero.ensures c.if-has_leading_zero.true

pub returns : goal.returns
returns c = small_value c.args.text.now _ _ c.digits_len.result c.digits_len.ensures.run c.digits_len.ensures.whole c.split_at.ensures.front c.split_at.ensures.back c.has_leading_zero.result c.has_leading_zero.ensures c.in_ok-value_of.field-0 c.literal_with.result c.if-has_leading_zero.false c.in_ok-value_of.ensures.1 c.literal_with.ensures

pub returns-in_err-value_of : goal.returns-in_err-value_of
returns-in_err-value_of c = rw c.from_residual.ensures (large_value c.args.text.now _ _ c.digits_len.result c.digits_len.ensures.run c.digits_len.ensures.whole c.split_at.ensures.front c.split_at.ensures.back c.has_leading_zero.result c.has_leading_zero.ensures c.if-has_leading_zero.false c.in_err-value_of.ensures)
