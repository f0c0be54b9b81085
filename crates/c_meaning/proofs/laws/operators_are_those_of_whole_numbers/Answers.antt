use Rattle.c_meaning.proofs.Operators.{sum_gives, difference_gives, product_gives, quotient_gives, remainder_gives, shifted_left_gives, shifted_right_gives, conversion_keeps, sum_undefined, difference_undefined, product_undefined, quotient_undefined, remainder_undefined}
use Rattle.c_meaning.proofs.laws.operators_are_those_of_whole_numbers.Goals as goal

pub returns-clause-sum : goal.returns-clause-sum
returns-clause-sum c = sum_gives

pub returns-clause-difference : goal.returns-clause-difference
returns-clause-difference c = difference_gives

pub returns-clause-product : goal.returns-clause-product
returns-clause-product c = product_gives

pub returns-clause-quotient : goal.returns-clause-quotient
returns-clause-quotient c = quotient_gives

pub returns-clause-remainder : goal.returns-clause-remainder
returns-clause-remainder c = remainder_gives

pub returns-clause-shifted_left : goal.returns-clause-shifted_left
returns-clause-shifted_left c = shifted_left_gives

pub returns-clause-shifted_right : goal.returns-clause-shifted_right
returns-clause-shifted_right c = shifted_right_gives

pub returns-clause-conversion : goal.returns-clause-conversion
returns-clause-conversion c = conversion_keeps

pub returns-clause-undefined_sum : goal.returns-clause-undefined_sum
returns-clause-undefined_sum c = sum_undefined

pub returns-clause-undefined_difference : goal.returns-clause-undefined_difference
returns-clause-undefined_difference c = difference_undefined

pub returns-clause-undefined_product : goal.returns-clause-undefined_product
returns-clause-undefined_product c = product_undefined

pub returns-clause-undefined_quotient : goal.returns-clause-undefined_quotient
returns-clause-undefined_quotient c = quotient_undefined

pub returns-clause-undefined_remainder : goal.returns-clause-undefined_remainder
returns-clause-undefined_remainder c = remainder_undefined
