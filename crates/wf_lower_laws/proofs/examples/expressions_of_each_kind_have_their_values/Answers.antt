use Rattle.wf_lower_laws.proofs.MixerValues.{operates, five_there, sum_gives, element_gives, shift_gives, product_gives, part_gives, part_begins, condition_gives, negation_gives, kept_true, kept_false}
use Rattle.wf_lower_laws.proofs.examples.expressions_of_each_kind_have_their_values.Goals as goal

pub returns-clause-declares : goal.returns-clause-declares
returns-clause-declares c = (operates, (tt, (tt, tt)))

pub returns-clause-constant : goal.returns-clause-constant
returns-clause-constant c = five_there

pub returns-clause-sum : goal.returns-clause-sum
returns-clause-sum c = sum_gives

pub returns-clause-element : goal.returns-clause-element
returns-clause-element c = element_gives

pub returns-clause-shift : goal.returns-clause-shift
returns-clause-shift c = shift_gives

pub returns-clause-product : goal.returns-clause-product
returns-clause-product c = product_gives

pub returns-clause-part : goal.returns-clause-part
returns-clause-part c = part_gives

pub returns-clause-pointer : goal.returns-clause-pointer
returns-clause-pointer c = part_begins

pub returns-clause-condition : goal.returns-clause-condition
returns-clause-condition c = condition_gives

pub returns-clause-negation : goal.returns-clause-negation
returns-clause-negation c = negation_gives

pub returns-clause-kept : goal.returns-clause-kept
returns-clause-kept c = kept_true

pub returns-clause-kept_negation : goal.returns-clause-kept_negation
returns-clause-kept_negation c = kept_false
