use Rattle.std.proofs.Common.{refl}
use Rattle.wf_text.specs.Precedence.{is_before}
use Rattle.wf_types_rules.specs.Parts.{sites}
use Rattle.wf_types_rules.specs.FirstBreak.{deciding}
use Rattle.wf_types_rules.proofs.examples.targets_by_the_rules_of_types.Goals as goal

pub returns-clause-an_argument : goal.returns-clause-an_argument
unfolding deciding sites is_before
returns-clause-an_argument c = refl

pub returns-clause-an_array : goal.returns-clause-an_array
unfolding deciding sites is_before
returns-clause-an_array c = refl

pub returns-clause-an_element : goal.returns-clause-an_element
unfolding deciding sites is_before
returns-clause-an_element c = refl

pub returns-clause-of_another_type : goal.returns-clause-of_another_type
unfolding deciding sites is_before
returns-clause-of_another_type c = refl

pub returns-clause-of_another_width : goal.returns-clause-of_another_width
unfolding deciding sites is_before
returns-clause-of_another_width c = refl

pub returns-clause-a_number_of_any_size : goal.returns-clause-a_number_of_any_size
unfolding deciding sites is_before
returns-clause-a_number_of_any_size c = refl

pub returns-clause-no_value : goal.returns-clause-no_value
unfolding deciding sites is_before
returns-clause-no_value c = refl

pub returns-clause-a_byte_that_is_read : goal.returns-clause-a_byte_that_is_read
unfolding deciding sites is_before
returns-clause-a_byte_that_is_read c = refl

pub returns-clause-an_answer_of_another_width : goal.returns-clause-an_answer_of_another_width
unfolding deciding sites is_before
returns-clause-an_answer_of_another_width c = refl

pub returns-clause-an_answer : goal.returns-clause-an_answer
unfolding deciding sites is_before
returns-clause-an_answer c = refl

pub returns-clause-a_wrong_argument : goal.returns-clause-a_wrong_argument
unfolding deciding sites is_before
returns-clause-a_wrong_argument c = refl

pub returns-clause-an_argument_of_any_size : goal.returns-clause-an_argument_of_any_size
unfolding deciding sites is_before
returns-clause-an_argument_of_any_size c = refl

pub returns-clause-both_wrong : goal.returns-clause-both_wrong
unfolding deciding sites is_before
returns-clause-both_wrong c = refl
