use Rattle.std.proofs.Common.{refl}
use Rattle.wf_text.specs.Precedence.{is_before}
use Rattle.wf_types_rules.specs.Parts.{sites}
use Rattle.wf_types_rules.specs.FirstBreak.{deciding}
use Rattle.wf_types_rules.proofs.examples.operands_by_the_rules_of_types.Goals as goal

pub returns-clause-one_width : goal.returns-clause-one_width
unfolding deciding sites is_before
returns-clause-one_width c = refl

pub returns-clause-two_widths : goal.returns-clause-two_widths
unfolding deciding sites is_before
returns-clause-two_widths c = refl

pub returns-clause-a_bool : goal.returns-clause-a_bool
unfolding deciding sites is_before
returns-clause-a_bool c = refl

pub returns-clause-unfit_constant : goal.returns-clause-unfit_constant
unfolding deciding sites is_before
returns-clause-unfit_constant c = refl

pub returns-clause-fit_constant : goal.returns-clause-fit_constant
unfolding deciding sites is_before
returns-clause-fit_constant c = refl

pub returns-clause-wide_shift : goal.returns-clause-wide_shift
unfolding deciding sites is_before
returns-clause-wide_shift c = refl

pub returns-clause-shift_without_width : goal.returns-clause-shift_without_width
unfolding deciding sites is_before
returns-clause-shift_without_width c = refl

pub returns-clause-whole_array : goal.returns-clause-whole_array
unfolding deciding sites is_before
returns-clause-whole_array c = refl

pub returns-clause-an_element : goal.returns-clause-an_element
unfolding deciding sites is_before
returns-clause-an_element c = refl

pub returns-clause-element_of_a_number : goal.returns-clause-element_of_a_number
unfolding deciding sites is_before
returns-clause-element_of_a_number c = refl

pub returns-clause-index_by_a_bool : goal.returns-clause-index_by_a_bool
unfolding deciding sites is_before
returns-clause-index_by_a_bool c = refl

pub returns-clause-added_to_a_bool : goal.returns-clause-added_to_a_bool
unfolding deciding sites is_before
returns-clause-added_to_a_bool c = refl

pub returns-clause-added_to_a_byte : goal.returns-clause-added_to_a_byte
unfolding deciding sites is_before
returns-clause-added_to_a_byte c = refl
