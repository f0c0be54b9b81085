use Rattle.std.proofs.Common.{refl}
use Rattle.wf_text.specs.Precedence.{is_before}
use Rattle.wf_types_rules.specs.Parts.{sites}
use Rattle.wf_types_rules.specs.FirstBreak.{deciding}
use Rattle.wf_types_rules.proofs.examples.constants_by_the_rules_of_types.Goals as goal

pub returns-clause-byte_255 : goal.returns-clause-byte_255
unfolding deciding sites is_before
returns-clause-byte_255 c = refl

pub returns-clause-byte_256 : goal.returns-clause-byte_256
unfolding deciding sites is_before
returns-clause-byte_256 c = refl

pub returns-clause-below_zero : goal.returns-clause-below_zero
unfolding deciding sites is_before
returns-clause-below_zero c = refl

pub returns-clause-divided_by_zero : goal.returns-clause-divided_by_zero
unfolding deciding sites is_before
returns-clause-divided_by_zero c = refl

pub returns-clause-shift_by_64 : goal.returns-clause-shift_by_64
unfolding deciding sites is_before
returns-clause-shift_by_64 c = refl

pub returns-clause-shift_by_63_back : goal.returns-clause-shift_by_63_back
unfolding deciding sites is_before
returns-clause-shift_by_63_back c = refl

pub returns-clause-whole_product : goal.returns-clause-whole_product
unfolding deciding sites is_before
returns-clause-whole_product c = refl

pub returns-clause-narrowed : goal.returns-clause-narrowed
unfolding deciding sites is_before
returns-clause-narrowed c = refl

pub returns-clause-beside_a_byte : goal.returns-clause-beside_a_byte
unfolding deciding sites is_before
returns-clause-beside_a_byte c = refl

pub returns-clause-no_number : goal.returns-clause-no_number
unfolding deciding sites is_before
returns-clause-no_number c = refl

pub returns-clause-no_numeric_type : goal.returns-clause-no_numeric_type
unfolding deciding sites is_before
returns-clause-no_numeric_type c = refl

pub returns-clause-no_type : goal.returns-clause-no_type
unfolding deciding sites is_before
returns-clause-no_type c = refl

pub returns-clause-crossed : goal.returns-clause-crossed
unfolding deciding sites is_before
returns-clause-crossed c = refl

pub returns-clause-too_high : goal.returns-clause-too_high
unfolding deciding sites is_before
returns-clause-too_high c = refl

pub returns-clause-outside_its_bounds : goal.returns-clause-outside_its_bounds
unfolding deciding sites is_before
returns-clause-outside_its_bounds c = refl

pub returns-clause-within_its_bounds : goal.returns-clause-within_its_bounds
unfolding deciding sites is_before
returns-clause-within_its_bounds c = refl

pub returns-clause-an_empty_array : goal.returns-clause-an_empty_array
unfolding deciding sites is_before
returns-clause-an_empty_array c = refl

pub returns-clause-a_slice_out_of_bounds : goal.returns-clause-a_slice_out_of_bounds
unfolding deciding sites is_before
returns-clause-a_slice_out_of_bounds c = refl

pub returns-clause-a_slice_of_no_type : goal.returns-clause-a_slice_of_no_type
unfolding deciding sites is_before
returns-clause-a_slice_of_no_type c = refl
