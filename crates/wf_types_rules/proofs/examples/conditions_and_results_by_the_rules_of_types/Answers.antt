use Rattle.std.proofs.Common.{refl}
use Rattle.wf_text.specs.Precedence.{is_before}
use Rattle.wf_types_rules.specs.Parts.{sites}
use Rattle.wf_types_rules.specs.FirstBreak.{deciding}
use Rattle.wf_types_rules.proofs.examples.conditions_and_results_by_the_rules_of_types.Goals as goal

pub returns-clause-a_number : goal.returns-clause-a_number
unfolding deciding sites is_before
returns-clause-a_number c = refl

pub returns-clause-a_flag : goal.returns-clause-a_flag
unfolding deciding sites is_before
returns-clause-a_flag c = refl

pub returns-clause-a_result : goal.returns-clause-a_result
unfolding deciding sites is_before
returns-clause-a_result c = refl

pub returns-clause-nothing : goal.returns-clause-nothing
unfolding deciding sites is_before
returns-clause-nothing c = refl

pub returns-clause-another_type : goal.returns-clause-another_type
unfolding deciding sites is_before
returns-clause-another_type c = refl

pub returns-clause-a_result_of_any_size : goal.returns-clause-a_result_of_any_size
unfolding deciding sites is_before
returns-clause-a_result_of_any_size c = refl

pub returns-clause-the_end : goal.returns-clause-the_end
unfolding deciding sites is_before
returns-clause-the_end c = refl

pub returns-clause-a_loop_without_end : goal.returns-clause-a_loop_without_end
unfolding deciding sites is_before
returns-clause-a_loop_without_end c = refl

pub returns-clause-a_loop_that_is_left : goal.returns-clause-a_loop_that_is_left
unfolding deciding sites is_before
returns-clause-a_loop_that_is_left c = refl

pub returns-clause-half_an_if : goal.returns-clause-half_an_if
unfolding deciding sites is_before
returns-clause-half_an_if c = refl

pub returns-clause-a_whole_if : goal.returns-clause-a_whole_if
unfolding deciding sites is_before
returns-clause-a_whole_if c = refl

pub returns-clause-a_value_of_no_result : goal.returns-clause-a_value_of_no_result
unfolding deciding sites is_before
returns-clause-a_value_of_no_result c = refl

pub returns-clause-no_status : goal.returns-clause-no_status
unfolding deciding sites is_before
returns-clause-no_status c = refl

pub returns-clause-a_status : goal.returns-clause-a_status
unfolding deciding sites is_before
returns-clause-a_status c = refl
