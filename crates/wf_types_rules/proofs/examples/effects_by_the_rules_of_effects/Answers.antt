use Rattle.std.proofs.Common.{refl}
use Rattle.wf_text.specs.Precedence.{is_before}
use Rattle.wf_types_rules.specs.Parts.{sites}
use Rattle.wf_types_rules.specs.FirstBreak.{deciding}
use Rattle.wf_types_rules.proofs.examples.effects_by_the_rules_of_effects.Goals as goal

pub returns-clause-a_pure_write : goal.returns-clause-a_pure_write
unfolding deciding sites is_before
returns-clause-a_pure_write c = refl

pub returns-clause-an_impure_write : goal.returns-clause-an_impure_write
unfolding deciding sites is_before
returns-clause-an_impure_write c = refl

pub returns-clause-a_pure_write_of_a_local : goal.returns-clause-a_pure_write_of_a_local
unfolding deciding sites is_before
returns-clause-a_pure_write_of_a_local c = refl

pub returns-clause-a_pure_write_of_an_element : goal.returns-clause-a_pure_write_of_an_element
unfolding deciding sites is_before
returns-clause-a_pure_write_of_an_element c = refl

pub returns-clause-an_impure_read : goal.returns-clause-an_impure_read
unfolding deciding sites is_before
returns-clause-an_impure_read c = refl

pub returns-clause-a_read_inside : goal.returns-clause-a_read_inside
unfolding deciding sites is_before
returns-clause-a_read_inside c = refl

pub returns-clause-an_own_call_inside : goal.returns-clause-an_own_call_inside
unfolding deciding sites is_before
returns-clause-an_own_call_inside c = refl

pub returns-clause-another_mark : goal.returns-clause-another_mark
unfolding deciding sites is_before
returns-clause-another_mark c = refl

pub returns-clause-kept : goal.returns-clause-kept
unfolding deciding sites is_before
returns-clause-kept c = refl

pub returns-clause-kept_in_a_byte : goal.returns-clause-kept_in_a_byte
unfolding deciding sites is_before
returns-clause-kept_in_a_byte c = refl

pub returns-clause-kept_of_a_read : goal.returns-clause-kept_of_a_read
unfolding deciding sites is_before
returns-clause-kept_of_a_read c = refl

pub returns-clause-kept_outside : goal.returns-clause-kept_outside
unfolding deciding sites is_before
returns-clause-kept_outside c = refl

pub returns-clause-a_yield : goal.returns-clause-a_yield
unfolding deciding sites is_before
returns-clause-a_yield c = refl

pub returns-clause-a_yield_of_an_error : goal.returns-clause-a_yield_of_an_error
unfolding deciding sites is_before
returns-clause-a_yield_of_an_error c = refl

pub returns-clause-a_yield_outside : goal.returns-clause-a_yield_outside
unfolding deciding sites is_before
returns-clause-a_yield_outside c = refl
