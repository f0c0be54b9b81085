use Rattle.std.proofs.Common.{refl}
use Rattle.wf_text.specs.Precedence.{is_before}
use Rattle.wf_names_uses.proofs.examples.the_least_place_decides_among_uses.Goals as goal

pub returns-clause-two_names : goal.returns-clause-two_names
unfolding is_before
returns-clause-two_names c = refl

pub returns-clause-the_first_is_there : goal.returns-clause-the_first_is_there
unfolding is_before
returns-clause-the_first_is_there c = refl

pub returns-clause-method_and_value : goal.returns-clause-method_and_value
unfolding is_before
returns-clause-method_and_value c = refl

pub returns-clause-value_alone : goal.returns-clause-value_alone
unfolding is_before
returns-clause-value_alone c = refl

pub returns-clause-no_method_no_arguments : goal.returns-clause-no_method_no_arguments
unfolding is_before
returns-clause-no_method_no_arguments c = refl

pub returns-clause-missing_and_unknown : goal.returns-clause-missing_and_unknown
unfolding is_before
returns-clause-missing_and_unknown c = refl

pub returns-clause-twice_and_unknown : goal.returns-clause-twice_and_unknown
unfolding is_before
returns-clause-twice_and_unknown c = refl

pub returns-clause-unknown_and_twice : goal.returns-clause-unknown_and_twice
unfolding is_before
returns-clause-unknown_and_twice c = refl

pub returns-clause-missing_and_private : goal.returns-clause-missing_and_private
unfolding is_before
returns-clause-missing_and_private c = refl

pub returns-clause-twice_and_unknown_at_one_place : goal.returns-clause-twice_and_unknown_at_one_place
unfolding is_before
returns-clause-twice_and_unknown_at_one_place c = refl

pub returns-clause-owner_in_front_of_a_constant : goal.returns-clause-owner_in_front_of_a_constant
unfolding is_before
returns-clause-owner_in_front_of_a_constant c = refl

pub returns-clause-the_struct_of_a_field : goal.returns-clause-the_struct_of_a_field
unfolding is_before
returns-clause-the_struct_of_a_field c = refl

pub returns-clause-found_in_front : goal.returns-clause-found_in_front
unfolding is_before
returns-clause-found_in_front c = refl

pub returns-clause-found_behind : goal.returns-clause-found_behind
unfolding is_before
returns-clause-found_behind c = refl

pub returns-clause-found_before_alone : goal.returns-clause-found_before_alone
unfolding is_before
returns-clause-found_before_alone c = refl
