use Rattle.std.proofs.Common.{refl}
use Rattle.wf_text.specs.Precedence.{is_before}
use Rattle.wf_names_uses.proofs.examples.structs_by_the_rules_of_names.Goals as goal

pub returns-clause-in_front_of_it : goal.returns-clause-in_front_of_it
unfolding is_before
returns-clause-in_front_of_it c = refl

pub returns-clause-none : goal.returns-clause-none
unfolding is_before
returns-clause-none c = refl

pub returns-clause-in_an_array : goal.returns-clause-in_an_array
unfolding is_before
returns-clause-in_an_array c = refl

pub returns-clause-none_in_an_array : goal.returns-clause-none_in_an_array
unfolding is_before
returns-clause-none_in_an_array c = refl

pub returns-clause-no_length : goal.returns-clause-no_length
unfolding is_before
returns-clause-no_length c = refl

pub returns-clause-an_owner : goal.returns-clause-an_owner
unfolding is_before
returns-clause-an_owner c = refl

pub returns-clause-no_owner : goal.returns-clause-no_owner
unfolding is_before
returns-clause-no_owner c = refl
