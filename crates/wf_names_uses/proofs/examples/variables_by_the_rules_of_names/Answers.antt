use Rattle.std.proofs.Common.{refl}
use Rattle.wf_text.specs.Precedence.{is_before}
use Rattle.wf_names_uses.proofs.examples.variables_by_the_rules_of_names.Goals as goal

pub returns-clause-a_local : goal.returns-clause-a_local
unfolding is_before
returns-clause-a_local c = refl

pub returns-clause-a_constant : goal.returns-clause-a_constant
unfolding is_before
returns-clause-a_constant c = refl

pub returns-clause-neither : goal.returns-clause-neither
unfolding is_before
returns-clause-neither c = refl

pub returns-clause-a_field_as_a_local : goal.returns-clause-a_field_as_a_local
unfolding is_before
returns-clause-a_field_as_a_local c = refl

pub returns-clause-an_argument_as_a_local : goal.returns-clause-an_argument_as_a_local
unfolding is_before
returns-clause-an_argument_as_a_local c = refl

pub returns-clause-a_field : goal.returns-clause-a_field
unfolding is_before
returns-clause-a_field c = refl

pub returns-clause-no_field : goal.returns-clause-no_field
unfolding is_before
returns-clause-no_field c = refl

pub returns-clause-a_local_as_a_field : goal.returns-clause-a_local_as_a_field
unfolding is_before
returns-clause-a_local_as_a_field c = refl

pub returns-clause-an_argument : goal.returns-clause-an_argument
unfolding is_before
returns-clause-an_argument c = refl

pub returns-clause-no_argument : goal.returns-clause-no_argument
unfolding is_before
returns-clause-no_argument c = refl

pub returns-clause-an_argument_of_another_method : goal.returns-clause-an_argument_of_another_method
unfolding is_before
returns-clause-an_argument_of_another_method c = refl

pub returns-clause-a_target : goal.returns-clause-a_target
unfolding is_before
returns-clause-a_target c = refl

pub returns-clause-no_target : goal.returns-clause-no_target
unfolding is_before
returns-clause-no_target c = refl
