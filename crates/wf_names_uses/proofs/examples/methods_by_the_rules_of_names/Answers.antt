use Rattle.std.proofs.Common.{refl}
use Rattle.wf_text.specs.Precedence.{is_before}
use Rattle.wf_names_uses.proofs.examples.methods_by_the_rules_of_names.Goals as goal

pub returns-clause-on_this : goal.returns-clause-on_this
unfolding is_before
returns-clause-on_this c = refl

pub returns-clause-of_another_struct : goal.returns-clause-of_another_struct
unfolding is_before
returns-clause-of_another_struct c = refl

pub returns-clause-of_none : goal.returns-clause-of_none
unfolding is_before
returns-clause-of_none c = refl

pub returns-clause-through_a_field : goal.returns-clause-through_a_field
unfolding is_before
returns-clause-through_a_field c = refl

pub returns-clause-private_through_a_field : goal.returns-clause-private_through_a_field
unfolding is_before
returns-clause-private_through_a_field c = refl

pub returns-clause-of_this_through_a_field : goal.returns-clause-of_this_through_a_field
unfolding is_before
returns-clause-of_this_through_a_field c = refl

pub returns-clause-on_a_reader : goal.returns-clause-on_a_reader
unfolding is_before
returns-clause-on_a_reader c = refl

pub returns-clause-on_a_writer : goal.returns-clause-on_a_writer
unfolding is_before
returns-clause-on_a_writer c = refl

pub returns-clause-on_a_number : goal.returns-clause-on_a_number
unfolding is_before
returns-clause-on_a_number c = refl

pub returns-clause-on_a_struct_that_is_no_field : goal.returns-clause-on_a_struct_that_is_no_field
unfolding is_before
returns-clause-on_a_struct_that_is_no_field c = refl

pub returns-clause-on_nothing : goal.returns-clause-on_nothing
unfolding is_before
returns-clause-on_nothing c = refl
