use Rattle.std.proofs.Common.{refl}
use Rattle.wf_named.specs.WellNamed.{well_named}
use Rattle.wf_named.proofs.examples.packages_by_the_rules_of_names.Goals as goal

pub returns-clause-counting : goal.returns-clause-counting
unfolding well_named
returns-clause-counting c = refl

pub returns-clause-leaving_two : goal.returns-clause-leaving_two
unfolding well_named
returns-clause-leaving_two c = refl

pub returns-clause-wrong_kind : goal.returns-clause-wrong_kind
unfolding well_named
returns-clause-wrong_kind c = refl

pub returns-clause-no_argument : goal.returns-clause-no_argument
unfolding well_named
returns-clause-no_argument c = refl

pub returns-clause-no_struct : goal.returns-clause-no_struct
unfolding well_named
returns-clause-no_struct c = refl

pub returns-clause-no_local : goal.returns-clause-no_local
unfolding well_named
returns-clause-no_local c = refl

pub returns-clause-caller_first : goal.returns-clause-caller_first
unfolding well_named
returns-clause-caller_first c = refl

pub returns-clause-cycle : goal.returns-clause-cycle
unfolding well_named
returns-clause-cycle c = refl

pub returns-clause-holding_itself : goal.returns-clause-holding_itself
unfolding well_named
returns-clause-holding_itself c = refl

pub returns-clause-struct_left_out : goal.returns-clause-struct_left_out
unfolding well_named
returns-clause-struct_left_out c = refl
