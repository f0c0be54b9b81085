use Rattle.std.proofs.Common.{refl}
use Rattle.wf_text.specs.Precedence.{is_before}
use Rattle.wf_names_uses.proofs.examples.constants_by_the_rules_of_names.Goals as goal

pub returns-clause-in_front : goal.returns-clause-in_front
unfolding is_before
returns-clause-in_front c = refl

pub returns-clause-behind : goal.returns-clause-behind
unfolding is_before
returns-clause-behind c = refl

pub returns-clause-itself : goal.returns-clause-itself
unfolding is_before
returns-clause-itself c = refl

pub returns-clause-a_bound_in_front : goal.returns-clause-a_bound_in_front
unfolding is_before
returns-clause-a_bound_in_front c = refl

pub returns-clause-a_bound_behind : goal.returns-clause-a_bound_behind
unfolding is_before
returns-clause-a_bound_behind c = refl

pub returns-clause-a_field : goal.returns-clause-a_field
unfolding is_before
returns-clause-a_field c = refl
