use Rattle.std.proofs.Common.{refl}
use Rattle.wf_text.specs.Precedence.{is_before}
use Rattle.wf_names_uses.proofs.examples.statuses_by_the_rules_of_names.Goals as goal

pub returns-clause-declared : goal.returns-clause-declared
unfolding is_before
returns-clause-declared c = refl

pub returns-clause-not_declared : goal.returns-clause-not_declared
unfolding is_before
returns-clause-not_declared c = refl

pub returns-clause-of_the_language : goal.returns-clause-of_the_language
unfolding is_before
returns-clause-of_the_language c = refl

pub returns-clause-not_of_the_language : goal.returns-clause-not_of_the_language
unfolding is_before
returns-clause-not_of_the_language c = refl

pub returns-clause-of_the_package : goal.returns-clause-of_the_package
unfolding is_before
returns-clause-of_the_package c = refl
