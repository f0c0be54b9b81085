use Rattle.std.proofs.Common.{refl}
use Rattle.wf_text.specs.Precedence.{is_before}
use Rattle.wf_names_uses.proofs.examples.arguments_by_the_rules_of_names.Goals as goal

pub returns-clause-in_another_order : goal.returns-clause-in_another_order
unfolding is_before
returns-clause-in_another_order c = refl

pub returns-clause-given_twice : goal.returns-clause-given_twice
unfolding is_before
returns-clause-given_twice c = refl

pub returns-clause-a_number_passed_twice : goal.returns-clause-a_number_passed_twice
unfolding is_before
returns-clause-a_number_passed_twice c = refl

pub returns-clause-a_reader_passed_twice : goal.returns-clause-a_reader_passed_twice
unfolding is_before
returns-clause-a_reader_passed_twice c = refl

pub returns-clause-a_writer_passed_twice : goal.returns-clause-a_writer_passed_twice
unfolding is_before
returns-clause-a_writer_passed_twice c = refl

pub returns-clause-two_readers : goal.returns-clause-two_readers
unfolding is_before
returns-clause-two_readers c = refl

pub returns-clause-unknown : goal.returns-clause-unknown
unfolding is_before
returns-clause-unknown c = refl

pub returns-clause-missing : goal.returns-clause-missing
unfolding is_before
returns-clause-missing c = refl

pub returns-clause-unknown_of_the_language : goal.returns-clause-unknown_of_the_language
unfolding is_before
returns-clause-unknown_of_the_language c = refl

pub returns-clause-missing_of_the_language : goal.returns-clause-missing_of_the_language
unfolding is_before
returns-clause-missing_of_the_language c = refl

pub returns-clause-none_wanted : goal.returns-clause-none_wanted
unfolding is_before
returns-clause-none_wanted c = refl
