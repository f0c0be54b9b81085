use Rattle.std.proofs.Common.{refl}
use Rattle.wf_text.specs.Precedence.{is_before}
use Rattle.wf_names_uses.proofs.examples.names_are_looked_for_everywhere.Goals as goal

pub returns-clause-there : goal.returns-clause-there
unfolding is_before
returns-clause-there c = refl

pub returns-clause-nowhere : goal.returns-clause-nowhere
unfolding is_before
returns-clause-nowhere c = refl

pub returns-clause-structs : goal.returns-clause-structs
unfolding is_before
returns-clause-structs c = refl

pub returns-clause-no_structs : goal.returns-clause-no_structs
unfolding is_before
returns-clause-no_structs c = refl
