use Rattle.std.proofs.Common.{false}
use Rattle.wf_facts_exprs.proofs.Soundness.{gives-true, sides-given}
use Rattle.wf_facts_exprs.proofs.laws.what_is_given_is_true.Goals as goal

pub returns-clause-conditions : goal.returns-clause-conditions
returns-clause-conditions k c s fs t answer lawful well claims h e g = gives-true c s lawful fs well claims false t answer h e g

pub returns-clause-sides : goal.returns-clause-sides
returns-clause-sides k c s fs a b op lawful well claims wa wb ea eb g = sides-given c s lawful fs well claims a b op wa wb ea eb g
