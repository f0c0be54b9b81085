use Rattle.wf_parse_grammar.proofs.Verdicts.{accepted-once, accepted-refused, refused-once}
use Rattle.wf_parse_grammar.proofs.laws.one_verdict.Goals as goal

pub returns-clause-accepted : goal.returns-clause-accepted
returns-clause-accepted c tokens trees others a b = accepted-once tokens trees others a b

pub returns-clause-either : goal.returns-clause-either
returns-clause-either c tokens trees rule left a b = accepted-refused tokens trees rule left a b

pub returns-clause-refused : goal.returns-clause-refused
returns-clause-refused c tokens rule other left last a b = refused-once tokens rule other left last a b
