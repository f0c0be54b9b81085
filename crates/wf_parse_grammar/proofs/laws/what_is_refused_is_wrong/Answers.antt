use Rattle.wf_parse_grammar.proofs.Verdicts.{built-refused, refused-run}
use Rattle.wf_parse_grammar.proofs.laws.what_is_refused_is_wrong.Goals as goal

pub returns-clause-wrong : goal.returns-clause-wrong
returns-clause-wrong c room tokens decls rule left e = built-refused room tokens decls rule left e

pub returns-clause-refused : goal.returns-clause-refused
returns-clause-refused c room tokens decls rule left h = refused-run room tokens decls rule left h
