use Rattle.wf_parse_grammar.proofs.Verdicts.{built-accepted, accepted-built}
use Rattle.wf_parse_grammar.proofs.laws.what_is_accepted_is_built.Goals as goal

pub returns-clause-accepted : goal.returns-clause-accepted
returns-clause-accepted c room tokens decls made e = built-accepted room tokens decls made e

pub returns-clause-built : goal.returns-clause-built
returns-clause-built c room tokens decls trees a = accepted-built room tokens decls trees a
