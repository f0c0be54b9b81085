use Rattle.wf_parse_grammar.proofs.StatementCounts.{accepted-short}
use Rattle.wf_parse_grammar.proofs.laws.accepted_methods_are_short.Goals as goal

pub returns : goal.returns
returns c tokens trees a = accepted-short tokens trees a
