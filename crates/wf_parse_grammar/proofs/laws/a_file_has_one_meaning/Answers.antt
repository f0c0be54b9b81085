use Rattle.wf_parse_grammar.proofs.Building.{one-meaning}
use Rattle.wf_parse_grammar.proofs.laws.a_file_has_one_meaning.Goals as goal

pub returns : goal.returns
returns c f g e = one-meaning f g e
