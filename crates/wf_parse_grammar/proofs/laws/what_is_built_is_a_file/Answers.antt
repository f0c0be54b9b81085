use Rattle.wf_parse_grammar.proofs.Building.{built-file}
use Rattle.wf_parse_grammar.proofs.laws.what_is_built_is_a_file.Goals as goal

pub returns : goal.returns
returns c limited room tokens decls made e = built-file limited room tokens decls made e
