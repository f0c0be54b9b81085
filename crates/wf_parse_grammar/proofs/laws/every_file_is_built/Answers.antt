use Rattle.wf_parse_grammar.proofs.Building.{file-built}
use Rattle.wf_parse_grammar.proofs.laws.every_file_is_built.Goals as goal

pub returns : goal.returns
returns c f room decls = file-built f room decls
