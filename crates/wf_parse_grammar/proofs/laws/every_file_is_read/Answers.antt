use Rattle.std.proofs.Common.{[]}
use Rattle.wf_parse_grammar.proofs.ForwardMore.{fw-file}
use Rattle.wf_parse_grammar.proofs.laws.every_file_is_read.Goals as goal

pub returns : goal.returns
returns c f = fw-file f [] []
