use Rattle.c_read_grammar.proofs.ReadsItems.{reads-unit}
use Rattle.c_read_grammar.proofs.laws.every_text_is_read.Goals as goal

pub returns : goal.returns
returns c unit l = reads-unit unit l
