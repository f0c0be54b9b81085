use Rattle.c_text.specs.CLayout.{text_of}
use Rattle.c_text.specs.CNodes.{unit_tree}
use Rattle.c_read.proofs.ReadBack.{read_back}
use Rattle.c_read.proofs.laws.what_is_printed_is_read_back.Goals as goal

pub returns : goal.returns
returns c = λ answer shallow answers. read_back (text_of (unit_tree c.args.u.now)) (unit_tree c.args.u.now) answer c.printed_is_a_text.ensures shallow answers
