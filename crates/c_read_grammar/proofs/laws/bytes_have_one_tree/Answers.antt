use Rattle.c_read_grammar.proofs.TextTokens.{one-text}
use Rattle.c_read_grammar.proofs.laws.bytes_have_one_tree.Goals as goal

pub returns : goal.returns
returns c bytes a b x y = one-text bytes a b x y
