use Rattle.c_read_grammar.proofs.OneSpelling.{one-spelling}
use Rattle.c_read_grammar.proofs.laws.bytes_have_one_spelling.Goals as goal

pub returns : goal.returns
returns c bytes tokens others l m s v = one-spelling tokens others l m bytes s v
