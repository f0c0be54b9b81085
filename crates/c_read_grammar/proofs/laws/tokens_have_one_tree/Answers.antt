use Rattle.c_read_grammar.proofs.Refusal.{one-tree}
use Rattle.c_read_grammar.proofs.laws.tokens_have_one_tree.Goals as goal

pub returns : goal.returns
returns c a b la lb h = one-tree a b la lb h
