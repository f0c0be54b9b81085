use Rattle.c_read_grammar.proofs.OneOutcome.{one-outcome}
use Rattle.c_read_grammar.proofs.laws.bytes_have_one_outcome.Goals as goal

pub returns : goal.returns
returns c bytes a b x y = one-outcome bytes a b x y
