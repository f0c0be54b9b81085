use Rattle.c_read_grammar.proofs.Refusal.{dead-end}
use Rattle.c_read_grammar.proofs.laws.what_ends_too_early_is_no_text.Goals as goal

pub returns : goal.returns
returns c tokens last h stuck l = dead-end tokens last h stuck l
