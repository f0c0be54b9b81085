use Rattle.c_read_grammar.proofs.Refusal.{read-unit}
use Rattle.c_read_grammar.proofs.laws.what_is_read_is_a_text.Goals as goal

pub returns : goal.returns
returns c tokens made l h = read-unit tokens made l h
