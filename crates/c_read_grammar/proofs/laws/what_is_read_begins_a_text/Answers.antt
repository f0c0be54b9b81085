use Rattle.c_read_grammar.proofs.Live.{live}
use Rattle.c_read_grammar.proofs.laws.what_is_read_begins_a_text.Goals as goal

pub returns : goal.returns
returns c front last l h = live front last l h
