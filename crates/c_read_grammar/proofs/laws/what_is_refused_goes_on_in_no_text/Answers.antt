use Rattle.c_read_grammar.proofs.Refusal.{dead-token}
use Rattle.c_read_grammar.proofs.laws.what_is_refused_goes_on_in_no_text.Goals as goal

pub returns : goal.returns
returns c front token last h stuck l = dead-token front token last h stuck l
