use Rattle.std.proofs.Common.{◌∙◌}
use Rattle.c_read_tokens.proofs.WordTable.{word_found}
use Rattle.c_read_tokens.proofs.words.word_of.Goals as goal

pub returns : goal.returns
returns c = c.find_word.ensures ∙ word_found c.args.text.now
