use Rattle.std.proofs.Common.{◌∙◌, ap, is_some}
use Rattle.c_read_tokens.proofs.WordTable.{reserved_found}
use Rattle.c_read_tokens.proofs.words.is_reserved.Goals as goal

pub returns : goal.returns
returns c = c.is_some.ensures ∙ ap is_some c.find_reserved.ensures ∙ reserved_found c.args.text.now
