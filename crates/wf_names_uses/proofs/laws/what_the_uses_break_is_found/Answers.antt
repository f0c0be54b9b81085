use Rattle.wf_names_uses.proofs.UseLaws.{uses_found-decides}
use Rattle.wf_names_uses.proofs.laws.what_the_uses_break_is_found.Goals as goal

pub returns : goal.returns
returns c d = uses_found-decides d
