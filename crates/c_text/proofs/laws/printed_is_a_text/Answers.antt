use Rattle.c_text.specs.CNodes.{unit_tree}
use Rattle.c_text.proofs.SpelledCode.{printed}
use Rattle.c_text.proofs.laws.printed_is_a_text.Goals as goal

pub returns : goal.returns
returns c = printed (unit_tree c.args.u.now) c.is_lawful.ensures
