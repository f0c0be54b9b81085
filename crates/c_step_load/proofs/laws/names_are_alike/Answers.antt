use Rattle.c_text.specs.CNodes.{unit_tree}
use Rattle.c_step_load.proofs.NameLaws.{items_alike, items_apart}
use Rattle.c_step_load.proofs.laws.names_are_alike.Goals as goal

pub returns-clause-alike : goal.returns-clause-alike
returns-clause-alike c = items_alike c.is_formed.ensures.0 (unit_tree c.args.formed.now) c.is_formed.ensures.1

pub returns-clause-apart : goal.returns-clause-apart
returns-clause-apart c = items_apart c.is_formed.ensures.0 (unit_tree c.args.formed.now) c.is_formed.ensures.1
