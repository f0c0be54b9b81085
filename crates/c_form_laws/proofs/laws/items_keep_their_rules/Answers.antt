use Rattle.c_form_laws.proofs.UnitLaws.{item-decides}
use Rattle.c_form_laws.proofs.laws.items_keep_their_rules.Goals as goal

pub returns : goal.returns
returns c = λ p before all item. ((item-decides p before all item).1, (item-decides p before all item).0)
