use Rattle.std.proofs.Common.{is_some, ap, ◌∙◌}
use Rattle.c_form_exprs.proofs.FrontLemmas.{text_listed}
use Rattle.c_form_exprs.proofs.front.Front.is_text.Goals as goal

pub returns : goal.returns
returns c = rw (← c.self.view_is) (c.is_some.ensures ∙ (ap is_some c.get.ensures ∙ text_listed c.self.inside.unit.now c.self.inside.count c.self.inside.structs c.self.inside.fields.items c.self.inside.texts c.self.inside.functions c.self.invariant c.args.name.0))
