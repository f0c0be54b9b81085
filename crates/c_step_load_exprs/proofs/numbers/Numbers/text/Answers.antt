use Rattle.std.proofs.Common.{◌∙◌}
use Rattle.c_text.specs.CNodes.{unit_tree}
use Rattle.c_meaning.specs.CTypes.{texts_of}
use Rattle.c_step_load_exprs.proofs.PlaceLemmas.{place_by}
use Rattle.c_step_load_exprs.proofs.numbers.Numbers.text.Goals as goal

pub get-requires : goal.get-requires
get-requires c = rw c.self.invariant.texts.same (rw (← c.self.view_is) at c.requires)

pub returns : goal.returns
returns c = rw (← c.self.view_is) (c.get.ensures ∙ place_by (λ t. t.name) c.self.inside.unit.now c.self.inside.texts (texts_of (unit_tree c.self.inside.unit.now)) c.self.invariant.texts c.args.name.0)
