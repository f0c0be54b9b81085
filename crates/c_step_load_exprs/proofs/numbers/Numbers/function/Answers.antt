use Rattle.std.proofs.Common.{◌∙◌}
use Rattle.c_text.specs.CNodes.{unit_tree}
use Rattle.c_meaning.specs.CTypes.{functions_of}
use Rattle.c_step_load_exprs.proofs.PlaceLemmas.{place_by}
use Rattle.c_step_load_exprs.proofs.numbers.Numbers.function.Goals as goal

pub get-requires : goal.get-requires
get-requires c = rw c.self.invariant.functions.same (rw (← c.self.view_is) at c.requires)

pub returns : goal.returns
returns c = rw (← c.self.view_is) (c.get.ensures ∙ place_by (λ f. f.name) c.self.inside.unit.now c.self.inside.functions (functions_of (unit_tree c.self.inside.unit.now)) c.self.invariant.functions c.args.name.0)
