use Rattle.std.proofs.Common.{◌∙◌}
use Rattle.c_text.specs.CNodes.{unit_tree}
use Rattle.c_meaning.specs.CTypes.{functions_of}
use Rattle.c_step_load_exprs.proofs.PlaceLemmas.{place_of}
use Rattle.c_step_load_exprs.proofs.numbers.Numbers.function_spelt.Goals as goal

pub returns : goal.returns
returns c = rw (← c.self.view_is) (c.get.ensures ∙ place_of (λ f. f.name) c.self.inside.spellings (functions_of (unit_tree c.self.inside.unit.now)) c.self.invariant.spellings c.args.name.now)
