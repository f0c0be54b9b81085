use Rattle.std.proofs.Common.{◌∙◌}
use Rattle.wf_facts_exprs.proofs.sides.are_shaped_alike.Goals as goal

pub returns : goal.returns
returns c = c.same_shapes.ensures ∙ c.shape_of.ensures.alike.left _ ∙ c.shape_of-2.ensures.alike.right _
