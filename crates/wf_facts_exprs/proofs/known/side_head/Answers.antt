use Rattle.std.proofs.Common.{◌∙◌}
use Rattle.wf_facts_exprs.specs.Claims.{side_in, tree_of_side}
use Rattle.wf_facts_exprs.specs.Shapes.{shape_tree}
use Rattle.wf_facts_exprs.proofs.ClassLemmas.{alike_heads}
use Rattle.wf_facts_exprs.proofs.known.side_head.Goals as goal

pub returns-clause-head : goal.returns-clause-head
returns-clause-head c =
    c.shape_head.ensures.head ∙ alike_heads (shape_tree c.args.t.now c.shape_of.result) (tree_of_side (side_in c.args.t.now c.args.side)) c.shape_of.ensures.alike
