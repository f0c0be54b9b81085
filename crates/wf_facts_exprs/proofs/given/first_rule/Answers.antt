use Rattle.std.proofs.Common.{◌∙◌}
use Rattle.wf_facts_exprs.specs.Knowledge.{told}
use Rattle.wf_facts_exprs.specs.Claims.{claims_in, order_of, side_in, single}
use Rattle.wf_facts_exprs.specs.Shapes.{shape_tree}
use Rattle.wf_facts_exprs.proofs.AlikeLemmas.{first-alike}
use Rattle.wf_facts_exprs.proofs.given.first_rule.Goals as goal

pub returns : goal.returns
returns c =
    c.any_gives.ensures
    ∙ first-alike (claims_in c.args.t.now (told c.args.facts.now)) (order_of c.args.op) (single (shape_tree c.args.t.now c.shape_of.result)) (side_in c.args.t.now c.args.left) (single (shape_tree c.args.t.now c.shape_of-2.result)) (side_in c.args.t.now c.args.right) c.shape_of.ensures.alike c.shape_of-2.ensures.alike
