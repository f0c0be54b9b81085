use Rattle.std.proofs.Common.{◌∙◌, ap}
use Rattle.wf_ast.specs.TypedTrees.{tree_of, type_of_node}
use Rattle.wf_ast.specs.TypedInvariant.{is_expr}
use Rattle.wf_facts_exprs.specs.Knowledge.{told}
use Rattle.wf_facts_exprs.specs.Claims.{claims_in, length_in}
use Rattle.wf_facts_exprs.specs.RangeOf.{met}
use Rattle.wf_facts_exprs.specs.Shapes.{shape_tree}
use Rattle.wf_facts_exprs.proofs.PassLemmas.{both_of}
use Rattle.wf_facts_exprs.proofs.AlikeLemmas.{met-alike}
use Rattle.wf_facts_exprs.proofs.JudgeLemmas.{length-rule-is}
use Rattle.wf_facts_exprs.proofs.judging.length_side.Goals as goal

pub returns-clause-range : goal.returns-clause-range
returns-clause-range c =
    let fs = claims_in c.args.t.now (told c.args.facts.now) in
    let tree = length_in c.args.t.now c.args.on (type_of_node c.args.t.now c.args.on.0) (tree_of c.args.t.now c.args.on) in
    let rule = length-rule-is fs c.args.t.now c.args.on (type_of_node c.args.t.now c.args.on.0) (tree_of c.args.t.now c.args.on) c.look_at.ensures (both_of (is_expr c.args.t.now c.args.on) _ c.requires.on).1 in
    c.meet_facts-range.ensures.met ∙ met-alike fs (shape_tree c.args.t.now c.shape_of.result) tree c.length_rule.result c.shape_of.ensures.alike ∙ ap (met fs tree) (c.length_rule.ensures.range ∙ rule)
