use Rattle.std.proofs.Common.{◌∙◌}
use Rattle.wf_ast.specs.Same.{same}
use Rattle.wf_exprs_nodes.proofs.ConditionLaws.{state_tree}
use Rattle.wf_exprs_nodes.proofs.conditions.same_status.Goals as goal

pub returns : goal.returns
returns c =
    let a = state_tree c.args.t.now c.args.a c.look_at.ensures c.requires.left in
    let b = state_tree c.args.t.now c.args.b c.look_at-2.ensures c.requires.right in
    c.same.ensures ∙ (λ n. same (a n) (b n))
