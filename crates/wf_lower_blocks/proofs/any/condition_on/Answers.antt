use Rattle.std.proofs.Common.{◌∙◌, ap, sym}
use Rattle.wf_ast.specs.declared.typed_nodes.TypedNodes.{TypedNodes}
use Rattle.wf_ast.specs.NodeKinds.{is_condition_at}
use Rattle.wf_exprs.specs.Exprs.{lowered_cond}
use Rattle.wf_exprs.proofs.Growing.{retell}
use Rattle.wf_lower_stmts.specs.BodyNodes.{form_in}
use Rattle.wf_lower_blocks.proofs.KindLaws.{no_condition_at, no_condition_code}
use Rattle.wf_lower_blocks.proofs.any.condition_on.Goals as goal

pub returns-else-is_condition-clause-made : goal.returns-else-is_condition-clause-made
returns-else-is_condition-clause-made c =
    let b = c.args.b.now in
    let none = ap (λ (nodes : TypedNodes). is_condition_at nodes c.args.e) (sym c.typed.ensures.same) ∙ sym c.if-is_condition.ensures in
    let lost = ap (lowered_cond (form_in b).names) (sym (no_condition_at b.nodes c.typed.ensures.kept c.args.e c.requires none)) in
    retell _ _ _ c.no_condition.result (sym (no_condition_code (form_in b).names) ∙ lost) c.no_condition.ensures.made
