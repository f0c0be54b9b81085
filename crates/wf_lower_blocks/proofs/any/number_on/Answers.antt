use Rattle.std.proofs.Common.{◌∙◌, ap, sym}
use Rattle.wf_ast.specs.declared.typed_nodes.TypedNodes.{TypedNodes}
use Rattle.wf_ast.specs.TypedTree.{local}
use Rattle.wf_ast.specs.NodeKinds.{is_number_at}
use Rattle.wf_exprs.specs.Exprs.{lowered_expr, path_code}
use Rattle.wf_exprs.specs.Scopes.{ScopeTree}
use Rattle.wf_exprs.proofs.Growing.{retell}
use Rattle.wf_lower_stmts.specs.BodyNodes.{form_in}
use Rattle.wf_lower_blocks.proofs.KindLaws.{no_number_at}
use Rattle.wf_lower_blocks.proofs.any.number_on.Goals as goal

pub returns-else-is_number-clause-made : goal.returns-else-is_number-clause-made
returns-else-is_number-clause-made c =
    let b = c.args.b.now in
    let none = ap (λ (nodes : TypedNodes). is_number_at nodes c.args.e) (sym c.typed.ensures.same) ∙ sym c.if-is_number.ensures in
    retell _ _ _ c.local.result
    (ap (λ (scope : ScopeTree). path_code scope.names (local 0)) c.scope.ensures ∙ ap (lowered_expr (form_in b).names) (sym (no_number_at b.nodes c.typed.ensures.kept c.args.e c.requires none))) c.local.ensures.made
