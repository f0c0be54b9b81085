use Rattle.std.proofs.Common.{◌∙◌, ap, sym}
use Rattle.wf_ast.specs.declared.typed_nodes.TypedNodes.{TypedNodes}
use Rattle.wf_ast.specs.TypedTree.{local}
use Rattle.wf_ast.specs.NodeKinds.{is_slice_at}
use Rattle.wf_exprs.specs.Exprs.{lowered_slice, path_pair}
use Rattle.wf_exprs.specs.Scopes.{ScopeTree}
use Rattle.wf_lower_stmts.specs.BodyNodes.{form_in}
use Rattle.wf_lower_blocks.proofs.KindLaws.{no_slice_at, retell_pair}
use Rattle.wf_lower_blocks.proofs.any.slice_on.Goals as goal

pub returns-else-is_slice-clause-made : goal.returns-else-is_slice-clause-made
returns-else-is_slice-clause-made c =
    let b = c.args.b.now in
    let none = ap (λ (nodes : TypedNodes). is_slice_at nodes c.args.e) (sym c.typed.ensures.same) ∙ sym c.if-is_slice.ensures in
    retell_pair _ _ _ c.path_pair.result
    (ap (λ (scope : ScopeTree). path_pair scope.names (local 0)) c.scope-else-is_slice.ensures ∙ ap (lowered_slice (form_in b).names) (sym (no_slice_at b.nodes c.typed.ensures.kept c.args.e c.requires none))) c.path_pair.ensures.made
