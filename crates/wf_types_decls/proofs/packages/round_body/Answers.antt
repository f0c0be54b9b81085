use Rattle.std.proofs.Common.{◌∙◌, refl, ap, slice_get}
use Rattle.wf_named.specs.NamedParts.{named_package}
use Rattle.wf_named.specs.NamedTrees.{expr_trees, stmt_trees, method_made}
use Rattle.wf_types_decls.specs.declared.heads.Head.{Head}
use Rattle.wf_types_decls.specs.Packages.{types_or_none}
use Rattle.wf_types_decls.proofs.DeclarationLemmas.{own_fields}
use Rattle.wf_types_decls.proofs.PackageLemmas.{method_entered}
use Rattle.wf_types_decls.proofs.packages.round_body.Goals as goal

pub returns : goal.returns
returns c =
    let n = c.args.nodes.now in
    let p = named_package n in
    let m = method_made n.texts (expr_trees n.exprs) (stmt_trees n.texts n.exprs n.stmts) c.args.method.now in
    method_entered p m c.args.around.now _ _ _ m.mark c.args.head.now.gives c.requires.around
    (c.fields_of.ensures ∙ ap (λ fs. types_or_none (slice_get fs m.of)) c.requires.fields ∙ own_fields p m.of)
    (c.as_slice.ensures ∙ ap (λ (h : Head). h.args) c.requires.head) (c.as_slice-2.ensures ∙ ap (λ (h : Head). h.locals) c.requires.head) refl
    (ap (λ (h : Head). h.gives) c.requires.head) _ c.in_body.ensures
