use Rattle.std.proofs.Common.{◌≡◌, true, sym, subst}
use Rattle.wf_ast.specs.TypedInvariant.{is_tree_of}
use Rattle.wf_ast.specs.TypedTree.{ValueTree}
use Rattle.wf_ast.specs.TypedTrees.{constant_of_node, place_of_node, signs_of_node, tree_of, type_of_node}
use Rattle.wf_ast.proofs.TreeKinds.{made_or_number_kind}
use Rattle.wf_exprs_nodes.proofs.conditions.look_at.Goals as goal

pub returns : goal.returns
returns c =
    let nodes = c.args.t.now in
    let e = c.args.e in
    let P : ValueTree → Type 0 = λ t. is_tree_of (type_of_node nodes e.0) t ≡ true in
    let kind = made_or_number_kind nodes (tree_of nodes) (place_of_node nodes e.0) (signs_of_node nodes e.0) (type_of_node nodes e.0) (constant_of_node nodes e.0) c.expr-expr.result.now c.expr-expr.ensures.kinds in
    subst P (sym c.expr-expr.ensures.made) kind
