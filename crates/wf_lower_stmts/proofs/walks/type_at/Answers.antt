use Rattle.std.proofs.Common.{◌≡◌, true}
use Rattle.wf_ast.specs.TypedInvariant.{is_tree_of}
use Rattle.wf_ast.specs.TypedTrees.{made_or_number, tree_of, type_of_node, constant_of_node, place_of_node, signs_of_node}
use Rattle.wf_ast.proofs.TreeKinds.{made_or_number_kind}
use Rattle.wf_lower_stmts.proofs.walks.type_at.Goals as goal

pub returns-clause-kind : goal.returns-clause-kind
returns-clause-kind c =
    let nodes = c.args.t.now in
    let e = c.args.e in
    let ty = type_of_node nodes e.0 in
    let kind : is_tree_of ty (made_or_number (tree_of nodes) (place_of_node nodes e.0) (signs_of_node nodes e.0) ty (constant_of_node nodes e.0) c.expr-expr.result.now) ≡ true =
    made_or_number_kind nodes (tree_of nodes) (place_of_node nodes e.0) (signs_of_node nodes e.0) ty (constant_of_node nodes e.0) c.expr-expr.result.now c.expr-expr.ensures.kinds in
    rw (c.type_of.ensures, c.expr-expr.ensures.made) kind
