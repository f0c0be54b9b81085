-- What holds of the node that an accessor lends.
use Rattle.std.proofs.Common.{◌≡◌, ℕ, zero, suc, ◌<◌, true, List, [], ◌∷◌, length, Some, refl, sym, ap, ◌∙◌, subst, arith, nat_lt}
use Rattle.std.specs.Prelude.{slice_get, slice_index_or, IsTrue}
use Rattle.std.proofs.lemmas.Option.{slice_get-get_or, slice_get_within}
use Rattle.std.proofs.lemmas.Bool.Decides.{nat_tests}
use Rattle.wf_ast.specs.declared.numbers.ExprId.{ExprId}
use Rattle.wf_ast.specs.declared.typed_code.ExprNode.{ExprNode}
use Rattle.wf_ast.specs.declared.typed_code.StmtNode.{StmtNode}
use Rattle.wf_ast.specs.declared.typed_nodes.TypedNodes.{TypedNodes}
use Rattle.wf_ast.specs.TypedTrees.{made_or_number, tree_of, type_of_node, constant_of_node, place_of_node, signs_of_node}
use Rattle.wf_ast.specs.TypedTree.{ValueTree}
use Rattle.wf_ast.specs.TypedInvariant.{IsTyped, parts_of, parts_below, node_fits, stmt_below, is_tree_of, parts_fit}
use Rattle.wf_ast.proofs.Arena.{tree_made, numbered_from_zero}
use Rattle.wf_ast.proofs.TreeKinds.{made_or_number_kind, all_below}

-- The node that stands at a number.
pub lent : {X : Type 0} (xs ys : List X) (i : ℕ) (d : X) → xs ≡ ys → i < length ys → slice_get ys i ≡ Some (slice_index_or xs i d)
lent {X} xs ys i d same within =
    let P : List X → Type 0 = λ zs. slice_get ys i ≡ Some (slice_index_or zs i d) in
    subst P (sym same) (slice_get-get_or ys i d within)

lt_from : (m n : ℕ) → nat_lt m n ≡ true → m < n
lt_from m n h = grind (arith, nat_tests, h)

-- What stands at a number below the length.
pub there : {X : Type 0} (xs : List X) (i : ℕ) → i < length xs → (x : X) × (slice_get xs i ≡ Some x)
there [] i h = absurd (omega (arith, h))
there (x ∷ xs) zero h = (x, refl)
there (x ∷ xs) (suc i) h = there xs i (omega (arith, h))

module _ (nodes : TypedNodes) (typed : IsTyped nodes) where
  -- The tree of an expression is of the kind of its type.
  pub tree_kind : (e : ExprId) → e.0 < length nodes.exprs → is_tree_of (type_of_node nodes e.0) (tree_of nodes e) ≡ true
  tree_kind e h =
      let it = there nodes.exprs e.0 h in
      let n = it.0 in
      let fits = numbered_from_zero (λ e node. node_fits nodes (type_of_node nodes e) (constant_of_node nodes e) node.expr) nodes.exprs e.0 n typed.kinds it.1 in
      let P : ValueTree → Type 0 = λ t. is_tree_of (type_of_node nodes e.0) t ≡ true in
      subst P (sym (tree_made nodes e n it.1 typed.exprs_ordered)) (made_or_number_kind nodes (tree_of nodes) n.at n.signs (type_of_node nodes e.0) (constant_of_node nodes e.0) n.expr fits)

  module _ (e : ExprId) (n : ExprNode) (is : slice_get nodes.exprs e.0 ≡ Some n) where
    pub expr_made : tree_of nodes e ≡ made_or_number (tree_of nodes) (place_of_node nodes e.0) (signs_of_node nodes e.0) (type_of_node nodes e.0) (constant_of_node nodes e.0) n.expr
    expr_made = rw is (tree_made nodes e n is typed.exprs_ordered)

    pub expr_below : IsTrue (parts_below e.0 n.expr)
    expr_below = numbered_from_zero (λ e node. parts_below e node.expr) nodes.exprs e.0 n typed.exprs_ordered is

    pub expr_kinds : IsTrue (node_fits nodes (type_of_node nodes e.0) (constant_of_node nodes e.0) n.expr)
    expr_kinds = numbered_from_zero (λ e node. node_fits nodes (type_of_node nodes e) (constant_of_node nodes e) node.expr) nodes.exprs e.0 n typed.kinds is

    pub expr_parts : IsTrue (parts_fit nodes (tree_of nodes) n.expr)
    expr_parts =
        all_below (λ part. is_tree_of (type_of_node nodes part.0) (tree_of nodes part)) e.0 (parts_of n.expr) expr_below (λ part h.
        tree_kind part (omega (arith, lt_from part.0 e.0 h, slice_get_within nodes.exprs e.0 n is)))

  pub stmt_inside : (s : ℕ) (n : StmtNode) → slice_get nodes.stmts s ≡ Some n → IsTrue (stmt_below nodes s n.stmt)
  stmt_inside s n is = numbered_from_zero (λ s node. stmt_below nodes s node.stmt) nodes.stmts s n typed.stmts_ordered is

-- The invariant, of what is seen of a package.
pub typed_seen : (inner nodes : TypedNodes) → inner ≡ nodes → IsTyped inner → IsTyped nodes
typed_seen inner nodes same typed = let P : TypedNodes → Type 0 = IsTyped in subst P same typed

pub lent_expr : (inner nodes : TypedNodes) → inner ≡ nodes → (xs : List ExprNode) → xs ≡ inner.exprs → (i : ℕ) (d : ExprNode) → i < length nodes.exprs
    → slice_get nodes.exprs i ≡ Some (slice_index_or xs i d)
lent_expr inner nodes same xs is i d within = lent xs nodes.exprs i d (is ∙ ap (λ (n : TypedNodes). n.exprs) same) within

pub lent_stmt : (inner nodes : TypedNodes) → inner ≡ nodes → (xs : List StmtNode) → xs ≡ inner.stmts → (i : ℕ) (d : StmtNode) → i < length nodes.stmts
    → slice_get nodes.stmts i ≡ Some (slice_index_or xs i d)
lent_stmt inner nodes same xs is i d within = lent xs nodes.stmts i d (is ∙ ap (λ (n : TypedNodes). n.stmts) same) within
