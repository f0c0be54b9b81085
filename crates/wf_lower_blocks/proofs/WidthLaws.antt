-- How wide the elements are of what a slice is cut from.
use Rattle.std.proofs.Common.{◌≡◌, ◌∙◌, ◌&&◌, ℕ, ◌<◌, true, List, [], ◌∷◌, length, Option, None, Some, refl, sym, ap, subst, arith, nat_lt}
use Rattle.std.specs.List.{list_all}
use Rattle.std.proofs.lemmas.Bool.Decides.{nat_tests}
use Rattle.wf_text.specs.declared.place.Place.{Place}
use Rattle.wf_ast.specs.declared.numbers.ExprId.{ExprId}
use Rattle.wf_ast.specs.declared.typed_code.Expr.{Expr}
use Rattle.wf_ast.specs.declared.typed_code.Expr.TheVariants as exprs
use Rattle.wf_ast.specs.declared.typed_nodes.TypedNodes.{TypedNodes}
use Rattle.wf_ast.specs.declared.types.Ty.{Ty}
use Rattle.wf_ast.specs.declared.types.Ty.TheVariants as types
use Rattle.wf_ast.specs.TypedInvariant.{is_expr, is_list, kind_fits, node_fits, optional_numeric, parts_below}
use Rattle.wf_ast.specs.TypedTree.{Path}
use Rattle.wf_ast.specs.TypedTrees.{made, made_or_number, named, slice_in, tree_of, type_of_node}
use Rattle.wf_ast.specs.NodeKinds.{is_slice_at}
use Rattle.wf_ast.proofs.Arena.{both_true}
use Rattle.wf_exprs.specs.Making.{bits_at}
use Rattle.wf_lower_stmts.specs.Statements.{slice_bits}

pub named_bits : (at : Place) (ty : Ty) (path : Path) → is_list ty ≡ true → slice_bits (slice_in (named at ty path)) ≡ bits_at ty
named_bits at (types.Slice width) path h = refl
named_bits at (types.Array width lo hi count) path h = refl
named_bits at ty path h = absurd (cc h)

-- The node is known, and is no number.
module _ (t : TypedNodes) (e : ExprId) (at : Place) (signs : List Place) (ty : Ty) (n : Option ℕ) (x : Expr) (tree : tree_of t e ≡ made_or_number (tree_of t) at signs ty n x) (none : None ≡ n) where
  node_made : (y : Expr) → x ≡ y → tree_of t e ≡ made (tree_of t) at signs ty y
  node_made y is = tree ∙ ap (λ k. made_or_number (tree_of t) at signs ty k x) (sym none) ∙ ap (made (tree_of t) at signs ty) is

  pub held_bits : (y : Expr) (path : Path) → x ≡ y → made (tree_of t) at signs ty y ≡ named at ty path → is_list ty ≡ true → slice_bits (slice_in (tree_of t e)) ≡ bits_at ty
  held_bits y path is same h = ap (λ v. slice_bits (slice_in v)) (node_made y is ∙ same) ∙ named_bits at ty path h

  pub cut_bits : (base : ExprId) (from to : Option ExprId) → x ≡ exprs.Cut base from to → slice_bits (slice_in (tree_of t e)) ≡ slice_bits (slice_in (tree_of t base))
  cut_bits base from to is = ap (λ v. slice_bits (slice_in v)) (node_made (exprs.Cut base from to) is)

-- What it is cut from stands before it, and is a slice too.
base_first : (e : ℕ) (base : ExprId) (from to : Option ExprId) → parts_below e (exprs.Cut base from to) ≡ true → nat_lt base.0 e ≡ true
base_first e base None None h = (both_true (nat_lt base.0 e) true h).0
base_first e base None (Some g) h = (both_true (nat_lt base.0 e) (list_all (λ part. nat_lt part.0 e) (g ∷ [])) h).0
base_first e base (Some f) None h = (both_true (nat_lt base.0 e) (list_all (λ part. nat_lt part.0 e) (f ∷ [])) h).0
base_first e base (Some f) (Some g) h = (both_true (nat_lt base.0 e) (list_all (λ part. nat_lt part.0 e) (f ∷ g ∷ [])) h).0

pub base_before : (e : ℕ) (x : Expr) (base : ExprId) (from to : Option ExprId) → parts_below e x ≡ true → x ≡ exprs.Cut base from to → base.0 < e
base_before e x base from to h is =
    let P : Expr → Type 0 = λ y. parts_below e y ≡ true in
    let k = base_first e base from to (subst P is h) in
    grind (arith, nat_tests, k)

less_there : (k m n : ℕ) → k < m → nat_lt m n ≡ true → nat_lt k n ≡ true
less_there k m n l h = grind (arith, nat_tests, l, h)

pub base_slice : (t : TypedNodes) (e base : ExprId) (from to : Option ExprId) (ty : Ty) (n : Option ℕ) (x : Expr) → is_slice_at t e ≡ true → base.0 < e.0 → None ≡ n → x ≡ exprs.Cut base from to → node_fits t ty n x ≡ true
    → is_slice_at t base ≡ true
base_slice t e base from to ty n x node low none is fits =
    let P : Option ℕ → Type 0 = λ k. node_fits t ty k x ≡ true in
    let Q : Expr → Type 0 = λ y. kind_fits t ty y ≡ true in
    let whole : kind_fits t ty (exprs.Cut base from to) ≡ true = subst Q is (subst P (sym none) fits) in
    let list = (both_true (is_list (type_of_node t base.0)) (optional_numeric t from && optional_numeric t to) (both_true (is_list ty) _ whole).1).0 in
    rw (less_there base.0 e.0 (length t.exprs) low (both_true (is_expr t e) (is_list (type_of_node t e.0)) node).0, list) refl
