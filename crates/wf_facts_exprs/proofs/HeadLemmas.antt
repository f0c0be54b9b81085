-- Expressions that are told apart by the heads of their trees.
use Rattle.std.proofs.Common.{◌≡◌, ℕ, Bool, true, false, not, ◌&&◌, Option, Some, None, refl, sym, ap, subst}
use Rattle.wf_ast.specs.declared.numbers.ExprId.{ExprId}
use Rattle.wf_ast.specs.declared.types.Ty.{Ty}
use Rattle.wf_ast.specs.declared.types.Ty.TheVariants as types
use Rattle.wf_ast.specs.declared.typed_code.Expr.{Expr}
use Rattle.wf_ast.specs.declared.typed_nodes.TypedNodes.{TypedNodes}
use Rattle.wf_ast.specs.TypedTree.{ValueTree, numeric}
use Rattle.wf_ast.specs.TypedTrees.{num_in, tree_of, type_of_node, constant_of_node}
use Rattle.wf_ast.specs.TypedInvariant.{is_expr, is_numeric, is_tree_of}
use Rattle.wf_ast.specs.NodeKinds.{is_number_at}
use Rattle.wf_ast.specs.Same.{same, same_num}
use Rattle.wf_ast.specs.SameNodes.{same_head}
use Rattle.wf_ast.proofs.SameLaws.{Lent, tree_at, number_first, heads_differ}
use Rattle.wf_facts_exprs.specs.Shapes.{is_plain}
use Rattle.wf_facts_exprs.proofs.PassLemmas.{both_of}
use Rattle.wf_facts_exprs.proofs.ShapeLemmas.{kind_seen}

pub other_variable : (b c : Bool) → not b ≡ true → (b && c) ≡ false
other_variable true c h = absurd (cc (h))
other_variable false c h = refl

numeric_is : (ty : Ty) (t : ValueTree) → is_numeric ty ≡ true → is_tree_of ty t ≡ true → t ≡ numeric (num_in t)
numeric_is (types.Num width lo hi) (numeric t) h k = refl
numeric_is (types.Num width lo hi) t h k = absurd (cc (k))
numeric_is ty t h k = absurd (cc (h))

numbers_differ : (t u : ValueTree) → t ≡ numeric (num_in t) → u ≡ numeric (num_in u) → same t u ≡ false → same_num (num_in t) (num_in u) ≡ false
numbers_differ t u one other h =
    let P : ValueTree → Type 0 = λ v. same v u ≡ false in
    let Q : ValueTree → Type 0 = λ v. same (numeric (num_in t)) v ≡ false in
    subst Q other (subst P one h)

pub no_constant : (nodes : TypedNodes) (e : ExprId) (x : Expr) → Lent nodes e x → is_plain (num_in (tree_of nodes e)) ≡ true → (v : Option ℕ) → constant_of_node nodes e.0 ≡ v → constant_of_node nodes e.0 ≡ None
no_constant nodes e x it plain None is = is
no_constant nodes e x it plain (Some n) is =
    let number : is_plain (num_in (tree_of nodes e)) ≡ false = ap (λ t. is_plain (num_in t)) (tree_at nodes e x it (Some n) is) in
    absurd (cc (plain, number))

module _ (nodes : TypedNodes) (a b : ExprId) (x y : Expr) (one : Lent nodes a x) (other : Lent nodes b y) where
  trees_differ : constant_of_node nodes b.0 ≡ None → ((s u : Ty) → same_head s u x y ≡ false) → (v : Option ℕ) → constant_of_node nodes a.0 ≡ v → same (tree_of nodes a) (tree_of nodes b) ≡ false
  trees_differ k heads (Some m) h = sym (number_first nodes a b x y one other m h k)
  trees_differ k heads None h = sym (heads_differ nodes a b x y one other h k (type_of_node nodes a.0) (type_of_node nodes b.0) refl refl (heads (type_of_node nodes a.0) (type_of_node nodes b.0)))

  varying_heads : is_number_at nodes a ≡ true → is_number_at nodes b ≡ true → constant_of_node nodes b.0 ≡ None → ((s u : Ty) → same_head s u x y ≡ false)
      → same_num (num_in (tree_of nodes a)) (num_in (tree_of nodes b)) ≡ false
  varying_heads left right varies heads =
      numbers_differ (tree_of nodes a) (tree_of nodes b)
      (numeric_is (type_of_node nodes a.0) (tree_of nodes a) (both_of (is_expr nodes a) _ left).1 (kind_seen nodes a x one))
      (numeric_is (type_of_node nodes b.0) (tree_of nodes b) (both_of (is_expr nodes b) _ right).1 (kind_seen nodes b y other))
      (trees_differ varies heads (constant_of_node nodes a.0) refl)

  pub other_heads : is_number_at nodes a ≡ true → is_number_at nodes b ≡ true → is_plain (num_in (tree_of nodes b)) ≡ true → ((s u : Ty) → same_head s u x y ≡ false)
      → same_num (num_in (tree_of nodes a)) (num_in (tree_of nodes b)) ≡ false
  other_heads left right plain heads = varying_heads left right (no_constant nodes b y other plain (constant_of_node nodes b.0) refl) heads
