-- A single value by its kind.
use Rattle.std.proofs.Common.{◌≡◌, ◌∙◌, ℕ, true, refl, sym, ap, arith}
use Rattle.std.proofs.lemmas.Bool.Decides.{nat_tests}
use Rattle.wf_ast.specs.declared.numbers.ExprId.{ExprId}
use Rattle.wf_ast.specs.declared.typed_nodes.TypedNodes.{TypedNodes}
use Rattle.wf_ast.specs.declared.types.Ty.{Ty}
use Rattle.wf_ast.specs.declared.types.Ty.TheVariants as types
use Rattle.wf_ast.specs.TypedInvariant.{IsTyped, is_expr, is_logical, is_numeric, is_state, is_tree_of}
use Rattle.wf_ast.specs.TypedTree.{ValueTree, numeric, logical, state}
use Rattle.wf_ast.specs.TypedTrees.{cond_in, num_in, status_in, tree_of, type_of_node}
use Rattle.wf_ast.proofs.Accessors.{tree_kind}
use Rattle.wf_exprs.specs.Exprs.{given, lowered_cond, lowered_status}
use Rattle.wf_exprs.specs.Names.{Names}
use Rattle.wf_exprs_nodes.specs.Trees.{lowered_value}

-- The type of an expression, as it was asked for.
pub seen_type : (t nodes : TypedNodes) (e : ℕ) (ty other : Ty) → t ≡ nodes → ty ≡ type_of_node t e → ty ≡ other → type_of_node nodes e ≡ other
seen_type t nodes e ty other same asked is = ap (λ x. type_of_node x e) (sym same) ∙ sym asked ∙ is

-- Trees of the kinds of their types.
module _ (nodes : TypedNodes) (typed : IsTyped nodes) (e : ExprId) (there : is_expr nodes e ≡ true) where
  pub kind : is_tree_of (type_of_node nodes e.0) (tree_of nodes e) ≡ true
  kind = tree_kind nodes typed e (grind (arith, nat_tests, there))

  pub number_is : is_numeric (type_of_node nodes e.0) ≡ true → tree_of nodes e ≡ numeric (num_in (tree_of nodes e))
  number_is h = by (type_of_node nodes e.0) (tree_of nodes e) kind h
    where
      by : (ty : Ty) (t : ValueTree) → is_tree_of ty t ≡ true → is_numeric ty ≡ true → t ≡ numeric (num_in t)
      by (types.Num width lo hi) (numeric t) h k = refl
      by (types.Num width lo hi) t h k = absurd (cc h)
      by ty t h k = absurd (cc k)

  pub flag_is : is_logical (type_of_node nodes e.0) ≡ true → tree_of nodes e ≡ logical (cond_in (tree_of nodes e))
  flag_is h = by (type_of_node nodes e.0) (tree_of nodes e) kind h
    where
      by : (ty : Ty) (t : ValueTree) → is_tree_of ty t ≡ true → is_logical ty ≡ true → t ≡ logical (cond_in t)
      by types.Flag (logical t) h k = refl
      by types.Flag t h k = absurd (cc h)
      by ty t h k = absurd (cc k)

  pub status_is : is_state (type_of_node nodes e.0) ≡ true → tree_of nodes e ≡ state (status_in (tree_of nodes e))
  status_is h = by (type_of_node nodes e.0) (tree_of nodes e) kind h
    where
      by : (ty : Ty) (t : ValueTree) → is_tree_of ty t ≡ true → is_state ty ≡ true → t ≡ state (status_in t)
      by types.Status (state t) h k = refl
      by types.Status t h k = absurd (cc h)
      by ty t h k = absurd (cc k)

  pub number_value : (names : Names) → is_numeric (type_of_node nodes e.0) ≡ true → given names (num_in (tree_of nodes e)) ≡ lowered_value names (tree_of nodes e)
  number_value names h = sym (ap (lowered_value names) (number_is h))

  pub flag_value : (names : Names) → is_logical (type_of_node nodes e.0) ≡ true → lowered_cond names (cond_in (tree_of nodes e)) ≡ lowered_value names (tree_of nodes e)
  flag_value names h = sym (ap (lowered_value names) (flag_is h))

  pub status_value : (names : Names) → is_state (type_of_node nodes e.0) ≡ true → lowered_status names (status_in (tree_of nodes e)) ≡ lowered_value names (tree_of nodes e)
  status_value names h = sym (ap (lowered_value names) (status_is h))
