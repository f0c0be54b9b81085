-- The value of a chain of conditions, and of a comparison.
use Rattle.std.proofs.Common.{◌≡◌, ℕ, ◌<◌, Bool, true, false, List, [], ◌∷◌, length, map, drop, get_or, nat_lt, refl, sym, ap, ◌∙◌, arith}
use Rattle.std.specs.List.{list_all}
use Rattle.std.proofs.lemmas.Bool.Decides.{nat_tests}
use Rattle.wf_text.specs.declared.place.Place.{Place}
use Rattle.wf_ast.specs.declared.numbers.ExprId.{ExprId}
use Rattle.wf_ast.specs.declared.types.Ty.{Ty}
use Rattle.wf_ast.specs.declared.typed_nodes.TypedNodes.{TypedNodes}
use Rattle.wf_ast.specs.TypedTree.{CondTree, junction, ValueTree}
use Rattle.wf_ast.specs.TypedTrees.{OperatorKind, arithmetic, ordering, joining, cond_in, cond_chain, chain_of, tree_of, type_of_node}
use Rattle.wf_ast.specs.TypedInvariant.{is_expr, is_logical, chain_fits, compares_kinds}
use Rattle.wf_ast.specs.Value.{State, truth_of}
use Rattle.wf_ast.specs.OperatorForms.{is_ordering, is_joining}
use Rattle.wf_ast.specs.NodeKinds.{node_cond, is_condition_at}
use Rattle.wf_ast.proofs.Arena.{both_true}
use Rattle.wf_ast.proofs.ChainKinds.{gives_number, logical_operands, operand_kinds}
use Rattle.wf_ast.proofs.TypeKinds.{number_no_condition}
use Rattle.wf_mean_exprs.specs.Conditions.{joins_both, chain_truth}

-- A chain of conditions has conditions before it as its operands.
pub record IsOfConditions (nodes : TypedNodes) (es : List ExprId) : Type 0 where
  pub conditions : list_all (is_condition_at nodes) es ≡ true
  pub some : 0 < length es

pub condition_below : (nodes : TypedNodes) (e : ExprId) → is_condition_at nodes e ≡ true → e.0 < length nodes.exprs
condition_below nodes e h = let p = (both_true (is_expr nodes e) (is_logical (type_of_node nodes e.0)) h).0 in grind (arith, nat_tests, p)

pub of_conditions : (nodes : TypedNodes) (n : ℕ) (ty : Ty) (sort : OperatorKind) (es : List ExprId) → n < length nodes.exprs → is_joining sort ≡ true → chain_fits nodes sort es ty ≡ true
    → list_all (λ p. nat_lt p.0 n) es ≡ true → IsOfConditions nodes es
of_conditions nodes n ty (joining both) es l j f b =
    let operands = logical_operands nodes n ty both es l f b in
    record { conditions = operands.0; some = omega (arith, operands.1) }
of_conditions nodes n ty (arithmetic op) es l j f b = absurd (cc j)
of_conditions nodes n ty (ordering op) es l j f b = absurd (cc j)

pub of_comparison : (nodes : TypedNodes) (ty : Ty) (sort : OperatorKind) (es : List ExprId) → is_logical ty ≡ true → is_joining sort ≡ false → chain_fits nodes sort es ty ≡ true → is_ordering sort ≡ true
of_comparison nodes ty (ordering op) es h j f = refl
of_comparison nodes ty (joining both) es h j f = absurd (cc j)
of_comparison nodes ty (arithmetic op) es h j f = absurd (number_no_condition ty (gives_number nodes op es ty f) h)

module _ (s : State) where
  cond_chain_truth : (at : Place) (both joined : Bool) (so_far : CondTree) (ts : List ValueTree) → truth_of s (cond_chain at both joined so_far ts) ≡ chain_truth s both (truth_of s so_far) (map cond_in ts)
  cond_chain_truth at both joined so_far [] = refl
  cond_chain_truth at both joined so_far (t ∷ ts) = cond_chain_truth at both true (junction at both joined so_far (cond_in t)) ts

  map_twice : (nodes : TypedNodes) (es : List ExprId) → map cond_in (map (tree_of nodes) es) ≡ map (node_cond nodes) es
  map_twice nodes [] = refl
  map_twice nodes (e ∷ es) = ap (λ ts. node_cond nodes e ∷ ts) (map_twice nodes es)

  -- The chain begins with the value of its first operand.
  pub junction_begins : (nodes : TypedNodes) (at : Place) (signs : List Place) (ty : Ty) (sort : OperatorKind) (es : List ExprId) (d : ExprId) → is_joining sort ≡ true → 0 < length es
      → chain_truth s (joins_both sort) (truth_of s (node_cond nodes (get_or es 0 d))) (map (node_cond nodes) (drop 1 es))
      ≡ truth_of s (cond_in (chain_of at signs ty sort (map (tree_of nodes) es)))
  junction_begins nodes at signs ty (joining both) [] d j l = absurd (omega (arith, l))
  junction_begins nodes at signs ty (joining both) (e ∷ es) d j l =
      ap (chain_truth s both (truth_of s (node_cond nodes e))) (sym (map_twice nodes es)) ∙ sym (cond_chain_truth at both false (node_cond nodes e) (map (tree_of nodes) es))
  junction_begins nodes at signs ty (ordering op) es d j l = absurd (cc j)
  junction_begins nodes at signs ty (arithmetic op) es d j l = absurd (cc j)

-- What is compared is of kinds that compare.
pub compared_kinds : (nodes : TypedNodes) (ty : Ty) (sort : OperatorKind) (es : List ExprId) (d : ExprId) → is_ordering sort ≡ true → chain_fits nodes sort es ty ≡ true
    → compares_kinds sort (type_of_node nodes (get_or es 0 d).0) (type_of_node nodes (get_or es 1 d).0) ≡ true
compared_kinds nodes ty (ordering op) es d o f = operand_kinds nodes ty op es d f
compared_kinds nodes ty (joining both) es d o f = absurd (cc o)
compared_kinds nodes ty (arithmetic op) es d o f = absurd (cc o)
