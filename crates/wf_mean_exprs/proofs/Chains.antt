-- The value of a chain, one operand after the other.
use Rattle.std.proofs.Common.{◌≡◌, ℕ, ◌+◌, ◌<◌, ◌≤◌, Bool, true, false, List, [], ◌∷◌, length, map, drop, get_or, Option, nat_lt, refl, sym, ap, ◌∙◌, subst, arith}
use Rattle.std.specs.Prelude.{option_and_then}
use Rattle.std.specs.List.{list_all}
use Rattle.std.proofs.Math.ListN.{drop_of_length-le}
use Rattle.std.proofs.lemmas.List.{drop_more}
use Rattle.std.proofs.lemmas.Bool.Decides.{nat_tests}
use Rattle.wf_text.specs.declared.place.Place.{Place}
use Rattle.wf_ast.specs.declared.numbers.ExprId.{ExprId}
use Rattle.wf_ast.specs.declared.types.Ty.{Ty}
use Rattle.wf_ast.specs.declared.typed_nodes.TypedNodes.{TypedNodes}
use Rattle.wf_ast.specs.TypedTree.{Arith, NumTree, ValueTree, link}
use Rattle.wf_ast.specs.TypedTrees.{OperatorKind, arithmetic, ordering, joining, num_in, num_chain, chain_of, num_type, tree_of, type_of_node}
use Rattle.wf_ast.specs.TypedInvariant.{is_expr, is_numeric, chain_fits}
use Rattle.wf_ast.specs.Value.{State, applied, value}
use Rattle.wf_ast.specs.NodeKinds.{node_number, is_number_at}
use Rattle.wf_ast.specs.OperatorForms.{is_arithmetic, arith_in}
use Rattle.wf_ast.proofs.Arena.{both_true}
use Rattle.wf_ast.proofs.ChainKinds.{junction_gives_condition, comparison_gives_condition, numeric_operands}
use Rattle.wf_ast.proofs.TypeKinds.{number_no_condition}
use Rattle.wf_mean_exprs.specs.Operands.{chain_value}

-- A chain that gives a number is arithmetic, and its operands are numbers that stand before it.
pub record IsOfNumbers (nodes : TypedNodes) (sort : OperatorKind) (es : List ExprId) : Type 0 where
  pub arithmetic_sort : is_arithmetic sort ≡ true
  pub numbers : list_all (is_number_at nodes) es ≡ true
  pub some : 0 < length es

pub of_numbers : (nodes : TypedNodes) (n : ℕ) (ty : Ty) (sort : OperatorKind) (es : List ExprId) → n < length nodes.exprs → is_numeric ty ≡ true → chain_fits nodes sort es ty ≡ true
    → list_all (λ p. nat_lt p.0 n) es ≡ true → IsOfNumbers nodes sort es
of_numbers nodes n ty (arithmetic op) es l h f b =
    let operands = numeric_operands nodes n ty op es l f b in
    record { arithmetic_sort = refl; numbers = operands.0; some = omega (arith, operands.1) }
of_numbers nodes n ty (joining both) es l h f b = absurd (number_no_condition ty h (junction_gives_condition nodes both es ty f))
of_numbers nodes n ty (ordering op) es l h f b = absurd (number_no_condition ty h (comparison_gives_condition nodes op es ty f))

module _ (s : State) where
  num_chain_value : (at : Place) (op : Arith) (bits : ℕ) (joined : Bool) (so_far : NumTree) (ts : List ValueTree) (signs : List Place)
      → value s (num_chain at op bits joined so_far ts signs) ≡ chain_value s op bits (value s so_far) (map num_in ts)
  num_chain_value at op bits joined so_far [] signs = refl
  num_chain_value at op bits joined so_far (t ∷ ts) [] = num_chain_value at op bits true (link at at op bits joined so_far (num_in t)) ts []
  num_chain_value at op bits joined so_far (t ∷ ts) (sign ∷ signs) = num_chain_value at op bits true (link at sign op bits joined so_far (num_in t)) ts signs

  map_twice : (nodes : TypedNodes) (es : List ExprId) → map num_in (map (tree_of nodes) es) ≡ map (node_number nodes) es
  map_twice nodes [] = refl
  map_twice nodes (e ∷ es) = ap (λ ts. node_number nodes e ∷ ts) (map_twice nodes es)

  -- The chain begins with the value of its first operand.
  pub chain_begins : (nodes : TypedNodes) (at : Place) (signs : List Place) (ty : Ty) (sort : OperatorKind) (es : List ExprId) (d : ExprId) → is_arithmetic sort ≡ true → 0 < length es
      → chain_value s (arith_in sort) (num_type ty).bits (value s (node_number nodes (get_or es 0 d))) (map (node_number nodes) (drop 1 es))
      ≡ value s (num_in (chain_of at signs ty sort (map (tree_of nodes) es)))
  chain_begins nodes at signs ty (arithmetic op) [] d a l = absurd (omega (arith, l))
  chain_begins nodes at signs ty (arithmetic op) (e ∷ es) d a l =
      ap (chain_value s op (num_type ty).bits (value s (node_number nodes e))) (sym (map_twice nodes es))
      ∙ sym (num_chain_value at op (num_type ty).bits false (node_number nodes e) (map (tree_of nodes) es) signs)
  chain_begins nodes at signs ty (ordering op) es d a l = absurd (cc a)
  chain_begins nodes at signs ty (joining both) es d a l = absurd (cc a)

  -- One operand more.
  pub chain_next : (nodes : TypedNodes) (op : Arith) (bits : ℕ) (so_far next all : Option ℕ) (es : List ExprId) (i : ℕ) (d : ExprId) → i < length es
      → chain_value s op bits so_far (map (node_number nodes) (drop i es)) ≡ all
      → next ≡ option_and_then (λ m. option_and_then (applied op bits m) (value s (node_number nodes (get_or es i d)))) so_far
      → chain_value s op bits next (map (node_number nodes) (drop (i + 1) es)) ≡ all
  chain_next nodes op bits so_far next all es i d l h e =
      let P : List ExprId → Type 0 = λ xs. chain_value s op bits so_far (map (node_number nodes) xs) ≡ all in
      ap (λ o. chain_value s op bits o (map (node_number nodes) (drop (i + 1) es))) e ∙ subst P (drop_more es i d l) h

  pub chain_ends : (nodes : TypedNodes) (op : Arith) (bits : ℕ) (so_far all : Option ℕ) (es : List ExprId) (i : ℕ) → length es ≤ i
      → chain_value s op bits so_far (map (node_number nodes) (drop i es)) ≡ all → so_far ≡ all
  chain_ends nodes op bits so_far all es i l h =
      let P : List ExprId → Type 0 = λ xs. chain_value s op bits so_far (map (node_number nodes) xs) ≡ all in
      subst P (drop_of_length-le es l) h

pub number_below : (nodes : TypedNodes) (e : ExprId) → is_number_at nodes e ≡ true → e.0 < length nodes.exprs
number_below nodes e h = let p = (both_true (is_expr nodes e) (is_numeric (type_of_node nodes e.0)) h).0 in grind (arith, nat_tests, p)
