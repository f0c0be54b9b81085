-- The kinds of what stands inside a node.
use Rattle.std.proofs.Common.{◌≡◌, ℕ, ◌<◌, true, false, List, length, nat_lt, refl, arith}
use Rattle.std.specs.List.{list_all}
use Rattle.std.proofs.lemmas.Bool.Decides.{nat_tests}
use Rattle.wf_ast.specs.declared.numbers.ExprId.{ExprId}
use Rattle.wf_ast.specs.declared.types.Ty.{Ty}
use Rattle.wf_ast.specs.declared.typed_nodes.TypedNodes.{TypedNodes}
use Rattle.wf_base.specs.declared.base_methods.Gives.{Gives}
use Rattle.wf_base.specs.declared.base_methods.Gives.TheVariants as gives
use Rattle.wf_base.specs.declared.marks.Mark.TheVariants.{Pure}
use Rattle.wf_base.specs.declared.base_methods.BaseSig.{BaseSig}
use Rattle.wf_base.specs.BaseTable.{row_of}
use Rattle.wf_ast.specs.WellTyped.{same_mark}
use Rattle.wf_ast.specs.TypedTrees.{OperatorKind, arithmetic, ordering, joining, type_of_node}
use Rattle.wf_ast.specs.TypedInvariant.{is_expr, is_numeric, is_logical, is_state, is_list, is_given, chain_fits}
use Rattle.wf_ast.specs.NodeKinds.{is_number_at, is_condition_at}
use Rattle.wf_ast.specs.OperatorForms.{is_arithmetic, is_joining, is_ordering}
use Rattle.wf_ast.proofs.Arena.{both_true}
use Rattle.wf_ast.proofs.ChainKinds.{gives_number, junction_gives_condition, comparison_gives_condition, numeric_operands, logical_operands}
use Rattle.wf_ast.proofs.TypeKinds.{number_no_condition, list_no_condition, list_no_number, state_no_condition, state_no_number}
use Rattle.wf_exprs_nodes.specs.Trees.{answers_number, is_num}

-- A chain that gives a number is arithmetic, and has at least two operands, which are numbers that stand before it.
pub record IsOfNumbers (nodes : TypedNodes) (sort : OperatorKind) (es : List ExprId) : Type 0 where
  pub arithmetic_sort : is_arithmetic sort ≡ true
  pub numbers : list_all (is_number_at nodes) es ≡ true
  pub some : 1 < length es

-- And one of conditions has conditions before it.
pub record IsOfConditions (nodes : TypedNodes) (es : List ExprId) : Type 0 where
  pub conditions : list_all (is_condition_at nodes) es ≡ true
  pub some : 1 < length es

pub of_numbers : (nodes : TypedNodes) (n : ℕ) (ty : Ty) (sort : OperatorKind) (es : List ExprId) → n < length nodes.exprs → is_numeric ty ≡ true → chain_fits nodes sort es ty ≡ true
    → list_all (λ p. nat_lt p.0 n) es ≡ true → IsOfNumbers nodes sort es
of_numbers nodes n ty (arithmetic op) es l h f b =
    let operands = numeric_operands nodes n ty op es l f b in
    record { arithmetic_sort = refl; numbers = operands.0; some = operands.1 }
of_numbers nodes n ty (joining both) es l h f b = absurd (number_no_condition ty h (junction_gives_condition nodes both es ty f))
of_numbers nodes n ty (ordering op) es l h f b = absurd (number_no_condition ty h (comparison_gives_condition nodes op es ty f))

pub of_conditions : (nodes : TypedNodes) (n : ℕ) (ty : Ty) (sort : OperatorKind) (es : List ExprId) → n < length nodes.exprs → is_joining sort ≡ true → chain_fits nodes sort es ty ≡ true
    → list_all (λ p. nat_lt p.0 n) es ≡ true → IsOfConditions nodes es
of_conditions nodes n ty (joining both) es l j f b =
    let operands = logical_operands nodes n ty both es l f b in
    record { conditions = operands.0; some = operands.1 }
of_conditions nodes n ty (arithmetic op) es l j f b = absurd (cc j)
of_conditions nodes n ty (ordering op) es l j f b = absurd (cc j)

pub of_comparison : (nodes : TypedNodes) (ty : Ty) (sort : OperatorKind) (es : List ExprId) → is_logical ty ≡ true → is_joining sort ≡ false → chain_fits nodes sort es ty ≡ true → is_ordering sort ≡ true
of_comparison nodes ty (ordering op) es h j f = refl
of_comparison nodes ty (joining both) es h j f = absurd (cc j)
of_comparison nodes ty (arithmetic op) es h j f = absurd (number_no_condition ty (gives_number nodes op es ty f) h)

pub number_below : (nodes : TypedNodes) (e : ExprId) → is_number_at nodes e ≡ true → e.0 < length nodes.exprs
number_below nodes e h = let p = (both_true (is_expr nodes e) (is_numeric (type_of_node nodes e.0)) h).0 in grind (arith, nat_tests, p)

pub condition_below : (nodes : TypedNodes) (e : ExprId) → is_condition_at nodes e ≡ true → e.0 < length nodes.exprs
condition_below nodes e h = let p = (both_true (is_expr nodes e) (is_logical (type_of_node nodes e.0)) h).0 in grind (arith, nat_tests, p)

-- What a base method gives is of the kind of its node's type.
pub given_number : (g : Gives) (ty : Ty) → is_given g ty ≡ true → is_numeric ty ≡ true → is_num g ≡ true
given_number (gives.Num width) ty h k = refl
given_number gives.Flag ty h k = absurd (number_no_condition ty k h)
given_number gives.Nothing ty h k = absurd (cc h)

pub list_given : (g : Gives) (ty : Ty) → is_list ty ≡ true → is_given g ty ≡ true → ⊥
list_given (gives.Num width) ty h k = list_no_number ty h k
list_given gives.Flag ty h k = list_no_condition ty h k
list_given gives.Nothing ty h k = cc k

pub state_given : (g : Gives) (ty : Ty) → is_state ty ≡ true → is_given g ty ≡ true → ⊥
state_given (gives.Num width) ty h k = state_no_number ty h k
state_given gives.Flag ty h k = state_no_condition ty h k
state_given gives.Nothing ty h k = cc k

pub answers_a_number : (sig : BaseSig) (ty : Ty) → same_mark (row_of sig).mark Pure ≡ true → is_given (row_of sig).gives ty ≡ true → is_numeric ty ≡ true → answers_number sig ≡ true
answers_a_number sig ty m g h = rw (given_number (row_of sig).gives ty g h) m
