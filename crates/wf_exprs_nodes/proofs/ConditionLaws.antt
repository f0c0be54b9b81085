-- What a chain of conditions and a comparison are in C.
use Rattle.std.proofs.Common.{◌≡◌, ℕ, ◌+◌, ◌<◌, ◌≤◌, Bool, true, false, List, [], ◌∷◌, Result, IfOk, length, map, drop, get_or, refl, sym, ap, ◌∙◌, subst, arith}
use Rattle.wf_text.specs.declared.place.Place.{Place}
use Rattle.wf_text.specs.declared.faults.NoMemory.{NoMemory}
use Rattle.wf_ast.specs.declared.numbers.ExprId.{ExprId}
use Rattle.wf_ast.specs.declared.types.Ty.{Ty}
use Rattle.wf_ast.specs.declared.types.Ty.TheVariants as types
use Rattle.wf_ast.specs.declared.typed_nodes.TypedNodes.{TypedNodes}
use Rattle.wf_ast.specs.TypedTree.{Order, CondTree, junction, ValueTree, state}
use Rattle.wf_ast.specs.TypedTrees.{OperatorKind, arithmetic, ordering, joining, num_in, cond_in, status_in, cond_chain, chain_of, comparison, first_sign, tree_of, type_of_node}
use Rattle.wf_ast.specs.TypedInvariant.{is_expr, is_state, chain_fits, compares_kinds, is_tree_of}
use Rattle.wf_ast.specs.NodeKinds.{is_status_at, node_cond, node_status}
use Rattle.wf_ast.proofs.Arena.{both_true}
use Rattle.wf_ast.specs.OperatorForms.{is_joining, is_ordering, is_equal, order_in}
use Rattle.wf_ast.proofs.ChainKinds.{operand_kinds, compares_numbers, compares_statuses}
use Rattle.c_text.specs.declared.kinds.COp.{COp}
use Rattle.c_text.specs.CTree.{ExprTree, operation, Operands, no_operand}
use Rattle.wf_exprs.specs.Names.{Names}
use Rattle.wf_exprs.specs.Exprs.{Rated, with_operand, chained, begun, statuses_compared, lowered_cond, comparand}
use Rattle.wf_exprs.specs.Exprs as exprs
use Rattle.wf_exprs.specs.Making.{HasRated, c_op, rated_in}
use Rattle.wf_exprs.specs.declared.rated.Rated.{Rated as RatedNode}
use Rattle.wf_exprs.specs.Grown.{HasExpr}
use Rattle.c_text.specs.declared.ids.CExprId.{CExprId}
use Rattle.c_text.specs.CNodes.{Nodes, expr_of, operands_in}
use Rattle.wf_exprs_nodes.specs.Trees.{HasOperands, conditions_behind}
use Rattle.wf_exprs_nodes.proofs.ChainLaws.{appended, appended_none, appended_one}
use Rattle.wf_exprs_nodes.proofs.OperandLaws.{has_is}
use Rattle.wf_exprs_nodes.proofs.SliceLaws.{rated_is}
use Rattle.std.proofs.Math.ListN.{drop_of_length-le}
use Rattle.std.proofs.lemmas.List.{drop_more}

joined_on : (both : Bool) (f s : ExprTree) (es : Operands) (e : ExprTree) → chained true (c_op (joining both)) (operation (c_op (joining both)) f s es) e ≡ operation (c_op (joining both)) f s (with_operand es e)
joined_on true f s es e = refl
joined_on false f s es e = refl

map_conditions : (nodes : TypedNodes) (es : List ExprId) → map cond_in (map (tree_of nodes) es) ≡ map (node_cond nodes) es
map_conditions nodes [] = refl
map_conditions nodes (e ∷ es) = ap (λ ts. node_cond nodes e ∷ ts) (map_conditions nodes es)

pub begun_is : {e f second third : ExprTree} {joint op : COp} → joint ≡ op → e ≡ f → second ≡ third → begun false joint e second ≡ begun false op f third
begun_is {e = e} {f = f} {second = second} {op = op} g h k = ap (λ j. begun false j e second) g ∙ (ap (λ x. begun false op x second) h ∙ ap (λ x. begun false op f x) k)

module _ (names : Names) where
  conditions_on : (at : Place) (both : Bool) (so_far : CondTree) (f s : ExprTree) (es : Operands) (ts : List ValueTree) → lowered_cond names so_far ≡ operation (c_op (joining both)) f s es
      → lowered_cond names (cond_chain at both true so_far ts) ≡ operation (c_op (joining both)) f s (appended es (conditions_behind names (map cond_in ts)))
  conditions_on at both so_far f s es [] h = h ∙ ap (operation (c_op (joining both)) f s) (sym (appended_none es))
  conditions_on at both so_far f s es (t ∷ ts) h =
      conditions_on at both (junction at both true so_far (cond_in t)) f s (with_operand es (lowered_cond names (cond_in t))) ts
      (ap (λ a. chained true (c_op (joining both)) a (lowered_cond names (cond_in t))) h ∙ joined_on both f s es (lowered_cond names (cond_in t)))
      ∙ ap (operation (c_op (joining both)) f s) (appended_one es (lowered_cond names (cond_in t)) (conditions_behind names (map cond_in ts)))

  two_conditions : (at : Place) (both : Bool) (a b : CondTree)
      → lowered_cond names (junction at both false a b) ≡ operation (c_op (joining both)) (begun false (c_op (joining both)) (lowered_cond names a) (lowered_cond names b)) (lowered_cond names b) no_operand
  two_conditions at true a b = refl
  two_conditions at false a b = refl

  -- A chain of conditions is one operation.
  pub one_junction : (nodes : TypedNodes) (at : Place) (signs : List Place) (ty : Ty) (sort : OperatorKind) (es : List ExprId) (d : ExprId) → is_joining sort ≡ true → 1 < length es
      → operation (c_op sort) (begun false (c_op sort) (lowered_cond names (node_cond nodes (get_or es 0 d))) (lowered_cond names (node_cond nodes (get_or es 1 d)))) (lowered_cond names (node_cond nodes (get_or es 1 d)))
      (conditions_behind names (map (node_cond nodes) (drop 2 es)))
      ≡ lowered_cond names (cond_in (chain_of at signs ty sort (map (tree_of nodes) es)))
  one_junction nodes at signs ty (joining both) [] d j l = absurd (omega (arith, l))
  one_junction nodes at signs ty (joining both) (a ∷ []) d j l = absurd (omega (arith, l))
  one_junction nodes at signs ty (joining both) (a ∷ b ∷ es) d j l =
      let first = begun false (c_op (joining both)) (lowered_cond names (node_cond nodes a)) (lowered_cond names (node_cond nodes b)) in
      ap (λ ts. operation (c_op (joining both)) first (lowered_cond names (node_cond nodes b)) (conditions_behind names ts)) (sym (map_conditions nodes es))
      ∙ sym (conditions_on at both (junction at both false (node_cond nodes a) (node_cond nodes b)) first (lowered_cond names (node_cond nodes b)) no_operand (map (tree_of nodes) es) (two_conditions at both (node_cond nodes a) (node_cond nodes b)))
  one_junction nodes at signs ty (ordering op) es d j l = absurd (cc j)
  one_junction nodes at signs ty (arithmetic op) es d j l = absurd (cc j)

  -- Operands one by one.
  pub behind_next : (nodes : TypedNodes) (es : List ExprId) (i : ℕ) (d : ExprId) (so_far all : Operands) → i < length es → appended so_far (conditions_behind names (map (node_cond nodes) (drop i es))) ≡ all
      → appended (with_operand so_far (lowered_cond names (node_cond nodes (get_or es i d)))) (conditions_behind names (map (node_cond nodes) (drop (i + 1) es))) ≡ all
  behind_next nodes es i d so_far all l h =
      appended_one so_far (lowered_cond names (node_cond nodes (get_or es i d))) (conditions_behind names (map (node_cond nodes) (drop (i + 1) es)))
      ∙ ap (λ xs. appended so_far (conditions_behind names (map (node_cond nodes) xs))) (sym (drop_more es i d l)) ∙ h

  pub behind_end : (nodes : TypedNodes) (es : List ExprId) (i : ℕ) (so_far all : Operands) → length es ≤ i → appended so_far (conditions_behind names (map (node_cond nodes) (drop i es))) ≡ all → so_far ≡ all
  behind_end nodes es i so_far all l h =
      let P : List ExprId → Type 0 = λ xs. appended so_far (conditions_behind names (map (node_cond nodes) xs)) ≡ all in
      sym (appended_none so_far) ∙ subst P (drop_of_length-le es l) h

  -- The operation of what a unit has is the whole chain.
  pub junction_is : (nodes : TypedNodes) (at : Place) (signs : List Place) (ty : Ty) (sort : OperatorKind) (es : List ExprId) (d : ExprId) (u : Nodes) (first second : CExprId) (others : List CExprId)
      → is_joining sort ≡ true → 1 < length es
      → HasExpr u first.0 (begun false (c_op sort) (lowered_cond names (node_cond nodes (get_or es 0 d))) (lowered_cond names (node_cond nodes (get_or es 1 d)))) → HasExpr u second.0 (lowered_cond names (node_cond nodes (get_or es 1 d))) → HasOperands u others (conditions_behind names (map (node_cond nodes) (drop 2 es)))
      → operation (c_op sort) (expr_of u first.0) (expr_of u second.0) (operands_in (expr_of u) others) ≡ lowered_cond names (cond_in (chain_of at signs ty sort (map (tree_of nodes) es)))
  junction_is nodes at signs ty sort es d u first second others j l a b o =
      ap (λ x. operation (c_op sort) x (expr_of u second.0) (operands_in (expr_of u) others)) a.is
      ∙ ap (λ x. operation (c_op sort) (begun false (c_op sort) (lowered_cond names (node_cond nodes (get_or es 0 d))) (lowered_cond names (node_cond nodes (get_or es 1 d)))) x (operands_in (expr_of u) others)) b.is
      ∙ ap (λ x. operation (c_op sort) (begun false (c_op sort) (lowered_cond names (node_cond nodes (get_or es 0 d))) (lowered_cond names (node_cond nodes (get_or es 1 d)))) (lowered_cond names (node_cond nodes (get_or es 1 d))) x) (has_is u others (conditions_behind names (map (node_cond nodes) (drop 2 es))) o)
      ∙ one_junction nodes at signs ty sort es d j l

  -- Numbers.
  pub numbers_compared : (at : Place) (signs : List Place) (ty tya : Ty) (sort : OperatorKind) (a b : ValueTree) → is_ordering sort ≡ true → is_state tya ≡ false → is_tree_of tya a ≡ true
      → exprs.numbers_compared (order_in sort) (comparand names (num_in a)) (comparand names (num_in b)) ≡ lowered_cond names (cond_in (chain_of at signs ty sort (a ∷ b ∷ [])))
  numbers_compared at signs ty tya (ordering op) a b o h k = ap (λ t. lowered_cond names (cond_in t)) (sym (compares_numbers at (first_sign at signs) op a b tya h k))
  numbers_compared at signs ty tya (joining both) a b o h k = absurd (cc o)
  numbers_compared at signs ty tya (arithmetic op) a b o h k = absurd (cc o)

  -- Statuses.
  pub statuses_as_one : (at : Place) (signs : List Place) (ty tya tyb : Ty) (sort : OperatorKind) (a b : ValueTree) → is_ordering sort ≡ true → is_state tya ≡ true → is_tree_of tya a ≡ true → compares_kinds sort tya tyb ≡ true
      → statuses_compared (is_equal (order_in sort)) names (status_in a) (status_in b) ≡ lowered_cond names (cond_in (chain_of at signs ty sort (a ∷ b ∷ [])))
  statuses_as_one at signs ty tya tyb (ordering op) a b o h k c =
      compares_statuses (λ op a. statuses_compared (is_equal op) names (status_in a) (status_in b) ≡ lowered_cond names (cond_in (comparison at (first_sign at signs) op a b))) (λ x. refl) (λ x. refl) op a tya tyb h k c
  statuses_as_one at signs ty tya tyb (joining both) a b o h k c = absurd (cc o)
  statuses_as_one at signs ty tya tyb (arithmetic op) a b o h k c = absurd (cc o)

-- Two numbers that a unit has are compared as what they are.
pub compared_as_are : (u new : Nodes) (op : Order) (a b : RatedNode) (left right : Rated) (r : Result CExprId NoMemory) → HasRated u a left → HasRated u b right
    → IfOk r (λ e. HasExpr new e.0 (exprs.numbers_compared op (rated_in u a) (rated_in u b))) → IfOk r (λ e. HasExpr new e.0 (exprs.numbers_compared op left right))
compared_as_are u new op a b left right r h k made =
    let there : IfOk r (λ e. HasExpr new e.0 (exprs.numbers_compared op left (rated_in u b))) = subst (λ (x : Rated). IfOk r (λ e. HasExpr new e.0 (exprs.numbers_compared op x (rated_in u b)))) (rated_is u a left h) made in
    subst (λ (x : Rated). IfOk r (λ e. HasExpr new e.0 (exprs.numbers_compared op left x))) (rated_is u b right k) there

-- What is compared is of kinds that compare.
pub compared_kinds : (nodes : TypedNodes) (ty : Ty) (sort : OperatorKind) (es : List ExprId) (d : ExprId) → is_ordering sort ≡ true → chain_fits nodes sort es ty ≡ true
    → compares_kinds sort (type_of_node nodes (get_or es 0 d).0) (type_of_node nodes (get_or es 1 d).0) ≡ true
compared_kinds nodes ty (ordering op) es d o f = operand_kinds nodes ty op es d f
compared_kinds nodes ty (joining both) es d o f = absurd (cc o)
compared_kinds nodes ty (arithmetic op) es d o f = absurd (cc o)

-- The tree of a status, by its kind.
pub state_tree : (nodes : TypedNodes) (e : ExprId) → is_tree_of (type_of_node nodes e.0) (tree_of nodes e) ≡ true → is_status_at nodes e ≡ true → tree_of nodes e ≡ state (node_status nodes e)
state_tree nodes e kind h = by (type_of_node nodes e.0) (tree_of nodes e) kind (both_true (is_expr nodes e) (is_state (type_of_node nodes e.0)) h).1
  where
    by : (ty : Ty) (t : ValueTree) → is_tree_of ty t ≡ true → is_state ty ≡ true → t ≡ state (status_in t)
    by types.Status (state t) h k = refl
    by types.Status t h k = absurd (cc h)
    by ty t h k = absurd (cc k)
