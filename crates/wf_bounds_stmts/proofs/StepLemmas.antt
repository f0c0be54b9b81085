-- Steps of variables, by the operators of assignments.
use Rattle.std.proofs.Common.{◌≡◌, ℕ, ◌<◌, ◌≤◌, Bool, true, false, List, [], ◌∷◌, length, map, Option, Some, None, refl, sym, subst, arith}
use Rattle.std.specs.Prelude.{slice_index_or, is_some}
use Rattle.std.specs.List.{list_all}
use Rattle.std.proofs.lemmas.Bool.{and_parts}
use Rattle.wf_text.specs.declared.place.Place.{Place}
use Rattle.wf_ast.specs.declared.numbers.ExprId.{ExprId}
use Rattle.wf_ast.specs.declared.types.Ty.{Ty}
use Rattle.wf_ast.specs.declared.typed_nodes.TypedNodes.{TypedNodes}
use Rattle.wf_ast.specs.TypedTree.{Arith, NumTree, number, read, element, link, convert, length_of, asked, slice, array, cut, status, held, no_status, truth, flag, compare, same_status, junction, negation, closed, has_category, ValueTree, numeric, logical, state, elements, io, lost}
use Rattle.wf_ast.specs.declared.operators.Op.{Op}
use Rattle.wf_ast.specs.declared.typed_code.Expr.TheVariants as exprs
use Rattle.wf_ast.specs.TypedTrees.{OperatorKind, arithmetic, ordering, joining, operator_kind, num_in, num_type, num_chain, chain_of, target_of, type_of_node, constant_of_node}
use Rattle.wf_ast.specs.TypedInvariant.{chain_fits, node_fits, parts_below, is_expr, is_numeric, is_logical}
use Rattle.wf_ast.specs.NodeKinds.{is_number_at}
use Rattle.wf_facts_exprs.specs.Claims.{Claim}
use Rattle.wf_facts_exprs.proofs.JudgeLemmas.{numeric-not-logical, is-arith}
use Rattle.wf_facts.specs.Forms.{number_in}
use Rattle.wf_bounds_stmts.specs.Targets.{step_of, number_written, written_by, assigned}
use Rattle.wf_bounds_stmts.specs.Nodes.{is_read, step_in, step_of_two, stepped_or_dropped}
use Rattle.wf_bounds_stmts.proofs.TypeLemmas.{lt_from}

module _ (x : NumTree) where
  link-step : (at sign : Place) (op : Arith) (bits : ℕ) (joined : Bool) (a b : NumTree) → step_of_two x (arithmetic op) a (number_in b) ≡ step_of x (link at sign op bits joined a b)
  link-step at sign op bits joined a (number at' k) = refl
  link-step at sign op bits joined a b = refl

  module _ (nodes : TypedNodes) (look : ExprId → ValueTree) (at : Place) (ty : Ty) (num : is_numeric ty ≡ true) where
    pub chain-two : (signs : List Place) (sort : OperatorKind) (es : List ExprId) (d : ExprId) → chain_fits nodes sort es ty ≡ true → 2 ≤ length es → length es < 3
        → step_of_two x sort (num_in (look (slice_index_or es 0 d))) (number_in (num_in (look (slice_index_or es 1 d)))) ≡ step_of x (num_in (chain_of at signs ty sort (map look es)))
    chain-two [] (arithmetic op) (e ∷ f ∷ []) d h k l = link-step at at op (num_type ty).bits false (num_in (look e)) (num_in (look f))
    chain-two (s ∷ signs) (arithmetic op) (e ∷ f ∷ []) d h k l = link-step at s op (num_type ty).bits false (num_in (look e)) (num_in (look f))
    chain-two signs (arithmetic op) (e ∷ f ∷ g ∷ es) d h k l = absurd (omega (arith, l))
    chain-two signs (joining both) (e ∷ f ∷ es) d h k l = absurd (numeric-not-logical ty num (and_parts (is_logical ty) _ h).0)
    chain-two signs (ordering op) (e ∷ f ∷ []) d h k l = absurd (numeric-not-logical ty num (and_parts (is_logical ty) _ h).0)
    chain-two signs sort es d h k l = absurd (cc (h))

-- An operator between more is none of a variable.
module _ (x : NumTree) (held : is_read x ≡ true) (at : Place) (op : Arith) (bits : ℕ) where
  no-step : (y : NumTree) → is_read y ≡ true → (sign s : Place) (joined : Bool) (a b c : NumTree) → step_of y (link at s op bits true (link at sign op bits joined a b) c) ≡ None
  no-step (read at'' of path) h sign s joined a b (number n k) = refl
  no-step (read at'' of path) h sign s joined a b c = refl
  no-step y h sign s joined a b c = absurd (cc (h))

  more : (sign : Place) (joined : Bool) (a b : NumTree) (t : ValueTree) (ts : List ValueTree) (signs : List Place) → step_of x (num_chain at op bits true (link at sign op bits joined a b) (t ∷ ts) signs) ≡ None
  more sign joined a b t [] [] = no-step x held sign at joined a b (num_in t)
  more sign joined a b t [] (s ∷ signs) = no-step x held sign s joined a b (num_in t)
  more sign joined a b t (u ∷ us) [] = more at true (link at sign op bits joined a b) (num_in t) u us []
  more sign joined a b t (u ∷ us) (s ∷ signs) = more s true (link at sign op bits joined a b) (num_in t) u us signs

module _ (x : NumTree) (held : is_read x ≡ true) (nodes : TypedNodes) (look : ExprId → ValueTree) (at : Place) (ty : Ty) (num : is_numeric ty ≡ true) where
  pub chain-more : (signs : List Place) (sort : OperatorKind) (es : List ExprId) → chain_fits nodes sort es ty ≡ true → 3 ≤ length es → None ≡ step_of x (num_in (chain_of at signs ty sort (map look es)))
  chain-more [] (arithmetic op) (e ∷ f ∷ g ∷ es) h k = sym (more x held at op (num_type ty).bits at false (num_in (look e)) (num_in (look f)) (look g) (map look es) [])
  chain-more (s ∷ signs) (arithmetic op) (e ∷ f ∷ g ∷ es) h k = sym (more x held at op (num_type ty).bits s false (num_in (look e)) (num_in (look f)) (look g) (map look es) signs)
  chain-more signs (arithmetic op) (e ∷ f ∷ []) h k = absurd (omega (arith, k))
  chain-more signs (joining both) (e ∷ f ∷ es) h k = absurd (numeric-not-logical ty num (and_parts (is_logical ty) _ h).0)
  chain-more signs (ordering op) (e ∷ f ∷ []) h k = absurd (numeric-not-logical ty num (and_parts (is_logical ty) _ h).0)
  chain-more signs sort es h k = absurd (cc (h))

-- The operands of an operator that gives a number are numbers.
pub chain-numbers : (nodes : TypedNodes) (e : ExprId) (k : Option ℕ) (op : Op) (parts : List ExprId) → k ≡ constant_of_node nodes e.0 → is_some k ≡ false → is_number_at nodes e ≡ true
    → node_fits nodes (type_of_node nodes e.0) (constant_of_node nodes e.0) (exprs.Chain op parts) ≡ true → parts_below e.0 (exprs.Chain op parts) ≡ true → list_all (is_number_at nodes) parts ≡ true
chain-numbers nodes e (Some n) op parts is none h fits below = absurd (cc (none))
chain-numbers nodes e None op parts is none h fits below =
    let both = and_parts (is_expr nodes e) _ h in
    let P : Option ℕ → Type 0 = λ k. node_fits nodes (type_of_node nodes e.0) k (exprs.Chain op parts) ≡ true in
    (is-arith nodes e.0 (type_of_node nodes e.0) (operator_kind op) parts (lt_from _ _ both.0) both.1 (subst P (sym is) fits) below).numbers

-- What stands after an assignment with an operator, by what is written.
pub stepped-by : (fs : List Claim) (w v : ValueTree) (op : Arith) → assigned fs (target_of w) (Some op) v ≡ stepped_or_dropped fs (number_written (target_of w)) (written_by (target_of w)) (step_in (num_in w) v)
stepped-by fs (numeric (read at of p)) (numeric t) op = refl
stepped-by fs (numeric (read at of p)) (logical c) op = refl
stepped-by fs (numeric (read at of p)) (state c) op = refl
stepped-by fs (numeric (read at of p)) (elements c) op = refl
stepped-by fs (numeric (read at of p)) (io at' a) op = refl
stepped-by fs (numeric (read at of p)) lost op = refl
stepped-by fs (numeric (element at of cells index)) v op = refl
stepped-by fs (numeric (number at n)) v op = refl
stepped-by fs (numeric (link at sign o bits joined a b)) v op = refl
stepped-by fs (numeric (convert at sign bits a)) v op = refl
stepped-by fs (numeric (length_of at cells)) v op = refl
stepped-by fs (numeric (asked at q a)) v op = refl
stepped-by fs (logical (flag at p)) v op = refl
stepped-by fs (logical (truth at b)) v op = refl
stepped-by fs (logical (compare at sign a o b)) v op = refl
stepped-by fs (logical (same_status at sign a one b)) v op = refl
stepped-by fs (logical (junction at both joined a b)) v op = refl
stepped-by fs (logical (negation at a)) v op = refl
stepped-by fs (logical (closed at a)) v op = refl
stepped-by fs (logical (has_category at a category)) v op = refl
stepped-by fs (state (held at p)) v op = refl
stepped-by fs (state (status at n)) v op = refl
stepped-by fs (state no_status) v op = refl
stepped-by fs (elements (slice at bits p)) v op = refl
stepped-by fs (elements (array at of count p)) v op = refl
stepped-by fs (elements (cut at cells from to)) v op = refl
stepped-by fs (io at a) v op = refl
stepped-by fs lost v op = refl
