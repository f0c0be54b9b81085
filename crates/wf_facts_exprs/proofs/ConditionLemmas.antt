-- The demands of conditions that stand in a chain.
use Rattle.std.proofs.Common.{◌≡◌, ◌<◌, ◌≤◌, Bool, true, false, ◌&&◌, ◌||◌, List, [], ◌∷◌, length, map, Option, Some, None, nat_lt, refl, sym, ◌∙◌, arith}
use Rattle.std.specs.Prelude.{slice_index_or}
use Rattle.std.specs.List.{list_all}
use Rattle.std.proofs.lemmas.Bool.Decides.{nat_tests}
use Rattle.wf_text.specs.declared.place.Place.{Place}
use Rattle.wf_text.specs.declared.rules.Refusal.{Refusal}
use Rattle.wf_ast.specs.declared.numbers.ExprId.{ExprId}
use Rattle.wf_ast.specs.declared.types.Ty.{Ty}
use Rattle.wf_ast.specs.declared.types.Ty.TheVariants as types
use Rattle.wf_ast.specs.declared.typed_nodes.TypedNodes.{TypedNodes}
use Rattle.wf_ast.specs.TypedTree.{CondTree, junction, ValueTree, numeric, Order, equal, differs}
use Rattle.wf_ast.specs.TypedTrees.{OperatorKind, arithmetic, ordering, joining, num_in, cond_in, cond_chain, chain_of, comparison, first_sign, tree_of, type_of_node}
use Rattle.wf_ast.specs.TypedInvariant.{is_expr, is_numeric, is_logical, is_tree_of, chain_fits, compares_kinds}
use Rattle.wf_ast.specs.NodeKinds.{is_number_at, node_cond, node_number}
use Rattle.wf_ast.specs.OperatorForms.{is_joining}
use Rattle.wf_facts_exprs.specs.Claims.{Claim}
use Rattle.wf_facts_exprs.specs.Demands.{or_else, num_refusal, cond_refusal}
use Rattle.wf_facts_exprs.specs.Operands.{conds_refusal, is_condition_below}
use Rattle.wf_facts_exprs.proofs.PassLemmas.{both_of}
use Rattle.wf_facts_exprs.proofs.JudgeLemmas.{or-none, numeric-not-logical}

or-again : (p q r : Option Refusal) → or_else (or_else p q) r ≡ or_else p (or_else q r)
or-again None q r = refl
or-again (Some x) q r = refl

module _ (fs : List Claim) (nodes : TypedNodes) where
  conds-chain : (at : Place) (both joined : Bool) (so_far : CondTree) (es : List ExprId) → cond_refusal fs (cond_chain at both joined so_far (map (tree_of nodes) es)) ≡ or_else (cond_refusal fs so_far) (conds_refusal fs nodes es)
  conds-chain at both joined so_far [] = sym (or-none (cond_refusal fs so_far))
  conds-chain at both joined so_far (e ∷ es) =
      conds-chain at both true (junction at both joined so_far (node_cond nodes e)) es ∙ or-again (cond_refusal fs so_far) (cond_refusal fs (node_cond nodes e)) (conds_refusal fs nodes es)

  pub joined-refusal : (at : Place) (signs : List Place) (ty : Ty) (sort : OperatorKind) (es : List ExprId) → chain_fits nodes sort es ty ≡ true → is_joining sort ≡ true
      → cond_refusal fs (cond_in (chain_of at signs ty sort (map (tree_of nodes) es))) ≡ conds_refusal fs nodes es
  joined-refusal at signs ty (joining both) (e ∷ es) h k = conds-chain at both false (node_cond nodes e) es
  joined-refusal at signs ty (joining both) [] h k = absurd (cc (h))
  joined-refusal at signs ty (arithmetic op) es h k = absurd (cc (k))
  joined-refusal at signs ty (ordering op) es h k = absurd (cc (k))

  numbers-refusal : (at sign : Place) (op : Order) (ty : Ty) (t u : ValueTree) → is_numeric ty ≡ true → is_tree_of ty t ≡ true → cond_refusal fs (cond_in (comparison at sign op t u)) ≡ or_else (num_refusal fs false (num_in t)) (num_refusal fs false (num_in u))
  numbers-refusal at sign equal (types.Num width lo hi) (numeric a) u h k = refl
  numbers-refusal at sign differs (types.Num width lo hi) (numeric a) u h k = refl
  numbers-refusal at sign op (types.Num width lo hi) (numeric a) u h k = refl
  numbers-refusal at sign op (types.Num width lo hi) t u h k = absurd (cc (k))
  numbers-refusal at sign op ty t u h k = absurd (cc (h))

  pub pair-refusal : (at : Place) (signs : List Place) (ty : Ty) (sort : OperatorKind) (es : List ExprId) (d : ExprId) → chain_fits nodes sort es ty ≡ true → is_joining sort ≡ false → is_logical ty ≡ true
      → is_numeric (type_of_node nodes (slice_index_or es 0 d).0) ≡ true → is_tree_of (type_of_node nodes (slice_index_or es 0 d).0) (tree_of nodes (slice_index_or es 0 d)) ≡ true
      → cond_refusal fs (cond_in (chain_of at signs ty sort (map (tree_of nodes) es))) ≡ or_else (num_refusal fs false (node_number nodes (slice_index_or es 0 d))) (num_refusal fs false (node_number nodes (slice_index_or es 1 d)))
  pair-refusal at signs ty (ordering op) (e ∷ f ∷ []) d h k l m n = numbers-refusal at (first_sign at signs) op (type_of_node nodes e.0) (tree_of nodes e) (tree_of nodes f) m n
  pair-refusal at signs ty (arithmetic op) (e ∷ f ∷ es) d h k l m n = absurd (numeric-not-logical ty (both_of (is_numeric ty) _ h).0 l)
  pair-refusal at signs ty (joining both) es d h k l m n = absurd (cc (k))
  pair-refusal at signs ty sort es d h k l m n = absurd (cc (h))

-- ---- what the parts are

and_both : (a b : Bool) → a ≡ true → b ≡ true → (a && b) ≡ true
and_both true b h k = k
and_both false b h k = absurd (cc (h))

module _ (nodes : TypedNodes) (e : ExprId) (inside : e.0 < length nodes.exprs) where
  there : (p : ExprId) → nat_lt p.0 e.0 ≡ true → is_expr nodes p ≡ true
  there p h = grind (arith, nat_tests, h, inside)

  conditions : (es : List ExprId) → list_all (λ part. is_logical (type_of_node nodes part.0)) es ≡ true → list_all (λ p. nat_lt p.0 e.0) es ≡ true → list_all (is_condition_below nodes e) es ≡ true
  conditions [] h k = refl
  conditions (p ∷ es) h k =
      let i = both_of (is_logical (type_of_node nodes p.0)) _ h in
      let j = both_of (nat_lt p.0 e.0) _ k in
      and_both _ _ (and_both _ _ j.0 (and_both _ _ (there p j.0) i.0)) (conditions es i.1 j.1)

  pub joined-conditions : (ty : Ty) (sort : OperatorKind) (es : List ExprId) → chain_fits nodes sort es ty ≡ true → is_joining sort ≡ true → list_all (λ p. nat_lt p.0 e.0) es ≡ true → list_all (is_condition_below nodes e) es ≡ true
  joined-conditions ty (joining both) (p ∷ q ∷ es) h k below = conditions (p ∷ q ∷ es) (both_of (is_logical ty) _ h).1 below
  joined-conditions ty (joining both) [] h k below = absurd (cc (h))
  joined-conditions ty (joining both) (p ∷ []) h k below = absurd (cc (h))
  joined-conditions ty (arithmetic op) es h k below = absurd (cc (k))
  joined-conditions ty (ordering op) es h k below = absurd (cc (k))

  second-number : (op : Order) (a b : Ty) → compares_kinds (ordering op) a b ≡ true → is_numeric a ≡ true → is_numeric b ≡ true
  second-number equal (types.Num width lo hi) b h k = either (is_numeric b) h
    where
      either : (x : Bool) → (x || false) ≡ true → x ≡ true
      either true h = refl
      either false h = absurd (cc (h))
  second-number differs (types.Num width lo hi) b h k = either (is_numeric b) h
    where
      either : (x : Bool) → (x || false) ≡ true → x ≡ true
      either true h = refl
      either false h = absurd (cc (h))
  second-number op (types.Num width lo hi) b h k = h
  second-number op a b h k = absurd (cc (k))

  -- The two operands of a comparison: they are there, and are numbers where the first one is.
  pub record Pair (es : List ExprId) (d : ExprId) : Type 0 where
    pub some : 2 ≤ length es
    pub first : is_expr nodes (slice_index_or es 0 d) ≡ true
    pub numbers : is_numeric (type_of_node nodes (slice_index_or es 0 d).0) ≡ true → is_number_at nodes (slice_index_or es 1 d) ≡ true

  pub pair-parts : (ty : Ty) (sort : OperatorKind) (es : List ExprId) (d : ExprId) → chain_fits nodes sort es ty ≡ true → is_joining sort ≡ false → is_logical ty ≡ true → list_all (λ p. nat_lt p.0 e.0) es ≡ true → Pair es d
  pair-parts ty (ordering op) (p ∷ q ∷ []) d h k l below =
      let i = both_of (nat_lt p.0 e.0) _ below in
      let j = both_of (nat_lt q.0 e.0) _ i.1 in
      record {
        some = omega arith;
        first = there p i.0;
        numbers = λ n. and_both _ _ (there q j.0) (second-number op (type_of_node nodes p.0) (type_of_node nodes q.0) (both_of (is_logical ty) _ h).1 n);
      }
  pair-parts ty (arithmetic op) (p ∷ q ∷ es) d h k l below = absurd (numeric-not-logical ty (both_of (is_numeric ty) _ h).0 l)
  pair-parts ty (joining both) es d h k l below = absurd (cc (k))
  pair-parts ty sort es d h k l below = absurd (cc (h))
