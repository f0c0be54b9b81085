-- The facts of conditions that stand in a chain, and of comparisons; and how facts come into a list one after the other.
use Rattle.std.proofs.Common.{◌≡◌, ℕ, zero, suc, ◌+◌, ◌<◌, Bool, true, false, List, [], ◌∷◌, ◌++◌, length, map, take, drop, Some, refl, sym, ap, ◌∙◌, arith}
use Rattle.std.specs.Prelude.{if◌then◌else◌, slice_get, slice_index_or}
use Rattle.wf_text.specs.declared.place.Place.{Place}
use Rattle.wf_ast.specs.declared.numbers.ExprId.{ExprId}
use Rattle.wf_ast.specs.declared.types.Ty.{Ty}
use Rattle.wf_ast.specs.declared.types.Ty.TheVariants as types
use Rattle.wf_ast.specs.declared.typed_nodes.TypedNodes.{TypedNodes}
use Rattle.wf_ast.specs.TypedTree.{Order, less, at_most, equal, differs, at_least, greater, CondTree, junction, ValueTree, numeric, state}
use Rattle.wf_ast.specs.TypedTrees.{OperatorKind, arithmetic, ordering, joining, num_in, cond_in, cond_chain, chain_of, comparison, first_sign, tree_of, type_of_node}
use Rattle.wf_ast.specs.TypedInvariant.{is_numeric, is_logical, is_tree_of, chain_fits, compares_kinds}
use Rattle.wf_ast.specs.Value.{same_truth}
use Rattle.wf_ast.specs.NodeKinds.{node_cond, node_number}
use Rattle.wf_ast.specs.OperatorForms.{is_joining, order_in}
use Rattle.wf_facts_exprs.specs.Claims.{Claim, stands, turned, with_answer, facts_of}
use Rattle.wf_facts_exprs.specs.Operands.{joins_all}
use Rattle.wf_facts_exprs.proofs.PassLemmas.{both_of}
use Rattle.wf_facts_exprs.proofs.JudgeLemmas.{numeric-not-logical}
use Rattle.wf_facts.specs.FactLists.{added, all_added}
use Rattle.wf_facts.specs.Conditions.{facts_of_all, StopsAt}

-- Lists of facts, one after the other.
append-again : (xs ys zs : List Claim) → ((xs ++ ys) ++ zs) ≡ (xs ++ (ys ++ zs))
append-again [] ys zs = refl
append-again (x ∷ xs) ys zs = ap (λ l. x ∷ l) (append-again xs ys zs)

append-none : (xs : List Claim) → (xs ++ []) ≡ xs
append-none [] = refl
append-none (x ∷ xs) = ap (λ l. x ∷ l) (append-none xs)

pub added-after : (fs xs ys : List Claim) → all_added fs (xs ++ ys) ≡ all_added (all_added fs xs) ys
added-after fs [] ys = refl
added-after fs (x ∷ xs) ys = added-after (added fs x) xs ys

module _ (nodes : TypedNodes) (answer : Bool) where
  all-chain : (at : Place) (both joined : Bool) (so_far : CondTree) (t : ExprId) (ts : List ExprId) → same_truth both answer ≡ true
      → facts_of (cond_chain at both joined so_far (map (tree_of nodes) (t ∷ ts))) answer ≡ (facts_of so_far answer ++ facts_of_all nodes answer (t ∷ ts))
  all-chain at both joined so_far t [] h =
      let a = facts_of so_far answer in
      let b = facts_of (node_cond nodes t) answer in
      ap (λ all. if all then a ++ b else stands (junction at both joined so_far (node_cond nodes t)) answer ∷ []) h ∙ ap (λ l. a ++ l) (sym (append-none b))
  all-chain at both joined so_far t (u ∷ us) h =
      let a = facts_of so_far answer in
      let b = facts_of (node_cond nodes t) answer in
      all-chain at both true (junction at both joined so_far (node_cond nodes t)) u us h
      ∙ ap (λ all. (if all then a ++ b else stands (junction at both joined so_far (node_cond nodes t)) answer ∷ []) ++ facts_of_all nodes answer (u ∷ us)) h
      ∙ append-again a b (facts_of_all nodes answer (u ∷ us))

  whole-chain : (at : Place) (both joined : Bool) (so_far : CondTree) (t : ExprId) (ts : List ExprId) → same_truth both answer ≡ false
      → facts_of (cond_chain at both joined so_far (map (tree_of nodes) (t ∷ ts))) answer ≡ (stands (cond_chain at both joined so_far (map (tree_of nodes) (t ∷ ts))) answer ∷ [])
  whole-chain at both joined so_far t [] h =
      ap (λ all. if all then facts_of so_far answer ++ facts_of (node_cond nodes t) answer else stands (junction at both joined so_far (node_cond nodes t)) answer ∷ []) h
  whole-chain at both joined so_far t (u ∷ us) h = whole-chain at both true (junction at both joined so_far (node_cond nodes t)) u us h

  pub chain-all : (at : Place) (signs : List Place) (ty : Ty) (sort : OperatorKind) (es : List ExprId) → chain_fits nodes sort es ty ≡ true → joins_all sort answer ≡ true
      → facts_of (cond_in (chain_of at signs ty sort (map (tree_of nodes) es))) answer ≡ facts_of_all nodes answer es
  chain-all at signs ty (joining both) (e ∷ f ∷ es) h k = all-chain at both false (node_cond nodes e) f es k
  chain-all at signs ty (joining both) [] h k = absurd (cc (h))
  chain-all at signs ty (joining both) (e ∷ []) h k = absurd (cc (h))
  chain-all at signs ty (arithmetic op) es h k = absurd (cc (k))
  chain-all at signs ty (ordering op) es h k = absurd (cc (k))

  pub chain-whole : (at : Place) (signs : List Place) (ty : Ty) (sort : OperatorKind) (es : List ExprId) → chain_fits nodes sort es ty ≡ true → is_joining sort ≡ true → joins_all sort answer ≡ false
      → facts_of (cond_in (chain_of at signs ty sort (map (tree_of nodes) es))) answer ≡ (stands (cond_in (chain_of at signs ty sort (map (tree_of nodes) es))) answer ∷ [])
  chain-whole at signs ty (joining both) (e ∷ f ∷ es) h j k = whole-chain at both false (node_cond nodes e) f es k
  chain-whole at signs ty (joining both) [] h j k = absurd (cc (h))
  chain-whole at signs ty (joining both) (e ∷ []) h j k = absurd (cc (h))
  chain-whole at signs ty (arithmetic op) es h j k = absurd (cc (j))
  chain-whole at signs ty (ordering op) es h j k = absurd (cc (j))

  numbers-facts : (at sign : Place) (op : Order) (ty : Ty) (t u : ValueTree) → is_numeric ty ≡ true → is_tree_of ty t ≡ true → facts_of (cond_in (comparison at sign op t u)) answer ≡ (turned (num_in t) (with_answer answer op) (num_in u) ∷ [])
  numbers-facts at sign equal (types.Num width lo hi) (numeric a) u h k = refl
  numbers-facts at sign differs (types.Num width lo hi) (numeric a) u h k = refl
  numbers-facts at sign op (types.Num width lo hi) (numeric a) u h k = refl
  numbers-facts at sign op (types.Num width lo hi) t u h k = absurd (cc (k))
  numbers-facts at sign op ty t u h k = absurd (cc (h))

  states-facts : (at sign : Place) (op : Order) (ty ty' : Ty) (t u : ValueTree) → compares_kinds (ordering op) ty ty' ≡ true → is_numeric ty ≡ false → is_tree_of ty t ≡ true
      → facts_of (cond_in (comparison at sign op t u)) answer ≡ (stands (cond_in (comparison at sign op t u)) answer ∷ [])
  states-facts at sign equal types.Status ty' (state a) u h k l = refl
  states-facts at sign differs types.Status ty' (state a) u h k l = refl
  states-facts at sign less types.Status ty' t u h k l = absurd (cc (h))
  states-facts at sign at_most types.Status ty' t u h k l = absurd (cc (h))
  states-facts at sign at_least types.Status ty' t u h k l = absurd (cc (h))
  states-facts at sign greater types.Status ty' t u h k l = absurd (cc (h))
  states-facts at sign op types.Status ty' t u h k l = absurd (cc (l))
  states-facts at sign op (types.Num width lo hi) ty' t u h k l = absurd (cc (k))
  states-facts at sign equal ty ty' t u h k l = absurd (cc (h))
  states-facts at sign differs ty ty' t u h k l = absurd (cc (h))
  states-facts at sign op ty ty' t u h k l = absurd (cc (h))

  -- Two numbers make a fact of their own, and two statuses stand as they are.
  pub pair-facts : (at : Place) (signs : List Place) (ty : Ty) (sort : OperatorKind) (es : List ExprId) (d : ExprId) → chain_fits nodes sort es ty ≡ true → is_joining sort ≡ false → is_logical ty ≡ true
      → is_numeric (type_of_node nodes (slice_index_or es 0 d).0) ≡ true → is_tree_of (type_of_node nodes (slice_index_or es 0 d).0) (tree_of nodes (slice_index_or es 0 d)) ≡ true
      → facts_of (cond_in (chain_of at signs ty sort (map (tree_of nodes) es))) answer
      ≡ (turned (node_number nodes (slice_index_or es 0 d)) (with_answer answer (order_in sort)) (node_number nodes (slice_index_or es 1 d)) ∷ [])
  pair-facts at signs ty (ordering op) (e ∷ f ∷ []) d h k l m n = numbers-facts at (first_sign at signs) op (type_of_node nodes e.0) (tree_of nodes e) (tree_of nodes f) m n
  pair-facts at signs ty (arithmetic op) (e ∷ f ∷ es) d h k l m n = absurd (numeric-not-logical ty (both_of (is_numeric ty) _ h).0 l)
  pair-facts at signs ty (joining both) es d h k l m n = absurd (cc (k))
  pair-facts at signs ty sort es d h k l m n = absurd (cc (h))

  pub pair-whole : (at : Place) (signs : List Place) (ty : Ty) (sort : OperatorKind) (es : List ExprId) (d : ExprId) → chain_fits nodes sort es ty ≡ true → is_joining sort ≡ false → is_logical ty ≡ true
      → is_numeric (type_of_node nodes (slice_index_or es 0 d).0) ≡ false → is_tree_of (type_of_node nodes (slice_index_or es 0 d).0) (tree_of nodes (slice_index_or es 0 d)) ≡ true
      → facts_of (cond_in (chain_of at signs ty sort (map (tree_of nodes) es))) answer ≡ (stands (cond_in (chain_of at signs ty sort (map (tree_of nodes) es))) answer ∷ [])
  pair-whole at signs ty (ordering op) (e ∷ f ∷ []) d h k l m n = states-facts at (first_sign at signs) op (type_of_node nodes e.0) (type_of_node nodes f.0) (tree_of nodes e) (tree_of nodes f) (both_of (is_logical ty) _ h).1 m n
  pair-whole at signs ty (arithmetic op) (e ∷ f ∷ es) d h k l m n = absurd (numeric-not-logical ty (both_of (is_numeric ty) _ h).0 l)
  pair-whole at signs ty (joining both) es d h k l m n = absurd (cc (k))
  pair-whole at signs ty sort es d h k l m n = absurd (cc (h))

  -- Several conditions, of which one stands at place i.
  pub all-split : (es : List ExprId) (i : ℕ) (d : ExprId) → i < length es
      → facts_of_all nodes answer es ≡ (facts_of_all nodes answer (take i es) ++ (facts_of (node_cond nodes (slice_index_or es i d)) answer ++ facts_of_all nodes answer (drop (suc i) es)))
  all-split [] i d h = absurd (omega (arith, h))
  all-split (e ∷ es) zero d h = refl
  all-split (e ∷ es) (suc i) d h =
      ap (λ l. facts_of (node_cond nodes e) answer ++ l) (all-split es i d (omega (arith, h)))
      ∙ sym (append-again (facts_of (node_cond nodes e) answer) (facts_of_all nodes answer (take i es)) (facts_of (node_cond nodes (slice_index_or es i d)) answer ++ facts_of_all nodes answer (drop (suc i) es)))

  pub all-more : (es : List ExprId) (i : ℕ) (d : ExprId) → i < length es → facts_of_all nodes answer (take (suc i) es) ≡ (facts_of_all nodes answer (take i es) ++ facts_of (node_cond nodes (slice_index_or es i d)) answer)
  all-more [] i d h = absurd (omega (arith, h))
  all-more (e ∷ es) zero d h = append-none (facts_of (node_cond nodes e) answer)
  all-more (e ∷ es) (suc i) d h =
      ap (λ l. facts_of (node_cond nodes e) answer ++ l) (all-more es i d (omega (arith, h)))
      ∙ sym (append-again (facts_of (node_cond nodes e) answer) (facts_of_all nodes answer (take i es)) (facts_of (node_cond nodes (slice_index_or es i d)) answer))

-- Where the list stops among the facts of several conditions.
get-in : (xs zs : List Claim) (k : ℕ) (f : Claim) → slice_get xs k ≡ Some f → slice_get (xs ++ zs) k ≡ Some f
get-in [] zs k f h = absurd (cc (h))
get-in (x ∷ xs) zs zero f h = h
get-in (x ∷ xs) zs (suc k) f h = get-in xs zs k f h

get-after : (xs zs : List Claim) (k : ℕ) → slice_get (xs ++ zs) (length xs + k) ≡ slice_get zs k
get-after [] zs k = let z : 0 + k ≡ k = omega arith in ap (slice_get zs) z
get-after (x ∷ xs) zs k = let z : suc (length xs) + k ≡ suc (length xs + k) = omega arith in ap (slice_get (x ∷ (xs ++ zs))) z ∙ get-after xs zs k

take-in : (xs zs : List Claim) (k : ℕ) (f : Claim) → slice_get xs k ≡ Some f → take k (xs ++ zs) ≡ take k xs
take-in [] zs k f h = absurd (cc (h))
take-in (x ∷ xs) zs zero f h = refl
take-in (x ∷ xs) zs (suc k) f h = ap (λ l. x ∷ l) (take-in xs zs k f h)

take-after : (xs zs : List Claim) (k : ℕ) → take (length xs + k) (xs ++ zs) ≡ xs ++ take k zs
take-after [] zs k = let z : 0 + k ≡ k = omega arith in ap (λ n. take n zs) z
take-after (x ∷ xs) zs k = let z : suc (length xs) + k ≡ suc (length xs + k) = omega arith in ap (λ n. take n (x ∷ (xs ++ zs))) z ∙ ap (λ l. x ∷ l) (take-after xs zs k)

pub stops-among : (before done facts rest after : List Claim) → StopsAt (all_added before done) facts after → StopsAt before (done ++ (facts ++ rest)) after
stops-among before done facts rest after s = record {
  count = length done + s.count;
  next = s.next;
  is = get-after done (facts ++ rest) s.count ∙ get-in facts rest s.count s.next s.is;
  so_far = s.so_far ∙ sym (added-after before done (take s.count facts)) ∙ ap (λ l. all_added before (done ++ l)) (sym (take-in facts rest s.count s.next s.is)) ∙ ap (all_added before) (sym (take-after done (facts ++ rest) s.count));
  many = s.many;
  other = s.other;
}
