-- What is given of conditions that stand in a chain.
use Rattle.std.proofs.Common.{◌≡◌, ℕ, zero, suc, ◌<◌, Bool, true, false, not, ◌&&◌, ◌||◌, List, [], ◌∷◌, length, map, Option, Some, None, refl, sym, ap, ◌∙◌, arith}
use Rattle.std.specs.Prelude.{slice_index_or, if◌then◌else◌}
use Rattle.wf_text.specs.declared.place.Place.{Place}
use Rattle.wf_text.specs.declared.rules.Refusal.{Refusal}
use Rattle.wf_ast.specs.declared.numbers.ExprId.{ExprId}
use Rattle.wf_ast.specs.declared.types.Ty.{Ty}
use Rattle.wf_ast.specs.declared.types.Ty.TheVariants as types
use Rattle.wf_ast.specs.declared.typed_nodes.TypedNodes.{TypedNodes}
use Rattle.wf_ast.specs.TypedTree.{CondTree, junction, ValueTree, numeric, state, Order, less, at_most, equal, differs, at_least, greater}
use Rattle.wf_ast.specs.TypedTrees.{OperatorKind, arithmetic, ordering, joining, num_in, cond_in, cond_chain, chain_of, comparison, first_sign, tree_of, type_of_node}
use Rattle.wf_ast.specs.TypedInvariant.{is_numeric, is_logical, is_tree_of, chain_fits, compares_kinds}
use Rattle.wf_ast.specs.Value.{same_truth}
use Rattle.wf_ast.specs.NodeKinds.{node_cond, node_number}
use Rattle.wf_ast.specs.OperatorForms.{is_joining, order_in}
use Rattle.wf_facts_exprs.specs.Claims.{Claim, single, with_answer}
use Rattle.wf_facts_exprs.specs.Demands.{or_else, cond_refusal}
use Rattle.wf_facts_exprs.specs.Given.{gives, gives_part, gives_sides, is_standing}
use Rattle.wf_facts_exprs.specs.Operands.{joins_all, all_given, any_given, conds_refusal}
use Rattle.wf_facts_exprs.proofs.PassLemmas.{both_of}
use Rattle.wf_facts_exprs.proofs.JudgeLemmas.{numeric-not-logical}

and-again : (a b c : Bool) → ((a && b) && c) ≡ (a && (b && c))
and-again true b c = refl
and-again false b c = refl

or-again : (a b c : Bool) → ((a || b) || c) ≡ (a || (b || c))
or-again true b c = refl
or-again false b c = refl

and-true : (a : Bool) → (a && true) ≡ a
and-true true = refl
and-true false = refl

or-false : (a : Bool) → (a || false) ≡ a
or-false true = refl
or-false false = refl

module _ (fs : List Claim) (nodes : TypedNodes) (answer : Bool) where
  all-chain : (part : Bool) (at : Place) (both joined : Bool) (so_far : CondTree) (t : ExprId) (ts : List ExprId) → same_truth both answer ≡ true
      → gives_part part fs (cond_chain at both joined so_far (map (tree_of nodes) (t ∷ ts))) answer ≡ (gives_part joined fs so_far answer && all_given fs nodes (t ∷ ts) answer)
  all-chain part at both joined so_far t [] h =
      let a = gives_part joined fs so_far answer in
      let b = gives fs (node_cond nodes t) answer in
      ap (λ all. if all then a && b else a || (b || (not part && is_standing fs (junction at both joined so_far (node_cond nodes t)) answer))) h ∙ ap (λ b. a && b) (sym (and-true b))
  all-chain part at both joined so_far t (u ∷ us) h =
      let a = gives_part joined fs so_far answer in
      let b = gives fs (node_cond nodes t) answer in
      all-chain part at both true (junction at both joined so_far (node_cond nodes t)) u us h
      ∙ ap (λ all. (if all then a && b else a || (b || (false && is_standing fs (junction at both joined so_far (node_cond nodes t)) answer))) && all_given fs nodes (u ∷ us) answer) h
      ∙ and-again a b (all_given fs nodes (u ∷ us) answer)

  any-chain : (at : Place) (both joined : Bool) (so_far : CondTree) (t : ExprId) (ts : List ExprId) → same_truth both answer ≡ false
      → gives_part false fs (cond_chain at both joined so_far (map (tree_of nodes) (t ∷ ts))) answer
      ≡ ((gives_part joined fs so_far answer || any_given fs nodes (t ∷ ts) answer) || is_standing fs (cond_chain at both joined so_far (map (tree_of nodes) (t ∷ ts))) answer)
  any-chain at both joined so_far t [] h =
      let a = gives_part joined fs so_far answer in
      let b = gives fs (node_cond nodes t) answer in
      let s = is_standing fs (junction at both joined so_far (node_cond nodes t)) answer in
      ap (λ all. if all then a && b else a || (b || s)) h ∙ sym (or-again a b s) ∙ ap (λ b. (a || b) || s) (sym (or-false b))
  any-chain at both joined so_far t (u ∷ us) h =
      let a = gives_part joined fs so_far answer in
      let b = gives fs (node_cond nodes t) answer in
      let rest = any_given fs nodes (u ∷ us) answer in
      let s = is_standing fs (cond_chain at both true (junction at both joined so_far (node_cond nodes t)) (map (tree_of nodes) (u ∷ us))) answer in
      any-chain at both true (junction at both joined so_far (node_cond nodes t)) u us h
      ∙ ap (λ all. ((if all then a && b else a || (b || false)) || rest) || s) h
      ∙ ap (λ b. ((a || b) || rest) || s) (or-false b) ∙ ap (λ x. x || s) (or-again a b rest)

  pub chain-all : (at : Place) (signs : List Place) (ty : Ty) (sort : OperatorKind) (es : List ExprId) → chain_fits nodes sort es ty ≡ true → joins_all sort answer ≡ true
      → gives fs (cond_in (chain_of at signs ty sort (map (tree_of nodes) es))) answer ≡ all_given fs nodes es answer
  chain-all at signs ty (joining both) (e ∷ f ∷ es) h k = all-chain false at both false (node_cond nodes e) f es k
  chain-all at signs ty (joining both) [] h k = absurd (cc (h))
  chain-all at signs ty (joining both) (e ∷ []) h k = absurd (cc (h))
  chain-all at signs ty (arithmetic op) es h k = absurd (cc (k))
  chain-all at signs ty (ordering op) es h k = absurd (cc (k))

  pub chain-any : (at : Place) (signs : List Place) (ty : Ty) (sort : OperatorKind) (es : List ExprId) → chain_fits nodes sort es ty ≡ true → is_joining sort ≡ true → joins_all sort answer ≡ false
      → gives fs (cond_in (chain_of at signs ty sort (map (tree_of nodes) es))) answer ≡ (any_given fs nodes es answer || is_standing fs (cond_in (chain_of at signs ty sort (map (tree_of nodes) es))) answer)
  chain-any at signs ty (joining both) (e ∷ f ∷ es) h j k = any-chain at both false (node_cond nodes e) f es k
  chain-any at signs ty (joining both) [] h j k = absurd (cc (h))
  chain-any at signs ty (joining both) (e ∷ []) h j k = absurd (cc (h))
  chain-any at signs ty (arithmetic op) es h j k = absurd (cc (j))
  chain-any at signs ty (ordering op) es h j k = absurd (cc (j))

  numbers-given : (at sign : Place) (op : Order) (ty : Ty) (t u : ValueTree) → is_numeric ty ≡ true → is_tree_of ty t ≡ true → gives fs (cond_in (comparison at sign op t u)) answer ≡ gives_sides fs (single (num_in t)) (with_answer answer op) (single (num_in u))
  numbers-given at sign equal (types.Num width lo hi) (numeric a) u h k = refl
  numbers-given at sign differs (types.Num width lo hi) (numeric a) u h k = refl
  numbers-given at sign op (types.Num width lo hi) (numeric a) u h k = refl
  numbers-given at sign op (types.Num width lo hi) t u h k = absurd (cc (k))
  numbers-given at sign op ty t u h k = absurd (cc (h))

  states-given : (at sign : Place) (op : Order) (ty ty' : Ty) (t u : ValueTree) → compares_kinds (ordering op) ty ty' ≡ true → is_numeric ty ≡ false → is_tree_of ty t ≡ true
      → gives fs (cond_in (comparison at sign op t u)) answer ≡ is_standing fs (cond_in (comparison at sign op t u)) answer
  states-given at sign equal types.Status ty' (state a) u h k l = refl
  states-given at sign differs types.Status ty' (state a) u h k l = refl
  states-given at sign less types.Status ty' t u h k l = absurd (cc (h))
  states-given at sign at_most types.Status ty' t u h k l = absurd (cc (h))
  states-given at sign at_least types.Status ty' t u h k l = absurd (cc (h))
  states-given at sign greater types.Status ty' t u h k l = absurd (cc (h))
  states-given at sign op types.Status ty' t u h k l = absurd (cc (l))
  states-given at sign op (types.Num width lo hi) ty' t u h k l = absurd (cc (k))
  states-given at sign equal ty ty' t u h k l = absurd (cc (h))
  states-given at sign differs ty ty' t u h k l = absurd (cc (h))
  states-given at sign op ty ty' t u h k l = absurd (cc (h))

  pub pair-given : (at : Place) (signs : List Place) (ty : Ty) (sort : OperatorKind) (es : List ExprId) (d : ExprId) → chain_fits nodes sort es ty ≡ true → is_joining sort ≡ false → is_logical ty ≡ true
      → is_numeric (type_of_node nodes (slice_index_or es 0 d).0) ≡ true → is_tree_of (type_of_node nodes (slice_index_or es 0 d).0) (tree_of nodes (slice_index_or es 0 d)) ≡ true
      → gives fs (cond_in (chain_of at signs ty sort (map (tree_of nodes) es))) answer ≡ gives_sides fs (single (node_number nodes (slice_index_or es 0 d))) (with_answer answer (order_in sort)) (single (node_number nodes (slice_index_or es 1 d)))
  pair-given at signs ty (ordering op) (e ∷ f ∷ []) d h k l m n = numbers-given at (first_sign at signs) op (type_of_node nodes e.0) (tree_of nodes e) (tree_of nodes f) m n
  pair-given at signs ty (arithmetic op) (e ∷ f ∷ es) d h k l m n = absurd (numeric-not-logical ty (both_of (is_numeric ty) _ h).0 l)
  pair-given at signs ty (joining both) es d h k l m n = absurd (cc (k))
  pair-given at signs ty sort es d h k l m n = absurd (cc (h))

  pub pair-stands : (at : Place) (signs : List Place) (ty : Ty) (sort : OperatorKind) (es : List ExprId) (d : ExprId) → chain_fits nodes sort es ty ≡ true → is_joining sort ≡ false → is_logical ty ≡ true
      → is_numeric (type_of_node nodes (slice_index_or es 0 d).0) ≡ false → is_tree_of (type_of_node nodes (slice_index_or es 0 d).0) (tree_of nodes (slice_index_or es 0 d)) ≡ true
      → gives fs (cond_in (chain_of at signs ty sort (map (tree_of nodes) es))) answer ≡ is_standing fs (cond_in (chain_of at signs ty sort (map (tree_of nodes) es))) answer
  pair-stands at signs ty (ordering op) (e ∷ f ∷ []) d h k l m n = states-given at (first_sign at signs) op (type_of_node nodes e.0) (type_of_node nodes f.0) (tree_of nodes e) (tree_of nodes f) (both_of (is_logical ty) _ h).1 m n
  pair-stands at signs ty (arithmetic op) (e ∷ f ∷ es) d h k l m n = absurd (numeric-not-logical ty (both_of (is_numeric ty) _ h).0 l)
  pair-stands at signs ty (joining both) es d h k l m n = absurd (cc (k))
  pair-stands at signs ty sort es d h k l m n = absurd (cc (h))

-- Each part's demands are met where those of all are.
pub part-fine : (fs : List Claim) (nodes : TypedNodes) (es : List ExprId) (i : ℕ) (d : ExprId) → conds_refusal fs nodes es ≡ None → i < length es → cond_refusal fs (node_cond nodes (slice_index_or es i d)) ≡ None
part-fine fs nodes [] i d h k = absurd (omega (arith, k))
part-fine fs nodes (e ∷ es) zero d h k = (neither (cond_refusal fs (node_cond nodes e)) (conds_refusal fs nodes es) h).0
  where
    neither : (p q : Option Refusal) → or_else p q ≡ None → (p ≡ None) × (q ≡ None)
    neither None q h = (refl, h)
    neither (Some r) q h = absurd (cc (h))
part-fine fs nodes (e ∷ es) (suc i) d h k = part-fine fs nodes es i d (rest (cond_refusal fs (node_cond nodes e)) (conds_refusal fs nodes es) h) (omega (arith, k))
  where
    rest : (p q : Option Refusal) → or_else p q ≡ None → q ≡ None
    rest None q h = h
    rest (Some r) q h = absurd (cc (h))

pub fine-parts : (p q : Option Refusal) → or_else p q ≡ None → (p ≡ None) × (q ≡ None)
fine-parts None q h = (refl, h)
fine-parts (Some r) q h = absurd (cc (h))
