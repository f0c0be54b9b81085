-- Assertions: axioms by their texts, what is given for letters, and premises.
use Rattle.std.proofs.Common.{◌≡◌, ℕ, zero, suc, ◌+◌, ◌<◌, ◌≤◌, Bool, true, false, List, [], ◌∷◌, length, take, drop, map, Option, Some, None, Err, refl, sym, ap, ◌∙◌, IfSome, IfNone, arith}
use Rattle.std.specs.Prelude.{◌≢◌, if◌then◌else◌, slice_index_or, bytes_eq, All}
use Rattle.std.specs.List.{find}
use Rattle.std.specs.Cmp.Lexicographic.{same_text}
use Rattle.std.proofs.lemmas.List.Elements.{All-nil, All-cons, All-head, All-tail}
use Rattle.wf_text.specs.declared.place.Place.{Place}
use Rattle.wf_text.specs.declared.rules.Rule.TheVariants.{B7}
use Rattle.wf_text.specs.declared.rules.Refusal.{Refusal}
use Rattle.wf_ast.specs.declared.numbers.ExprId.{ExprId}
use Rattle.wf_ast.specs.declared.numbers.TextId.{TextId}
use Rattle.wf_ast.specs.declared.typed_nodes.TypedNodes.{TypedNodes}
use Rattle.wf_ast.specs.TypedTrees.{num_in, tree_of}
use Rattle.wf_ast.specs.NodeKinds.{node_number}
use Rattle.wf_facts_exprs.specs.declared.facts.Cmp.{Cmp}
use Rattle.wf_facts_exprs.specs.declared.facts.Side.{Side}
use Rattle.wf_facts_exprs.specs.Claims.{Claim}
use Rattle.wf_facts_exprs.specs.Demands.{demand, num_refusal, or_else, unless_refused}
use Rattle.wf_axioms.specs.declared.axioms.Axiom.{Axiom}
use Rattle.wf_axioms.specs.declared.axioms.Axiom.TheVariants.{LtByGt, LtByLtLt, LtByLtEq, LtByEqLt, LtByLtLe, LtByLeLt, GtByLt, LeByGe, LeByLeLe, LeByLeEq, LeByEqLe, GeByLe, LtSum, LtSums, LeSum, LeByLt, EqByLeLe, SumsByLeLe}
use Rattle.wf_axioms.specs.Axioms.{axiom_text}
use Rattle.wf_axioms.specs.Items.{claim_of_item}
use Rattle.wf_axioms.specs.Matching.{given_trees}
use Rattle.wf_bounds_stmts.specs.Assertions.{axiom_named, axioms, claim_given, given_refusal, inside_text, premises_refusal}

-- The axiom of a text.
named-back : (a : Axiom) → axiom_named (axiom_text a) ≡ Some a
named-back LtByGt = refl
named-back LtByLtLt = refl
named-back LtByLtEq = refl
named-back LtByEqLt = refl
named-back LtByLtLe = refl
named-back LtByLeLt = refl
named-back GtByLt = refl
named-back LeByGe = refl
named-back LeByLeLe = refl
named-back LeByLeEq = refl
named-back LeByEqLe = refl
named-back GeByLe = refl
named-back LtSum = refl
named-back LtSums = refl
named-back LeSum = refl
named-back LeByLt = refl
named-back EqByLeLe = refl
named-back SumsByLeLe = refl

none-named : (text : List ℕ) (xs : List Axiom) → ((a : Axiom) → text ≢ axiom_text a) → find (λ a. bytes_eq (axiom_text a) text) xs ≡ None
none-named text [] h = refl
none-named text (x ∷ xs) h = by (none-named text xs h) (bytes_eq (axiom_text x) text) refl
  where
    by : find (λ a. bytes_eq (axiom_text a) text) xs ≡ None → (b : Bool) → bytes_eq (axiom_text x) text ≡ b → (if b then Some x else find (λ a. bytes_eq (axiom_text a) text) xs) ≡ None
    by later true e = absurd (h x (sym (same_text (axiom_text x) text (sym e))))
    by later false e = later

pub named-is : (text : List ℕ) (r : Option Axiom) → IfSome r (λ a. text ≡ axiom_text a) → IfNone r ((a : Axiom) → text ≢ axiom_text a) → axiom_named text ≡ r
named-is text (Some a) h k = ap axiom_named h ∙ named-back a
named-is text None h k = none-named text axioms k

-- Requirements in order: one that is met, and one that isn't.
pub goes-on : (here rest from whole : Option Refusal) → here ≡ None → from ≡ or_else here rest → from ≡ whole → rest ≡ whole
goes-on here rest from whole h k l = ap (λ p. or_else p rest) (sym h) ∙ sym k ∙ l

pub stops : (here rest from whole : Option Refusal) (found : Refusal) → here ≡ Some found → from ≡ or_else here rest → from ≡ whole → Err found ≡ unless_refused {X = Unit {0}} whole (tt {0})
stops here rest from whole found h k l = ap (λ p. unless_refused p (tt {0})) (ap (λ p. or_else p rest) (sym h) ∙ sym k ∙ l)

pub both-fine : (p q : Option Refusal) → or_else p q ≡ None → (p ≡ None) × (q ≡ None)
both-fine None q h = (refl, h)
both-fine (Some r) q h = absurd (cc (h))

-- What holds of each of the first items holds of one of them.
pub holds-of : {X : Type 0} (P : X → Type 0) (xs : List X) (count i : ℕ) (d : X) → i < count → i < length xs → All P (take count xs) → P (slice_index_or xs i d)
holds-of P [] count i d h k all = absurd (omega (arith, k))
holds-of P (x ∷ xs) zero i d h k all = absurd (omega (arith, h))
holds-of P (x ∷ xs) (suc n) zero d h k all = All-head P x (take n xs) all
holds-of P (x ∷ xs) (suc n) (suc i) d h k all = holds-of P xs n i d (omega (arith, h)) (omega (arith, k)) (All-tail P x (take n xs) all)

module _ (nodes : TypedNodes) (fs : List Claim) where
  -- What is given for letters, one by one.
  given-suc : (gs : List (TextId × ExprId)) (i : ℕ) (d : TextId × ExprId) → i < length gs
      → given_refusal fs (given_trees nodes (drop i gs)) ≡ or_else (num_refusal fs false (node_number nodes (slice_index_or gs i d).1)) (given_refusal fs (given_trees nodes (drop (suc i) gs)))
  given-suc [] i d h = absurd (omega (arith, h))
  given-suc (g ∷ gs) zero d h = refl
  given-suc (g ∷ gs) (suc i) d h = given-suc gs i d (omega (arith, h))

  pub given-next : (gs : List (TextId × ExprId)) (i : ℕ) (d : TextId × ExprId) → i < length gs
      → given_refusal fs (given_trees nodes (drop i gs)) ≡ or_else (num_refusal fs false (node_number nodes (slice_index_or gs i d).1)) (given_refusal fs (given_trees nodes (drop (i + 1) gs)))
  given-next gs i d h =
      let e : suc i ≡ i + 1 = omega arith in
      given-suc gs i d h ∙ ap (λ k. or_else (num_refusal fs false (node_number nodes (slice_index_or gs i d).1)) (given_refusal fs (given_trees nodes (drop k gs)))) e

  pub given-all : (gs : List (TextId × ExprId)) → given_refusal fs (given_trees nodes gs) ≡ None → All (λ g. num_refusal fs false (num_in (tree_of nodes g.1)) ≡ None) gs
  given-all [] h = All-nil (λ (g : TextId × ExprId). num_refusal fs false (num_in (tree_of nodes g.1)) ≡ None)
  given-all (g ∷ gs) h =
      let both = both-fine (num_refusal fs false (num_in (tree_of nodes g.1))) (given_refusal fs (given_trees nodes gs)) h in
      All-cons (λ (g : TextId × ExprId). num_refusal fs false (num_in (tree_of nodes g.1)) ≡ None) g gs both.0 (given-all gs both.1)

  -- The premises, one by one, each with the place where it begins.
  module _ (text : Place) where
    abbrev pub premises-from : (offsets : List ℕ) (items : List (Side × Cmp × Side)) (count i : ℕ) → Option Refusal
    premises-from offsets items count i = premises_refusal fs (map (inside_text text) (drop i (take count offsets))) (map (claim_of_item nodes) (drop i (take count items)))

    premises-suc : (offsets : List ℕ) (items : List (Side × Cmp × Side)) (count i d : ℕ) (e : Side × Cmp × Side) → i < count → count ≤ length offsets → count ≤ length items
        → premises-from offsets items count i ≡ or_else (demand (claim_given fs (claim_of_item nodes (slice_index_or items i e))) B7 (inside_text text (slice_index_or offsets i d))) (premises-from offsets items count (suc i))
    premises-suc [] items count i d e h k l = absurd (omega (arith, h, k))
    premises-suc (o ∷ os) [] count i d e h k l = absurd (omega (arith, h, l))
    premises-suc (o ∷ os) (t ∷ ts) zero i d e h k l = absurd (omega (arith, h))
    premises-suc (o ∷ os) (t ∷ ts) (suc n) zero d e h k l = refl
    premises-suc (o ∷ os) (t ∷ ts) (suc n) (suc i) d e h k l = premises-suc os ts n i d e (omega (arith, h)) (omega (arith, k)) (omega (arith, l))

    pub premises-next : (offsets : List ℕ) (items : List (Side × Cmp × Side)) (count i d : ℕ) (e : Side × Cmp × Side) → i < count → count ≤ length offsets → count ≤ length items
        → premises-from offsets items count i ≡ or_else (demand (claim_given fs (claim_of_item nodes (slice_index_or items i e))) B7 (inside_text text (slice_index_or offsets i d))) (premises-from offsets items count (i + 1))
    premises-next offsets items count i d e h k l =
        let same : suc i ≡ i + 1 = omega arith in
        premises-suc offsets items count i d e h k l
        ∙ ap (λ n. or_else (demand (claim_given fs (claim_of_item nodes (slice_index_or items i e))) B7 (inside_text text (slice_index_or offsets i d))) (premises-from offsets items count n)) same

    nothing-left : (places : List Place) → premises_refusal fs places [] ≡ None
    nothing-left [] = refl
    nothing-left (at ∷ places) = refl

    pub premises-done : (offsets : List ℕ) (items : List (Side × Cmp × Side)) (count i : ℕ) → count ≤ i → premises-from offsets items count i ≡ None
    premises-done offsets items zero zero h = refl
    premises-done offsets items zero (suc i) h = refl
    premises-done offsets items (suc n) zero h = absurd (omega (arith, h))
    premises-done [] items (suc n) (suc i) h = refl
    premises-done (o ∷ os) [] (suc n) (suc i) h = nothing-left (map (inside_text text) (drop i (take n os)))
    premises-done (o ∷ os) (t ∷ ts) (suc n) (suc i) h = premises-done os ts n i (omega (arith, h))
