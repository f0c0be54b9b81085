-- What two lists have in common is true where the second is.
use Rattle.std.proofs.Common.{◌≡◌, Bool, true, false, ◌⊎◌, inl, inr, List, [], ◌∷◌, Some, refl, sym, ap, ◌∙◌}
use Rattle.std.specs.Prelude.{option_and_then, option_map}
use Rattle.std.specs.List.{list_all}
use Rattle.std.proofs.lemmas.Bool.{and_parts, or_cases, eqb-true}
use Rattle.wf_ast.specs.TypedTree.{NumTree, number, Order, less, at_most, equal, differs, at_least, greater}
use Rattle.wf_ast.specs.Value.{State, value, compares, same_truth}
use Rattle.wf_ast.specs.Same.{same_num, same_order}
use Rattle.wf_ast.specs.WellTyped.{Context}
use Rattle.wf_ast.proofs.SameValue.{number_same, cond_same}
use Rattle.wf_facts_exprs.specs.Claims.{single, Claim, compared, stands, same_claim, is_among, claim_truth, AllTrue}
use Rattle.wf_facts_exprs.specs.LawfulState.{well_side, well_claim, well_claims}
use Rattle.wf_facts.specs.FactLists.{common}
use Rattle.wf_facts.specs.Changes.{has_no_sum}

order_same : (o p : Order) → same_order o p ≡ true → o ≡ p
order_same less less h = refl
order_same at_most at_most h = refl
order_same equal equal h = refl
order_same differs differs h = refl
order_same at_least at_least h = refl
order_same greater greater h = refl
order_same o p h = absurd (cc (h))

truth_one : (a b : Bool) → same_truth a b ≡ true → a ≡ b
truth_one true b h = sym h
truth_one false true h = absurd (cc (h))
truth_one false false h = refl

module _ (c : Context) (s : State) where
  number_one : (t u : NumTree) → well_side c (single t) ≡ true → well_side c (single u) ≡ true → same_num t u ≡ true → value s t ≡ value s u
  number_one (number at m) (number at' n) h k e = ap (λ i. Some i) (eqb-true m n e)
  number_one (number at m) u h k e = absurd (cc (e))
  number_one t (number at n) h k e = absurd (cc (e))
  number_one t u h k e = number_same c s t u h k e

  claim_one : (f g : Claim) → well_claim c f ≡ true → well_claim c g ≡ true → has_no_sum f ≡ true → has_no_sum g ≡ true → same_claim f g ≡ true → claim_truth s f ≡ claim_truth s g
  claim_one (compared (single a) op (single b)) (compared (single a') op' (single b')) h k p q e =
      let i = and_parts (well_side c (single a)) _ h in
      let j = and_parts (well_side c (single a')) _ k in
      let x = and_parts (same_order op op') _ e in
      let y = and_parts (same_num a a') _ x.1 in
      let l = number_one a a' i.0 j.0 y.0 in
      let r = number_one b b' i.1 j.1 y.1 in
      let o = order_same op op' x.0 in
      λ n. option_and_then (λ m. option_map (compares (o n) m) (r n)) (l n)
  claim_one (compared (single a) op (single b)) g h k p q e = absurd (cc (q, e))
  claim_one (stands d answer) (stands d' answer') h k p q e =
      let x = and_parts (same_truth answer answer') _ e in
      let a = truth_one answer answer' x.0 in
      let v = cond_same c s d d' h k x.1 in
      λ n. option_map (same_truth (a n)) (v n)
  claim_one (stands d answer) g h k p q e = absurd (cc (e))
  claim_one f g h k p q e = absurd (cc (p))

  among-true : (gs : List Claim) (f : Claim) → well_claims c gs ≡ true → well_claim c f ≡ true → list_all has_no_sum gs ≡ true → has_no_sum f ≡ true → AllTrue s gs → is_among gs f ≡ true → claim_truth s f ≡ Some true
  among-true [] f h k p q all e = absurd (cc (e))
  among-true (g ∷ gs) f h k p q all e =
      by (or_cases (same_claim g f) _ e) (among-true gs f (and_parts (well_claim c g) _ h).1 k (and_parts (has_no_sum g) _ p).1 q all.1)
    where
      by : (same_claim g f ≡ true) ⊎ (is_among gs f ≡ true) → (is_among gs f ≡ true → claim_truth s f ≡ Some true) → claim_truth s f ≡ Some true
      by (inl here) later = sym (claim_one g f (and_parts (well_claim c g) _ h).0 k (and_parts (has_no_sum g) _ p).0 q here) ∙ all.0
      by (inr rest) later = later rest

  pub common-second : (fs others : List Claim) → well_claims c fs ≡ true → well_claims c others ≡ true → list_all has_no_sum fs ≡ true → list_all has_no_sum others ≡ true → AllTrue s others → AllTrue s (common fs others)
  common-second [] others h k p q all = tt
  common-second (f ∷ fs) others h k p q all =
      by (is_among others f) refl (common-second fs others (and_parts (well_claim c f) _ h).1 k (and_parts (has_no_sum f) _ p).1 q all)
    where
      by : (b : Bool) → is_among others f ≡ b → AllTrue s (common fs others) → AllTrue s (common (f ∷ fs) others)
      by true e rest = rw e (among-true others f k (and_parts (well_claim c f) _ h).0 q (and_parts (has_no_sum f) _ p).0 all e, rest)
      by false e rest = rw e rest
