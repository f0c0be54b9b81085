-- What the ends of the blocks of an `if` have in common is true at each of them.
use Rattle.std.proofs.Common.{◌≡◌, ℕ, zero, suc, Bool, true, false, ◌&&◌, List, [], ◌∷◌, Some, None, refl, sym, subst}
use Rattle.std.specs.Prelude.{slice_get, if◌then◌else◌, filter}
use Rattle.std.specs.List.{list_all}
use Rattle.std.proofs.lemmas.Bool.{and_parts}
use Rattle.wf_ast.specs.Value.{State}
use Rattle.wf_ast.specs.WellTyped.{Context}
use Rattle.wf_facts_exprs.specs.Claims.{Claim, AllTrue, is_among}
use Rattle.wf_facts_exprs.specs.LawfulState.{well_claim, well_claims}
use Rattle.wf_facts.specs.Changes.{has_no_sum}
use Rattle.wf_facts.specs.FactLists.{common}
use Rattle.wf_facts.proofs.LawLemmas.{common-true}
use Rattle.wf_facts.proofs.CommonLaws.{common-second}
use Rattle.wf_bounds_stmts.specs.FactRules.{Known, in_all, merged}
use Rattle.wf_sound.specs.OneStep.{AreFactsOf, AreKnown}

module _ (c : Context) (s : State) where
  both : (p q : Bool) → p ≡ true → q ≡ true → (p && q) ≡ true
  both true q h k = k
  both false q h k = absurd (cc (h))

  kept-all : (test keep : Claim → Bool) (fs : List Claim) → list_all test fs ≡ true → list_all test (filter keep fs) ≡ true
  kept-all test keep [] h = refl
  kept-all test keep (f ∷ fs) h =
      let p = and_parts (test f) _ h in
      by (keep f) p.0 (kept-all test keep fs p.1)
    where
      by : (k : Bool) → test f ≡ true → list_all test (filter keep fs) ≡ true → list_all test (if k then f ∷ filter keep fs else filter keep fs) ≡ true
      by true i rest = both (test f) _ i rest
      by false i rest = rest

  pub kept-well : (keep : Claim → Bool) (fs : List Claim) → well_claims c fs ≡ true → well_claims c (filter keep fs) ≡ true
  kept-well keep [] h = refl
  kept-well keep (f ∷ fs) h =
      let p = and_parts (well_claim c f) _ h in
      by (keep f) p.0 (kept-well keep fs p.1)
    where
      by : (k : Bool) → well_claim c f ≡ true → well_claims c (filter keep fs) ≡ true → well_claims c (if k then f ∷ filter keep fs else filter keep fs) ≡ true
      by true i rest = both (well_claim c f) _ i rest
      by false i rest = rest

  common-facts : (fs gs : List Claim) → AreFactsOf c fs → AreFactsOf c (common fs gs)
  common-facts fs gs h = record { well = kept-well (λ f. is_among gs f) fs h.well; plain = kept-all has_no_sum (λ f. is_among gs f) fs h.plain }

  in_all-true : (fs : List Claim) (ends : List Known) → AllTrue s fs → AllTrue s (in_all fs ends)
  in_all-true fs [] h = h
  in_all-true fs (None ∷ ends) h = in_all-true fs ends h
  in_all-true fs (Some gs ∷ ends) h = in_all-true (common fs gs) ends (common-true s fs gs h)

  rest-known : (o : Known) (ends : List Known) → AreKnown c (o ∷ ends) → AreKnown c ends
  rest-known o ends h = record { each = λ i fs e. h.each (suc i) fs e }

  in_all-at : (fs : List Claim) (ends : List Known) (i : ℕ) (es : List Claim) → AreFactsOf c fs → AreKnown c ends → slice_get ends i ≡ Some (Some es) → AllTrue s es → AllTrue s (in_all fs ends)
  in_all-at fs [] i es f k e h = absurd (cc (e))
  in_all-at fs (None ∷ ends) zero es f k e h = absurd (cc (e))
  in_all-at fs (None ∷ ends) (suc i) es f k e h = in_all-at fs ends i es f (rest-known None ends k) e h
  in_all-at fs (Some gs ∷ ends) zero es f k e h =
      let same : gs ≡ es = cc (e) in
      let P : List Claim → Type 0 = λ es. AllTrue s es in
      let g : AreFactsOf c gs = k.each 0 gs refl in
      in_all-true (common fs gs) ends (common-second c s fs gs f.well g.well f.plain g.plain (subst P (sym same) h))
  in_all-at fs (Some gs ∷ ends) (suc i) es f k e h = in_all-at (common fs gs) ends i es (common-facts fs gs f) (rest-known (Some gs) ends k) e h

  pub merged-true : (ends : List Known) (i : ℕ) (es : List Claim) → AreKnown c ends → slice_get ends i ≡ Some (Some es) → AllTrue s es → (gs : List Claim) × (merged ends ≡ Some gs) × AllTrue s gs
  merged-true [] i es k e h = absurd (cc (e))
  merged-true (None ∷ ends) zero es k e h = absurd (cc (e))
  merged-true (None ∷ ends) (suc i) es k e h = merged-true ends i es (rest-known None ends k) e h
  merged-true (Some fs ∷ ends) zero es k e h =
      let same : fs ≡ es = cc (e) in
      let P : List Claim → Type 0 = λ es. AllTrue s es in
      (in_all fs ends, refl, in_all-true fs ends (subst P (sym same) h))
  merged-true (Some fs ∷ ends) (suc i) es k e h = (in_all fs ends, refl, in_all-at fs ends i es (k.each 0 fs refl) (rest-known (Some fs) ends k) e h)
