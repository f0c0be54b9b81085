-- A run is its first step and the run from there.
use Rattle.std.proofs.Common.{◌≡◌, ℕ, zero, suc, ◌<◌, ◌≤◌, refl, ap, ◌∙◌, arith}
use Rattle.turns.specs.Run.{Next, Go, Turn, End, Out, Fail, Outcome, Got, More, Lost, on_next, steps, runs, run}
use Rattle.turns.specs.Steps.{FallsTo, Falls}

module _ {S A : Type 0} (step : ℕ → S → Next S A) (weight : S → ℕ) (falls : Falls step weight) where
  -- where the continuations agree on what may come, so do the runs
  same_next : (n : ℕ) (s : S) (next : Next S A) → FallsTo weight n (weight s) next → (go go' : S → Outcome A) (again again' : ℕ → S → Outcome A)
      → ((t : S) → weight t < weight s → go t ≡ go' t) → ((m : ℕ) (t : S) → m < n → again m t ≡ again' m t)
      → on_next next go again ≡ on_next next go' again'
  same_next n s (Go t) f go go' again again' p q = p t f
  same_next n s (Turn m t) f go go' again again' p q = q m t f
  same_next n s (End m a) f go go' again again' p q = refl
  same_next n s Out f go go' again again' p q = refl
  same_next n s Fail f go go' again again' p q = refl

  -- more fuel than the weight changes nothing
  same_steps : (fuel fuel' n : ℕ) (s : S) (again again' : ℕ → S → Outcome A) → weight s < fuel → weight s < fuel'
      → ((m : ℕ) (t : S) → m < n → again m t ≡ again' m t) → steps step again fuel n s ≡ steps step again' fuel' n s
  same_steps zero fuel' n s again again' h h' q = absurd (omega (arith, h))
  same_steps (suc fuel) zero n s again again' h h' q = absurd (omega (arith, h'))
  same_steps (suc fuel) (suc fuel') n s again again' h h' q =
      same_next n s (step n s) (falls.by n s) (steps step again fuel n) (steps step again' fuel' n) again again'
      (λ t below. same_steps fuel fuel' n t again again' (omega (arith, h, below)) (omega (arith, h', below)) q) q

  -- more turns than there are change nothing
  same_runs : (most most' n : ℕ) (s : S) → n ≤ most → n ≤ most' → runs step weight most n s ≡ runs step weight most' n s
  unfolding runs
  same_runs zero zero n s h h' = refl
  same_runs zero (suc most') n s h h' =
      same_steps (suc (weight s)) (suc (weight s)) n s _ _ (omega arith) (omega arith) (λ m t below. absurd (omega (arith, h, below)))
  same_runs (suc most) zero n s h h' =
      same_steps (suc (weight s)) (suc (weight s)) n s _ _ (omega arith) (omega arith) (λ m t below. absurd (omega (arith, h', below)))
  same_runs (suc most) (suc most') n s h h' =
      same_steps (suc (weight s)) (suc (weight s)) n s _ _ (omega arith) (omega arith)
      (λ m t below. same_runs most most' m t (omega (arith, h, below)) (omega (arith, h', below)))

  pub unfolds : (n : ℕ) (s : S) → run step weight n s ≡ on_next (step n s) (run step weight n) (run step weight)
  unfolding run runs
  unfolds zero s =
      same_next zero s (step zero s) (falls.by zero s) _ _ _ _
      (λ t below. same_steps (weight s) (suc (weight t)) zero t _ _ below (omega arith) (λ m u under. absurd (omega (arith, under))))
      (λ m t below. absurd (omega (arith, below)))
  unfolds (suc n) s =
      same_next (suc n) s (step (suc n) s) (falls.by (suc n) s) _ _ _ _
      (λ t below. same_steps (weight s) (suc (weight t)) (suc n) t _ _ below (omega arith) (λ m u under. refl))
      (λ m t below. same_runs n m m t (omega (arith, below)) (omega arith))

  -- what the first step comes to
  pub goes : {n : ℕ} {s t : S} → step n s ≡ Go t → run step weight n s ≡ run step weight n t
  goes {n} {s} e = unfolds n s ∙ ap (λ next. on_next next (run step weight n) (run step weight)) e

  pub ends : {n m : ℕ} {s : S} {a : A} → step n s ≡ End m a → run step weight n s ≡ Got m a
  ends {n} {m} {s} e = unfolds n s ∙ ap (λ next. on_next next (run step weight n) (run step weight)) e

  pub outs : {n : ℕ} {s : S} → step n s ≡ Out → run step weight n s ≡ More
  outs {n} {s} e = unfolds n s ∙ ap (λ next. on_next next (run step weight n) (run step weight)) e

  pub fails : {n : ℕ} {s : S} → step n s ≡ Fail → run step weight n s ≡ Lost
  fails {n} {s} e = unfolds n s ∙ ap (λ next. on_next next (run step weight n) (run step weight)) e
