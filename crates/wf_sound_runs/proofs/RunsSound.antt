-- A run whose steps are never stuck isn't stuck.
use Rattle.std.proofs.Common.{ℕ, zero, suc, ◌<◌, ◌≤◌, arith}
use Rattle.turns.specs.Run.{Next, Go, Turn, End, Out, Fail, Outcome, Got, More, Lost, on_next, steps, runs, run}
use Rattle.turns.specs.Steps.{Falls, FallsTo}

abbrev pub NextSound : {S A : Type 0} → (S → Type 0) → (A → Type 0) → Next S A → Type 0
NextSound I Q (Go t) = I t
NextSound I Q (Turn left t) = I t
NextSound I Q (End left a) = Q a
NextSound I Q Out = Unit {0}
NextSound I Q Fail = ⊥

abbrev pub Sound : {A : Type 0} → (A → Type 0) → Outcome A → Type 0
Sound Q (Got left a) = Q a
Sound Q More = Unit {0}
Sound Q Lost = ⊥

module _ {S A : Type 0} (step : ℕ → S → Next S A) (weight : S → ℕ) (falls : Falls step weight) (I : S → Type 0) (Q : A → Type 0) (sound : (n : ℕ) (s : S) → I s → NextSound I Q (step n s)) where
  next-sound : (next : Next S A) (n top : ℕ) (go : S → Outcome A) (again : ℕ → S → Outcome A) → FallsTo weight n top next → NextSound I Q next
      → ((t : S) → weight t < top → I t → Sound Q (go t)) → ((m : ℕ) (t : S) → m < n → I t → Sound Q (again m t)) → Sound Q (on_next next go again)
  next-sound (Go t) n top go again f h p q = p t f h
  next-sound (Turn left t) n top go again f h p q = q left t f h
  next-sound (End left a) n top go again f h p q = h
  next-sound Out n top go again f h p q = tt
  next-sound Fail n top go again f h p q = h

  steps-sound : (fuel n : ℕ) (s : S) (again : ℕ → S → Outcome A) → weight s < fuel → I s → ((m : ℕ) (t : S) → m < n → I t → Sound Q (again m t)) → Sound Q (steps step again fuel n s)
  steps-sound zero n s again w h q = absurd (omega (arith, w))
  steps-sound (suc fuel) n s again w h q = next-sound (step n s) n (weight s) (steps step again fuel n) again (falls.by n s) (sound n s h) (λ t l k. steps-sound fuel n t again (omega (arith, w, l)) k q) q

  runs-sound : (most n : ℕ) (s : S) → n ≤ most → I s → Sound Q (runs step weight most n s)
  unfolding runs
  runs-sound zero n s l h = steps-sound (suc (weight s)) n s _ (omega arith) h (λ m t k i. absurd (omega (arith, l, k)))
  runs-sound (suc most) n s l h = steps-sound (suc (weight s)) n s _ (omega arith) h (λ m t k i. runs-sound most m t (omega (arith, l, k)) i)

  pub run-sound : (n : ℕ) (s : S) → I s → Sound Q (run step weight n s)
  unfolding run
  run-sound n s h = runs-sound n n s (omega arith) h
