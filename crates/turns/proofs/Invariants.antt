-- What each step keeps, a run keeps.
use Rattle.std.proofs.Common.{ℕ, zero, suc}
use Rattle.turns.specs.Run.{Next, Go, Turn, End, Out, Fail, Outcome, on_next, steps, runs, run}
use Rattle.turns.specs.Steps.{NextKeeps, AnswersWith}

module _ {S A : Type 0} (step : ℕ → S → Next S A) (weight : S → ℕ) (I : S → Type 0) (Q : A → Type 0) (keeps : (n : ℕ) (s : S) → I s → NextKeeps I Q (step n s)) where
  next_keeps : (next : Next S A) (go : S → Outcome A) (again : ℕ → S → Outcome A) → NextKeeps I Q next
      → ((t : S) → I t → AnswersWith Q (go t)) → ((n : ℕ) (t : S) → I t → AnswersWith Q (again n t)) → AnswersWith Q (on_next next go again)
  next_keeps (Go t) go again h p q = p t h
  next_keeps (Turn left t) go again h p q = q left t h
  next_keeps (End left a) go again h p q = h
  next_keeps Out go again h p q = tt
  next_keeps Fail go again h p q = tt

  steps_keep : (fuel n : ℕ) (s : S) (again : ℕ → S → Outcome A) → I s → ((m : ℕ) (t : S) → I t → AnswersWith Q (again m t)) → AnswersWith Q (steps step again fuel n s)
  steps_keep zero n s again h q = tt
  steps_keep (suc fuel) n s again h q = next_keeps (step n s) (steps step again fuel n) again (keeps n s h) (λ t k. steps_keep fuel n t again k q) q

  runs_keep : (most n : ℕ) (s : S) → I s → AnswersWith Q (runs step weight most n s)
  unfolding runs
  runs_keep zero n s h = steps_keep (suc (weight s)) n s _ h (λ m t k. tt)
  runs_keep (suc most) n s h = steps_keep (suc (weight s)) n s _ h (λ m t k. runs_keep most m t k)

  pub run_keeps : (n : ℕ) (s : S) → I s → AnswersWith Q (run step weight n s)
  unfolding run
  run_keeps n s h = runs_keep n n s h
