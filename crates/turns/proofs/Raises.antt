-- A run with more turns.
use Rattle.std.proofs.Common.{◌≡◌, ℕ, zero, suc, ◌+◌, ◌<◌, ◌≤◌, refl, sym, subst, arith}
use Rattle.turns.specs.Run.{Next, Go, Turn, End, Out, Fail, Outcome, Got, More, Lost, on_next, run}
use Rattle.turns.specs.Steps.{FallsTo, Falls, LeavesFewer, IsRaised, IsRaisedTo, Counts}
use Rattle.turns.proofs.Unfolds.{unfolds}

module _ {S A : Type 0} (step : ℕ → S → Next S A) (weight : S → ℕ) (falls : Falls step weight) where
  fewer_next : (n : ℕ) (s : S) (next : Next S A) → FallsTo weight n (weight s) next
      → ((t : S) → weight t < weight s → LeavesFewer n (run step weight n t))
      → ((m : ℕ) (t : S) → m < n → LeavesFewer m (run step weight m t))
      → LeavesFewer n (on_next next (run step weight n) (run step weight))
  fewer_next n s (Go t) f p q = p t f
  fewer_next n s (Turn m t) f p q = less (run step weight m t) (q m t f)
    where
      less : (o : Outcome A) → LeavesFewer m o → LeavesFewer n o
      less (Got left a) h = omega (arith, h, f)
      less More h = tt
      less Lost h = tt
  fewer_next n s (End m a) f p q = f
  fewer_next n s Out f p q = tt
  fewer_next n s Fail f p q = tt

  fewer_by : (n fuel : ℕ) (s : S) → weight s < fuel → ((m : ℕ) (t : S) → m < n → LeavesFewer m (run step weight m t)) → LeavesFewer n (run step weight n s)
  fewer_by n zero s h q = absurd (omega (arith, h))
  fewer_by n (suc fuel) s h q =
      subst (LeavesFewer n) (sym (unfolds step weight falls n s))
      (fewer_next n s (step n s) (falls.by n s) (λ t below. fewer_by n fuel t (omega (arith, h, below)) q) q)

  pub fewer_up_to : (most n : ℕ) (s : S) → n < most → LeavesFewer n (run step weight n s)
  fewer_up_to zero n s h = absurd (omega (arith, h))
  fewer_up_to (suc most) n s h = fewer_by n (suc (weight s)) s (omega arith) (λ m t below. fewer_up_to most m t (omega (arith, h, below)))

  pub fewer : (n : ℕ) (s : S) → LeavesFewer n (run step weight n s)
  fewer n s = fewer_up_to (suc n) n s (omega arith)

  pub leaves_fewer : (n left : ℕ) (s : S) (a : A) → run step weight n s ≡ Got left a → left ≤ n
  leaves_fewer n left s a e = let P : Outcome A → Type 0 = LeavesFewer n in subst P e (fewer_up_to (suc n) n s (omega arith))

  module _ (counts : Counts step) (more : ℕ) where
    raised_next : (n : ℕ) (s : S) (next next' : Next S A) → FallsTo weight n (weight s) next → IsRaised more next next'
        → ((t : S) → weight t < weight s → IsRaisedTo more (run step weight n t) (run step weight (n + more) t))
        → ((m : ℕ) (t : S) → m < n → IsRaisedTo more (run step weight m t) (run step weight (m + more) t))
        → IsRaisedTo more (on_next next (run step weight n) (run step weight)) (on_next next' (run step weight (n + more)) (run step weight))
    raised_next n s (Go t) next' f e p q = rw e (p t f)
    raised_next n s (Turn m t) next' f e p q = rw e (q m t f)
    raised_next n s (End m a) next' f e p q = rw e refl
    raised_next n s Out next' f e p q = tt
    raised_next n s Fail next' f e p q = rw e refl

    raised_by : (n fuel : ℕ) (s : S) → weight s < fuel
        → ((m : ℕ) (t : S) → m < n → IsRaisedTo more (run step weight m t) (run step weight (m + more) t))
        → IsRaisedTo more (run step weight n s) (run step weight (n + more) s)
    raised_by n zero s h q = absurd (omega (arith, h))
    raised_by n (suc fuel) s h q =
        rw (unfolds step weight falls n s, unfolds step weight falls (n + more) s)
        (raised_next n s (step n s) (step (n + more) s) (falls.by n s) (counts.by n more s)
        (λ t below. raised_by n fuel t (omega (arith, h, below)) q) q)

    raised_up_to : (most n : ℕ) (s : S) → n < most → IsRaisedTo more (run step weight n s) (run step weight (n + more) s)
    raised_up_to zero n s h = absurd (omega (arith, h))
    raised_up_to (suc most) n s h = raised_by n (suc (weight s)) s (omega arith) (λ m t below. raised_up_to most m t (omega (arith, h, below)))

    pub raised : (n : ℕ) (s : S) → IsRaisedTo more (run step weight n s) (run step weight (n + more) s)
    raised n s = raised_up_to (suc n) n s (omega arith)

    pub same_answer : (n left : ℕ) (s : S) (a : A) → run step weight n s ≡ Got left a → run step weight (n + more) s ≡ Got (left + more) a
    same_answer n left s a e = let P : Outcome A → Type 0 = λ o. IsRaisedTo more o (run step weight (n + more) s) in subst P e (raised n s)

    pub same_fault : (n : ℕ) (s : S) → run step weight n s ≡ Lost → run step weight (n + more) s ≡ Lost
    same_fault n s e = let P : Outcome A → Type 0 = λ o. IsRaisedTo more o (run step weight (n + more) s) in subst P e (raised n s)

    pub same_want : (n : ℕ) (s : S) → run step weight (n + more) s ≡ More → run step weight n s ≡ More
    same_want n s e = by_cases (run step weight n s) (raised n s)
      where
        by_cases : (o : Outcome A) → IsRaisedTo more o (run step weight (n + more) s) → o ≡ More
        by_cases (Got left a) h = absurd (cc (h, e))
        by_cases More h = refl
        by_cases Lost h = absurd (cc (h, e))
