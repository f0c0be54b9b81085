-- What is asked of a step function so that its runs are well defined.
use Rattle.std.specs.Prelude.{◌≡◌, ℕ, ◌+◌, ◌<◌, ◌≤◌}
use Rattle.turns.specs.Run.{Next, Go, Turn, End, Out, Fail, Outcome, Got, More, Lost}

-- A step to a next state leads below a weight, and a turn below a number of turns.
abbrev pub FallsTo : {S A : Type 0} → (S → ℕ) → (n top : ℕ) → Next S A → Type 0
FallsTo weight n top (Go t) = weight t < top
FallsTo weight n top (Turn left t) = left < n
FallsTo weight n top (End left a) = left ≤ n
FallsTo weight n top Out = Unit {0}
FallsTo weight n top Fail = Unit {0}

-- Each step lowers the weight or the number of turns.
pub record Falls {S A : Type 0} (step : ℕ → S → Next S A) (weight : S → ℕ) : Type 0 where
  pub by : (n : ℕ) (s : S) → FallsTo weight n (weight s) (step n s)

-- No more turns are left of a run than it was given.
abbrev pub LeavesFewer : {A : Type 0} → ℕ → Outcome A → Type 0
LeavesFewer n (Got left a) = left ≤ n
LeavesFewer n More = Unit {0}
LeavesFewer n Lost = Unit {0}

-- The second is what the first is with so many more turns. Where a turn was lacking nothing is asked.
abbrev pub IsRaised : {S A : Type 0} → ℕ → Next S A → Next S A → Type 0
IsRaised more (Go t) next = next ≡ Go t
IsRaised more (Turn left t) next = next ≡ Turn (left + more) t
IsRaised more (End left a) next = next ≡ End (left + more) a
IsRaised more Out next = Unit {0}
IsRaised more Fail next = next ≡ Fail

-- A step only counts the turns: with more of them it does the same, and leaves as many more.
pub record Counts {S A : Type 0} (step : ℕ → S → Next S A) : Type 0 where
  pub by : (n more : ℕ) (s : S) → IsRaised more (step n s) (step (n + more) s)

-- The same of outcomes.
abbrev pub IsRaisedTo : {A : Type 0} → ℕ → Outcome A → Outcome A → Type 0
IsRaisedTo more (Got left a) o = o ≡ Got (left + more) a
IsRaisedTo more More o = Unit {0}
IsRaisedTo more Lost o = o ≡ Lost

-- What a step comes to keeps a property of states, and answers with another one.
abbrev pub NextKeeps : {S A : Type 0} → (S → Type 0) → (A → Type 0) → Next S A → Type 0
NextKeeps I Q (Go t) = I t
NextKeeps I Q (Turn left t) = I t
NextKeeps I Q (End left a) = Q a
NextKeeps I Q Out = Unit {0}
NextKeeps I Q Fail = Unit {0}

abbrev pub AnswersWith : {A : Type 0} → (A → Type 0) → Outcome A → Type 0
AnswersWith Q (Got left a) = Q a
AnswersWith Q More = Unit {0}
AnswersWith Q Lost = Unit {0}
