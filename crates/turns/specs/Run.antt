-- A run within a number of turns. `S` is what a machine's state is, `A` what its answer is. A step is told how
-- many turns are left, so that it may hold a whole run of a machine inside.
use Rattle.std.specs.Prelude.{ℕ, zero, suc, nat_lt, if◌then◌else◌}

-- What a step comes to: a next state; a next state after a turn, with the turns left; an answer, with the
-- turns left; that a turn is needed and none is left; or nothing that is stated.
pub data Next (S A : Type 0) : Type 0 where
  Go : S → Next S A
  Turn : (left : ℕ) → S → Next S A
  End : (left : ℕ) → A → Next S A
  Out : Next S A
  Fail : Next S A

-- What a run comes to: an answer, with the turns left; more turns are needed; or a step that isn't stated.
pub data Outcome (A : Type 0) : Type 0 where
  Got : (left : ℕ) → A → Outcome A
  More : Outcome A
  Lost : Outcome A

-- What a run comes to by what its first step comes to: `go` is the run with the same turns, `again` with fewer.
abbrev pub on_next : {S A : Type 0} → Next S A → (S → Outcome A) → (ℕ → S → Outcome A) → Outcome A
on_next (Go s) go again = go s
on_next (Turn left s) go again = again left s
on_next (End left a) go again = Got left a
on_next Out go again = More
on_next Fail go again = Lost

-- A next state with so many turns left: it stands after a turn where they are fewer than there were.
unfoldable pub onward : {S A : Type 0} → (there_were left : ℕ) → S → Next S A
onward there_were left s = if nat_lt left there_were then Turn left s else Go s

-- What a step comes to that holds a whole run of a machine inside: the run's answer leads on.
unfoldable pub holding : {S A B : Type 0} → Outcome B → (ℕ → B → Next S A) → Next S A
holding (Got left b) on = on left b
holding More on = Out
holding Lost on = Fail

-- At most `fuel` steps up to the next turn, after which `again` goes on.
abbrev pub steps : {S A : Type 0} → (ℕ → S → Next S A) → (ℕ → S → Outcome A) → (fuel : ℕ) → ℕ → S → Outcome A
steps step again zero n s = Lost
steps step again (suc fuel) n s = on_next (step n s) (steps step again fuel n) again

-- At most `most` turns, with no more steps between two of them than the state's weight.
unfoldable pub runs : {S A : Type 0} → (ℕ → S → Next S A) → (S → ℕ) → (most : ℕ) → ℕ → S → Outcome A
runs step weight zero n s = steps step (λ _ _. Lost) (suc (weight s)) n s
runs step weight (suc most) n s = steps step (runs step weight most) (suc (weight s)) n s

-- The run from `s` within `n` turns.
unfoldable pub run : {S A : Type 0} → (ℕ → S → Next S A) → (S → ℕ) → ℕ → S → Outcome A
run step weight n s = runs step weight n n s
