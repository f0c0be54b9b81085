-- The law of an engine: what its calls reply and leave are functions of its state and of what they are given.
use Rattle.std.specs.Prelude.{ℕ, ◌≡◌, ◌<◌, ◌^◌, ⊤, Bool, true, false, List, map, length, IsSomeAnd}
use Rattle.wf_text.specs.Surface.{Surface, AnswerKind, status as a_status, numeric, truth, nothing}
use Rattle.wf_text.specs.HostActions.{Receiver}
use Rattle.wf_base.specs.BaseOps.{capacity}
use Rattle.wf_base.specs.HostRun.{Host, HostCall, Response, answers, needs_more, not_defined, Steps}
use Rattle.wf_base.specs.LawfulActions.{called_method}
use Rattle.wf_bufs.specs.declared.outcomes.Outcome.{Outcome}
use Rattle.wf_bufs.specs.declared.outcomes.Outcome.TheVariants.{Status, Num, Flag, Nothing}
use Rattle.wf_bufs.specs.declared.outcomes.Reply.{Reply}
use Rattle.wf_bufs.specs.declared.outcomes.Reply.TheVariants.{Done, Turns, Undefined}
use Rattle.wf_bufs.specs.HostViews.{answer_of}

-- How an init or a call ends: with an outcome, and what then stands; or with neither.
pub data Gives (After : Type 0) : Type 0 where
  done : Outcome → After → Gives After
  turns : Gives After
  undefined : Gives After

-- The reply is the one that is given, and after an outcome so is what stands. Where there is no outcome, nothing is
-- said of what stands.
abbrev pub Replies : {After : Type 0} → Gives After → Reply → After → Type 0
Replies gives (Done outcome) after = gives ≡ done outcome after
Replies gives Turns after = gives ≡ turns
Replies gives Undefined after = gives ≡ undefined

-- An engine has stopped after a reply without an outcome.
abbrev pub stops : Reply → Bool
stops (Done _) = false
stops Turns = true
stops Undefined = true

-- The outcome is of this kind; a status is one that the surface has.
abbrev pub FitsAnswer : Surface → AnswerKind → Outcome → Type 0
FitsAnswer surface a_status (Status id) = id.0 < length surface.statuses
FitsAnswer surface (numeric bits) (Num n) = n < 2 ^ bits
FitsAnswer surface truth (Flag _) = ⊤
FitsAnswer surface nothing Nothing = ⊤
FitsAnswer surface kind outcome = ⊥

abbrev pub DoneFits : Surface → AnswerKind → Reply → Type 0
DoneFits surface kind (Done outcome) = FitsAnswer surface kind outcome
DoneFits surface kind Turns = ⊤
DoneFits surface kind Undefined = ⊤

-- The outcome is of the kind that the called method answers.
abbrev pub FitsCalled : Surface → List Receiver → HostCall → Reply → Type 0
FitsCalled surface receivers call reply = IsSomeAnd (called_method surface receivers call) (λ method. DoneFits surface method.answers reply)

-- There are as many buffers and byte arrays as there were, and each is as large as it was.
abbrev pub SameSizes : Host → Host → Type 0
SameSizes old new = (map capacity new.buffers ≡ map capacity old.buffers) × (map (λ array. length array) new.arrays ≡ map (λ array. length array) old.arrays)

abbrev pub KeepsSizes : Reply → Host → Host → Type 0
KeepsSizes (Done _) old new = SameSizes old new
KeepsSizes Turns old new = ⊤
KeepsSizes Undefined old new = ⊤

-- What is seen of a given end.
abbrev pub response_of : {After : Type 0} → Surface → Gives After → Response After
response_of surface (done outcome after) = answers (answer_of surface outcome) after
response_of surface turns = needs_more
response_of surface undefined = not_defined

-- An engine's functions as what answers inits and calls.
abbrev pub steps_of : {State : Type 0} → (State → Surface) → (State → (receiver turns : ℕ) → Gives State) → (State → HostCall → Host → (turns : ℕ) → Gives (State × Host)) → Steps State
steps_of surface init_gives call_gives = record { init = λ state receiver within. response_of (surface state) (init_gives state receiver within); call = λ state called host within. response_of (surface state) (call_gives state called host within) }
