-- That answers are of the kinds that methods declare.
use Rattle.std.specs.Prelude.{◌≡◌, ℕ, ◌<◌, ◌^◌, ⊤, List, ◌++◌, [], ◌∷◌, length, Option, None, Some, slice_get}
use Rattle.turns.specs.Run.{Got}
use Rattle.wf_text.specs.declared.place.Place.{Place}
use Rattle.wf_text.specs.Surface.{AnswerKind, status, numeric, truth, nothing}
use Rattle.wf_text.specs.HostActions.{Receiver, HostAction, call}
use Rattle.wf_base.specs.BaseOps.{Buffer}
use Rattle.wf_base.specs.HostRun.{Host, HostCall, Response, answers, needs_more, not_defined, Steps, act, empty_host}
use Rattle.wf_base.specs.LawfulActions.{AreDeclared, AreLawful}
use Rattle.wf_ast.specs.TypedPackage.{MethodTree, PackageTree, surface_of}
use Rattle.wf_ast.specs.Value.{Value, num, truth_value, status_number}
use Rattle.wf_bufs.specs.declared.outcomes.Outcome.{Outcome}
use Rattle.wf_meaning.specs.SourceState.{Object, SourceState, fresh_state}
use Rattle.wf_meaning.specs.Entry.{Answered, refusal_of, returned, suspended}
use Rattle.wf_meaning.specs.World.{World}
use Rattle.wf_meaning.specs.SourceCall.{entry_of, host_values, source_steps}
use Rattle.wf_mean.specs.SourceEngines.{kind_told, outcome_of}
use Rattle.wf_sound_runs.specs.Accepted.{IsAccepted}

-- A value is of a kind: a status of the package, a number of so many bits, a truth value, or none.
abbrev pub IsOfKind : PackageTree → AnswerKind → Option Value → Type 0
IsOfKind p status (Some (status_number n)) = n < length p.statuses
IsOfKind p (numeric bits) (Some (num n)) = n < 2 ^ bits
IsOfKind p truth (Some (truth_value b)) = ⊤
IsOfKind p nothing None = ⊤
IsOfKind p kind v = ⊥

-- So is an answer. A coroutine that suspends answers a status.
abbrev pub AnswersKind : PackageTree → AnswerKind → Answered → Type 0
AnswersKind p kind (returned v) = IsOfKind p kind v
AnswersKind p kind (suspended n) = IsOfKind p kind (Some (status_number n))

-- An answer is of the kind that its method declares, so that it is an outcome.
pub record IsOutcome (p : PackageTree) (m : MethodTree) (answered : Answered) : Type 0 where
  pub kind : AnswersKind p (kind_told m) answered
  pub outcome : Outcome
  pub is : outcome_of p (kind_told m) answered ≡ Some outcome

-- What stands after a response, where there is an answer.
abbrev pub after_answer : {State : Type 0} → Response (State × Host) → (State → Host → Option (State × Host)) → Option (State × Host)
after_answer (answers answer left) rest = rest left.0 left.1
after_answer needs_more rest = None
after_answer not_defined rest = None

-- What stands after actions, where each of them answers.
abbrev pub stands_after : {State : Type 0} → Steps State → State → Host → List (HostAction Buffer) → Option (State × Host)
stands_after steps state host [] = Some (state, host)
stands_after steps state host (action ∷ actions) = after_answer (act steps state host action) (λ after left. stands_after steps after left actions)

-- In an accepted package with the ten base statuses each answer is so: after whatever a host may have done, a call that it may
-- make of a receiver that isn't null is answered by the kind that its method declares, be it refused, ended or suspended.
abbrev pub AnswersHaveKinds : Type 0
AnswersHaveKinds =
    (places : ℕ → ℕ → Place) (p : PackageTree) → IsAccepted places p → 9 < length p.statuses → (receivers : List Receiver) (actions : List (HostAction Buffer)) (called : HostCall) (turns : ℕ)
    → AreDeclared (surface_of p) receivers → AreLawful (surface_of p) receivers 0 0 (actions ++ call called.receiver called.method called.args turns ∷ [])
    → (state : SourceState) (host : Host) → stands_after (source_steps p) (fresh_state p receivers) empty_host actions ≡ Some (state, host)
    → (m : MethodTree) (objects : List Object) → slice_get p.methods called.method ≡ Some m → slice_get state called.receiver ≡ Some (Some objects)
    → (left : ℕ) (it : Answered × World) → entry_of p m called.method (host_values host.arrays m.args called.args) turns (record { objects = objects; host = host }) ≡ Got left it
    → IsOutcome p m it.0

-- So is what a method answers to a call that is refused with a status of the package, as a call of a null receiver is.
abbrev pub RefusalsHaveKinds : Type 0
RefusalsHaveKinds =
    (places : ℕ → ℕ → Place) (p : PackageTree) → IsAccepted places p → 9 < length p.statuses → (number : ℕ) (m : MethodTree) → slice_get p.methods number ≡ Some m
    → (n : ℕ) → n < length p.statuses → IsOutcome p m (refusal_of m n)
