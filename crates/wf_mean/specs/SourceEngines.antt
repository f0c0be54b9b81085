-- A package as an engine: its state, and what its inits and calls give. These are the source's meaning, with a status by its
-- number.
use Rattle.std.specs.Prelude.{ℕ, ◌^◌, Bool, false, List, map, length, Option, None, Some, slice_get, nat_lt, if◌then◌else◌}
use Rattle.turns.specs.Run.{Outcome as Ran, Got, More, Lost}
use Rattle.wf_text.specs.Surface.{Surface, AnswerKind, status, numeric, truth, nothing}
use Rattle.wf_text.specs.HostActions.{Receiver}
use Rattle.wf_base.specs.HostRun.{Host, HostCall}
use Rattle.wf_ast.specs.TypedPackage.{MethodTree, PackageTree, answers_of, surface_of}
use Rattle.wf_ast.specs.Value.{Value, num, truth_value, status_number}
use Rattle.wf_bufs.specs.declared.outcomes.Outcome.{Outcome}
use Rattle.wf_bufs.specs.declared.outcomes.Outcome.TheVariants.{Status, Num, Flag, Nothing}
use Rattle.wf_bufs.specs.EngineLaw.{Gives, done, turns, undefined}
use Rattle.wf_meaning.specs.SourceState.{Object, SourceState, cleared_object, fresh_state}
use Rattle.wf_meaning.specs.Entry.{Answered, returned, suspended, ok, bad_receiver, refusal_of}
use Rattle.wf_meaning.specs.World.{World, updated}
use Rattle.wf_meaning.specs.SourceCall.{host_values, entry_of}

-- What the answers depend on: the package, its receivers as they were declared and as they stand, and whether the engine has
-- stopped.
pub record EngineState : Type 0 where
  pub package_tree : PackageTree
  pub receivers : List Receiver
  pub objects : SourceState
  pub stopped : Bool

abbrev pub surface_told : EngineState → Surface
surface_told e = surface_of e.package_tree

abbrev pub receivers_told : EngineState → List Receiver
receivers_told e = e.receivers

abbrev pub has_stopped : EngineState → Bool
has_stopped e = e.stopped

-- An engine that has been loaded: its receivers are raw or null.
abbrev pub first_state : PackageTree → List Receiver → EngineState
first_state p receivers = record { package_tree = p; receivers = receivers; objects = fresh_state p receivers; stopped = false }

-- A number that no status of the package has stands for the empty text, which is the text of ok.
abbrev pub known_status : PackageTree → ℕ → ℕ
known_status p n = if nat_lt n (length p.statuses) then n else ok

-- A value as an outcome of a kind; None where it is none of that kind.
abbrev pub outcome_of_value : PackageTree → AnswerKind → Option Value → Option Outcome
outcome_of_value p status (Some (status_number n)) = Some (Status (record { 0 = known_status p n }))
outcome_of_value p (numeric bits) (Some (num n)) = if nat_lt n (2 ^ bits) then Some (Num n) else None
outcome_of_value p truth (Some (truth_value b)) = Some (Flag b)
outcome_of_value p nothing None = Some Nothing
outcome_of_value p kind v = None

-- An answer likewise. A coroutine that suspends answers a status.
abbrev pub outcome_of : PackageTree → AnswerKind → Answered → Option Outcome
outcome_of p kind (returned v) = outcome_of_value p kind v
outcome_of p kind (suspended n) = outcome_of_value p kind (Some (status_number n))

-- A receiver's struct states are these.
abbrev pub with_receiver : (receiver : ℕ) → List Object → EngineState → EngineState
with_receiver receiver objects e = record e { objects = updated (λ _. Some objects) receiver e.objects }

abbrev pub given_if : {After : Type 0} → Option Outcome → After → Gives After
given_if None after = undefined
given_if (Some outcome) after = done outcome after

-- What a call gives that comes to this end, where its method answers this kind.
abbrev pub given : EngineState → AnswerKind → (receiver : ℕ) → Ran (Answered × World) → Gives (EngineState × Host)
given e kind receiver (Got left it) = given_if (outcome_of e.package_tree kind it.0) (with_receiver receiver it.1.objects e, it.1.host)
given e kind receiver More = turns
given e kind receiver Lost = undefined

-- The kind of a method's answers.
abbrev pub kind_told : MethodTree → AnswerKind
kind_told m = answers_of m.mark m.gives

-- A call of a receiver that isn't null.
abbrev pub entry_gives : EngineState → MethodTree → HostCall → Host → (turns : ℕ) → List Object → Gives (EngineState × Host)
entry_gives e m called host n objects =
    given e (kind_told m) called.receiver (entry_of e.package_tree m called.method (host_values host.arrays m.args called.args) n (record { objects = objects; host = host }))

-- A call of a receiver, which may be null.
abbrev pub receiver_gives : EngineState → MethodTree → HostCall → Host → (turns : ℕ) → Option (List Object) → Gives (EngineState × Host)
receiver_gives e m called host n None = given_if (outcome_of e.package_tree (kind_told m) (refusal_of m bad_receiver)) (e, host)
receiver_gives e m called host n (Some objects) = entry_gives e m called host n objects

-- A call of a method of the package.
abbrev pub method_gives : EngineState → HostCall → Host → (turns : ℕ) → Option MethodTree → Option (Option (List Object)) → Gives (EngineState × Host)
method_gives e called host n (Some m) (Some receiver) = receiver_gives e m called host n receiver
method_gives e called host n m receiver = undefined

unfoldable pub call_gives : EngineState → HostCall → Host → (turns : ℕ) → Gives (EngineState × Host)
call_gives e called host n = method_gives e called host n (slice_get e.package_tree.methods called.method) (slice_get e.objects called.receiver)

-- An init of a receiver, which may be null.
abbrev pub init_of : EngineState → (receiver : ℕ) → Option (Option (List Object)) → Gives EngineState
init_of e receiver None = undefined
init_of e receiver (Some None) = done (Status (record { 0 = bad_receiver })) e
init_of e receiver (Some (Some objects)) = done (Status (record { 0 = ok })) (with_receiver receiver (map cleared_object objects) e)

unfoldable pub init_gives : EngineState → (receiver turns : ℕ) → Gives EngineState
init_gives e receiver n = init_of e receiver (slice_get e.objects receiver)
