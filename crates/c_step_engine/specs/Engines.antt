-- A text of C as an engine: its state, and what its inits and calls give. These are the meaning's, with a status by its
-- number.
use Rattle.std.specs.Prelude.{ℕ, suc, Bool, false, if◌then◌else◌, List, [], ◌∷◌, bytes_eq}
use Rattle.wf_text.specs.Surface.{Surface}
use Rattle.wf_text.specs.HostActions.{Receiver}
use Rattle.wf_text.specs.Seen.{Answer}
use Rattle.wf_text.specs.Seen as answer
use Rattle.wf_base.specs.HostRun.{Host, HostCall, Response, answers, needs_more, not_defined}
use Rattle.wf_bufs.specs.declared.outcomes.Outcome.{Outcome}
use Rattle.wf_bufs.specs.declared.outcomes.Outcome.TheVariants.{Status, Num, Flag, Nothing}
use Rattle.wf_bufs.specs.declared.outcomes.Reply.{Reply}
use Rattle.wf_bufs.specs.declared.outcomes.Reply.TheVariants.{Done, Turns, Undefined}
use Rattle.wf_bufs.specs.EngineLaw.{Gives, done, turns, undefined}
use Rattle.c_text.specs.CTree.{ItemTree}
use Rattle.c_meaning.specs.CMemory.{Memory}
use Rattle.c_meaning.specs.CCall.{program_of}
use Rattle.c_meaning.specs.CRun.{Loaded, loaded, made, c_init, c_call}

-- What the answers depend on: the text with the package's surface and the receivers, memory, and whether it has stopped.
pub record EngineState : Type 0 where
  pub loaded : Loaded
  pub memory : Memory
  pub stopped : Bool

abbrev pub surface_of : EngineState → Surface
surface_of state = state.loaded.surface

abbrev pub receivers_of : EngineState → List Receiver
receivers_of state = state.loaded.receivers

-- The number of the first status of this text.
abbrev pub number_of : List (List ℕ) → (text : List ℕ) → ℕ
number_of [] text = 0
number_of (it ∷ others) text = if bytes_eq it text then 0 else suc (number_of others text)

abbrev pub outcome_for : Surface → Answer → Outcome
outcome_for surface (answer.status text) = Status (record { 0 = number_of surface.statuses text })
outcome_for surface (answer.num n) = Num n
outcome_for surface (answer.flag b) = Flag b
outcome_for surface answer.nothing = Nothing

-- What a response of the meaning gives.
abbrev pub given : {A B : Type 0} → Surface → (A → B) → Response A → Gives B
given surface after (answers a left) = done (outcome_for surface a) (after left)
given surface after needs_more = turns
given surface after not_defined = undefined

abbrev pub after_init : EngineState → Memory → EngineState
after_init state memory = record state { memory = memory }

abbrev pub after_call : EngineState → Memory × Host → EngineState × Host
after_call state left = (record state { memory = left.0 }, left.1)

abbrev pub init_gives : EngineState → (receiver turns : ℕ) → Gives EngineState
init_gives state receiver within = given state.loaded.surface (after_init state) (c_init state.loaded state.memory receiver within)

abbrev pub call_gives : EngineState → HostCall → Host → (turns : ℕ) → Gives (EngineState × Host)
call_gives state called host within = given state.loaded.surface (after_call state) (c_call state.loaded state.memory called host within)

-- The state of an engine that has been loaded: all receivers are zero, and nothing has run.
abbrev pub first_state : List ItemTree → Surface → List Receiver → EngineState
first_state items surface receivers = record { loaded = loaded (program_of items) surface receivers; memory = (made (program_of items) surface receivers).memory; stopped = false }

-- Something holds where there is an outcome.
abbrev pub OnDone : Reply → Type 0 → Type 0
OnDone (Done outcome) holds = holds
OnDone Turns holds = Unit {0}
OnDone Undefined holds = Unit {0}
