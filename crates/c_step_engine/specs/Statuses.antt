-- The statuses of the strings of a text: a table by the strings' numbers.
use Rattle.std.specs.Prelude.{◌≡◌, ℕ, ◌&&◌, if◌then◌else◌, nat_eq, List, Option, Some, None, slice_get, option_map, option_and_then}
use Rattle.wf_text.specs.declared.numbers.StatusId.{StatusId}
use Rattle.wf_text.specs.Surface.{Surface}
use Rattle.wf_bufs.specs.declared.outcomes.Outcome.{Outcome}
use Rattle.wf_bufs.specs.declared.outcomes.Outcome.TheVariants.{Status}
use Rattle.c_meaning.specs.declared.values.Pointer.{Pointer}
use Rattle.c_meaning.specs.declared.values.CValue.{CValue}
use Rattle.c_meaning.specs.declared.values.CValue.TheVariants.{Numeric as numeric, Address as address, NullPointer as null_pointer}
use Rattle.c_meaning.specs.CValues.{to_object}
use Rattle.c_meaning.specs.CCall.{Program}
use Rattle.c_meaning.specs.CRun.{status_text}
use Rattle.c_step_engine.specs.Engines.{number_of}

-- The status of the string that a pointer leads to the start of.
abbrev pub status_at : List (Option StatusId) → Pointer → Option StatusId
status_at table q = if nat_eq q.field 0 && nat_eq q.index 0 then option_and_then (λ it. it) (slice_get table q.object) else None

-- The table has the status of each string, where it has the text of one.
abbrev pub AreStatuses : Program → Surface → List (Option StatusId) → Type 0
AreStatuses p surface table = (k : ℕ) → option_and_then (λ it. it) (slice_get table k) ≡ option_map (λ text. record { 0 = number_of surface.statuses text }) (status_text p surface (to_object k))

-- A status that was returned.
abbrev pub status_in : List (Option StatusId) → CValue → Option Outcome
status_in table null_pointer = Some (Status (record { 0 = 0 }))
status_in table (address q) = option_map (λ id. Status id) (status_at table q)
status_in table (numeric n) = None
