-- Writing through a buffer into a sink.
use Rattle.std.specs.Prelude.{◌≡◌, ℕ, ◌+◌, ◌-◌, ◌^◌, ◌<◌, ◌≤◌, max, min, List, ◌++◌, length, take, Bool, true, false, Option, Some, Result, Ok, Err}
use Rattle.std.specs.Io.KnownBytes.{Appends}
use Rattle.wf_outside.specs.declared.sinks.SinkFault.{SinkFault}

-- What a sink tells, the bytes that wait for it, and whether a put has failed.
pub record PenState : Type 0 where
  pub written : Option (List ℕ)
  pub room : Option ℕ
  pub longest : Option ℕ
  pub faults : ℕ
  pub waiting : List ℕ
  pub sent : ℕ
  pub failed : Bool

abbrev pub pen_state : Option (List ℕ) → Option ℕ → Option ℕ → ℕ → List ℕ → ℕ → ℕ → Bool → PenState
pen_state written room longest faults buffer filled sent failed = record { written = written; room = room; longest = longest; faults = faults; waiting = take filled buffer; sent = sent; failed = failed }

abbrev pub failed_at : Bool → ℕ → Result (Unit {0}) SinkFault
failed_at false sent = Ok tt
failed_at true sent = Err (record { gone = sent })

-- A number as a machine word keeps it.
abbrev pub cut : ℕ → ℕ
cut n = min n (2 ^ 64 - 1)

-- The whole text is appended, or at a fault its front, of which the fault tells the length.
abbrev pub Prints : Option (List ℕ) → Option (List ℕ) → Result (Unit {0}) SinkFault → List ℕ → Type 0
Prints before now (Ok _) text = Appends before now text
Prints before now (Err fault) text = (count : ℕ) × Appends before now (take count text) × (count ≤ length text) × (fault.gone ≡ cut count)

-- No piece longer than 4,096 bytes was put.
abbrev pub KeepsLongest : Option ℕ → Option ℕ → Type 0
KeepsLongest before now = (most : ℕ) → before ≡ Some most → (longest : ℕ) × (now ≡ Some longest) × (most ≤ longest) × (longest ≤ max 4096 most)

-- The sink has taken `taken`. No put failed: what it hasn't taken waits, and a room that holds both has fallen.
-- A put failed: a room doesn't hold both.
abbrev pub EndsIn : Bool → PenState → PenState → (taken left : List ℕ) → (needed : ℕ) → Type 0
EndsIn false old new taken left needed = (left ≡ new.waiting) × (new.faults ≡ old.faults) × ((room : ℕ) → old.room ≡ Some room → needed ≤ room → new.room ≡ Some (room - length taken))
EndsIn true old new taken left needed = (old.faults < new.faults) × ((room : ℕ) → old.room ≡ Some room → room < needed)

pub record Flows (old new : PenState) (bytes : List ℕ) : Type 0 where
  pub taken : List ℕ
  pub left : List ℕ
  pub flow : taken ++ left ≡ old.waiting ++ bytes
  pub written : Appends old.written new.written taken
  pub sent : new.sent ≡ cut (old.sent + length taken)
  pub longest : KeepsLongest old.longest new.longest
  pub ending : EndsIn new.failed old new taken left (length old.waiting + length bytes)

-- The bytes were written through the pen; after a failed put they are dropped.
abbrev pub WroteFrom : Bool → PenState → PenState → List ℕ → Type 0
WroteFrom false old new bytes = Flows old new bytes
WroteFrom true old new bytes = new ≡ old

abbrev pub Wrote : PenState → PenState → List ℕ → Type 0
Wrote old new bytes = WroteFrom old.failed old new bytes
