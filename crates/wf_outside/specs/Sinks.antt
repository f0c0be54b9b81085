-- What one put into a sink answers, leaves and counts.
use Rattle.std.specs.Prelude.{◌≡◌, ℕ, ◌-◌, ◌<◌, ◌≤◌, max, List, length, take, Option, None, Some, Result, Ok, Err, IsOk, ⊤}
use Rattle.std.specs.Option.{option_map}
use Rattle.std.specs.Io.KnownBytes.{Appends}
use Rattle.wf_outside.specs.declared.sinks.SinkFault.{SinkFault}

-- The written bytes, where told, grow by the piece, or at a fault by as many of its bytes as the fault says.
abbrev pub Puts : Option (List ℕ) → Option (List ℕ) → Result (Unit {0}) SinkFault → List ℕ → Type 0
Puts before now (Ok _) piece = Appends before now piece
Puts before now (Err fault) piece = Appends before now (take fault.gone piece) × (fault.gone ≤ length piece)

-- The count of faults rises at a fault and stays at Ok.
abbrev pub CountsPut : ℕ → ℕ → Result (Unit {0}) SinkFault → Type 0
CountsPut before now (Ok _) = now ≡ before
CountsPut before now (Err _) = before < now

-- Where a room is told that holds so many bytes, the answer is Ok and the room falls by them.
abbrev pub FitsRoom : Option ℕ → Option ℕ → Result (Unit {0}) SinkFault → ℕ → Type 0
FitsRoom None now result count = ⊤
FitsRoom (Some room) now result count = count ≤ room → IsOk result × (now ≡ Some (room - count))

-- The longest piece so far, where told, with one more piece of so many bytes.
abbrev pub longest_with : Option ℕ → ℕ → Option ℕ
longest_with longest count = option_map (λ most. max most count) longest
