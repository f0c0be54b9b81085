-- The inputs and sinks that lie in memory: what contracts see of each, and its exact answers.
use Rattle.std.specs.Prelude.{◌≡◌, ℕ, ◌+◌, ◌-◌, ◌^◌, ◌<◌, ◌≤◌, min, max, List, [], ◌++◌, length, take, find, Option, None, Some, Result, Ok, Err, if◌then◌else◌, nat_eq, nat_le, unwrap_or}
use Rattle.std.specs.Option.{option_map}
use Rattle.std.specs.List.{list_any}
use Rattle.std.specs.Str.{bytes_eq}
use Rattle.wf_outside.specs.declared.inputs.TakeFault.{TakeFault}
use Rattle.wf_outside.specs.declared.inputs.TakeFault.TheVariants.{Failed, TooLong, Memory}
use Rattle.wf_outside.specs.declared.sinks.SinkFault.{SinkFault}

-- Names with their bytes. The first entry of a name counts.
abbrev pub bytes_under : List (List ℕ × List ℕ) → List ℕ → Option (List ℕ)
bytes_under held name = option_map (λ entry. entry.1) (find (λ entry. bytes_eq entry.0 name) held)

-- The same, where a name that isn't held has no bytes; so something stands under every name.
abbrev pub bytes_or_empty : List (List ℕ × List ℕ) → List ℕ → List ℕ
bytes_or_empty held name = unwrap_or (bytes_under held name) []

abbrev pub held_by_all : List (List ℕ × List ℕ) → List ℕ → Option (List ℕ)
held_by_all held name = Some (bytes_or_empty held name)

-- Calls are numbered from 0; all calls from the last number of 64 bits on have that number.
abbrev pub number_after : ℕ → ℕ
number_after call = min (call + 1) (2 ^ 64 - 1)

-- Inputs in memory. `failing` lists the calls that fail, and `calls` is the next call's number.
pub record MemInputsState : Type 0 where
  pub held : List (List ℕ × List ℕ)
  pub failing : List ℕ
  pub last_failed : Option (List ℕ)
  pub calls : ℕ
  pub faults : ℕ

-- What the call of this number gives for a name: nothing where the call is listed or the name isn't held.
abbrev pub given_at : MemInputsState → ℕ → List ℕ → Option (List ℕ)
given_at inputs call name = if list_any (λ listed. nat_eq listed call) inputs.failing then None else bytes_under inputs.held name

-- The answer for what is given, and what it leaves. Where nothing is given, `Memory` tells that the name
-- couldn't be copied.
abbrev pub AnswersGiven : Option (List ℕ) → ℕ → Result (Unit {0}) TakeFault → List ℕ → Type 0
AnswersGiven None most (Ok _) into = ⊥
AnswersGiven None most (Err Failed) into = into ≡ []
AnswersGiven None most (Err TooLong) into = ⊥
AnswersGiven None most (Err Memory) into = into ≡ []
AnswersGiven (Some bytes) most (Ok _) into = (into ≡ bytes) × (length bytes ≤ most)
AnswersGiven (Some bytes) most (Err Failed) into = ⊥
AnswersGiven (Some bytes) most (Err TooLong) into = (into ≡ take (most + 1) bytes) × (most < length bytes)
AnswersGiven (Some bytes) most (Err Memory) into = into ≡ []

-- The inputs after a take of a name with this answer.
abbrev pub after_take : MemInputsState → List ℕ → Result (Unit {0}) TakeFault → MemInputsState
after_take inputs name (Ok _) = record inputs { calls = number_after inputs.calls }
after_take inputs name (Err Failed) = record inputs { calls = number_after inputs.calls; faults = inputs.faults + 1; last_failed = Some name }
after_take inputs name (Err TooLong) = record inputs { calls = number_after inputs.calls }
after_take inputs name (Err Memory) = record inputs { calls = number_after inputs.calls }

-- A sink in memory. `failing` lists the calls that fail, each with the bytes that are then gone; `room` is what
-- is left, `longest` the length of the longest piece that was put, and `calls` the next call's number.
pub record MemSinkState : Type 0 where
  pub written : List ℕ
  pub room : ℕ
  pub longest : ℕ
  pub failing : List (ℕ × ℕ)
  pub calls : ℕ
  pub faults : ℕ

-- The bytes that are gone at a call, where it is listed.
abbrev pub gone_at : List (ℕ × ℕ) → ℕ → Option ℕ
gone_at failing call = option_map (λ entry. entry.1) (find (λ entry. nat_eq entry.0 call) failing)

-- A piece of so many bytes fits the room, or nothing of it is put.
abbrev pub answer_by_room : ℕ → ℕ → Result (Unit {0}) SinkFault
answer_by_room room count = if nat_le count room then Ok tt else Err (record { gone = 0 })

-- A listed call fails, with the listed bytes gone, but no more than the piece has or the room holds.
abbrev pub answer_listed : Option ℕ → ℕ → ℕ → Result (Unit {0}) SinkFault
answer_listed None room count = answer_by_room room count
answer_listed (Some gone) room count = Err (record { gone = min gone (min count room) })

abbrev pub put_answer : MemSinkState → ℕ → Result (Unit {0}) SinkFault
put_answer sink count = answer_listed (gone_at sink.failing sink.calls) sink.room count

-- The sink after a put of a piece with this answer.
abbrev pub after_put : MemSinkState → List ℕ → Result (Unit {0}) SinkFault → MemSinkState
after_put sink piece (Ok _) = record sink { written = sink.written ++ piece; room = sink.room - length piece; longest = max sink.longest (length piece); calls = number_after sink.calls }
after_put sink piece (Err fault) = record sink { written = sink.written ++ take fault.gone piece; room = sink.room - fault.gone; longest = max sink.longest (length piece); calls = number_after sink.calls; faults = sink.faults + 1 }

-- A sink in memory that fails only for want of room.
pub record PureSinkState : Type 0 where
  pub written : List ℕ
  pub room : ℕ
  pub faults : ℕ

abbrev pub after_pure_put : PureSinkState → List ℕ → Result (Unit {0}) SinkFault → PureSinkState
after_pure_put sink piece (Ok _) = record sink { written = sink.written ++ piece; room = sink.room - length piece }
after_pure_put sink piece (Err _) = record sink { faults = sink.faults + 1 }
