-- The status that a string's text is known by.
use Rattle.std.specs.Prelude.{ℕ, if◌then◌else◌, List, drop, Option, Some, None, bytes_eq}
use Rattle.std.specs.List.{list_any}
use Rattle.wf_text.specs.declared.numbers.StatusId.{StatusId}
use Rattle.c_step_engine.specs.Engines.{number_of}

-- The first of all statuses with this text, where one of `others` has it.
abbrev pub known_among : (others all : List (List ℕ)) → (text : List ℕ) → Option StatusId
known_among others all text = if list_any (bytes_eq text) others then Some (record { 0 = number_of all text }) else None

-- The same, where one has it that isn't ok, the first of them.
abbrev pub known_status : (all : List (List ℕ)) → (text : List ℕ) → Option StatusId
known_status all text = known_among (drop 1 all) all text
