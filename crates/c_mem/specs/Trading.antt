-- The bytes of an object are traded for others, where it is one field of bytes that are set.
use Rattle.std.specs.Prelude.{◌≡◌, ℕ, Bool, true, false, List, slice_get, slice_set, Some}
use Rattle.std.specs.Option.{option_map_or}
use Rattle.c_meaning.specs.CMemory.{Memory}
use Rattle.c_meaning.specs.CRun.{bytes_object}
use Rattle.c_mem.specs.FieldParts.{has_bytes}

abbrev pub Trades : Memory → (object : ℕ) → (given : List ℕ) → Bool → (now : Memory) → (taken : List ℕ) → Type 0
Trades memory object given true now taken = (slice_get memory object ≡ Some (bytes_object taken)) × (now ≡ slice_set memory object (bytes_object given))
Trades memory object given false now taken = (option_map_or has_bytes (slice_get memory object) false ≡ false) × ((now ≡ memory) × (taken ≡ given))
