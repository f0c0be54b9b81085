-- Frames by the numbers of their functions.
use Rattle.std.specs.Prelude.{◌≡◌, ℕ, true, List, slice_get, Some}
use Rattle.c_meaning.specs.CMemory.{Memory}
use Rattle.c_step_frames.specs.Frames.{FrameView, EndsWith, types_of}

-- The function with a number isn't called now.
abbrev pub Rests : List FrameView → ℕ → Type 0
Rests frames k = (it : FrameView) × (slice_get frames k ≡ Some it) × (it.rests ≡ true)

-- The last object of memory is that of a call of the function with a number.
abbrev pub EndsInCall : List FrameView → ℕ → Memory → Type 0
EndsInCall frames k memory = (it : FrameView) × (slice_get frames k ≡ Some it) × EndsWith (types_of it) memory
