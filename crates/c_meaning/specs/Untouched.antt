-- What a call doesn't name.
use Rattle.std.specs.Prelude.{◌≡◌, ℕ, Bool, false, nat_eq, List, length, slice_get}
use Rattle.std.specs.List.{list_any}
use Rattle.wf_text.specs.HostActions.{HostArg}
use Rattle.wf_base.specs.HostRun.{Host}
use Rattle.wf_base.specs.LawfulActions.{named_buffers, named_arrays}

abbrev pub is_named : List ℕ → ℕ → Bool
is_named names k = list_any (nat_eq k) names

-- Every buffer and byte array that isn't among the arguments is as before, and none has come or gone.
pub record HostKeeps (args : List HostArg) (before now : Host) : Type 0 where
  pub buffers : (k : ℕ) → is_named (named_buffers args) k ≡ false → slice_get now.buffers k ≡ slice_get before.buffers k
  pub arrays : (k : ℕ) → is_named (named_arrays args) k ≡ false → slice_get now.arrays k ≡ slice_get before.arrays k
  pub buffers_count : length now.buffers ≡ length before.buffers
  pub arrays_count : length now.arrays ≡ length before.arrays
