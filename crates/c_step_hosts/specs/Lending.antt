-- What stands of a host while the bytes that a call's arguments name are lent.
use Rattle.std.specs.Prelude.{ℕ, ◌<◌, List, [], ◌∷◌, Some, None, slice_get, slice_set}
use Rattle.std.specs.Option.{option_map_or}
use Rattle.wf_text.specs.HostActions.{HostArg, num, flag, io, bytes}
use Rattle.wf_base.specs.BaseOps.{Buffer}
use Rattle.wf_base.specs.HostRun.{Host}

-- A buffer without its cells.
abbrev pub lent_buffer : Buffer → Buffer
lent_buffer b = record b { cells = []; ri = 0; wi = 0 }

abbrev pub lent_for : HostArg → Host → Host
lent_for (num n) host = host
lent_for (flag b) host = host
lent_for (io None) host = host
lent_for (io (Some k)) host = option_map_or (λ b. record host { buffers = slice_set host.buffers k (lent_buffer b) }) (slice_get host.buffers k) host
lent_for (bytes None) host = host
lent_for (bytes (Some k)) host = record host { arrays = slice_set host.arrays k [] }

abbrev pub all_lent : List HostArg → Host → Host
all_lent [] host = host
all_lent (arg ∷ args) host = all_lent args (lent_for arg host)

-- A buffer or a byte array that an argument names is one of so many.
abbrev pub IsThere : (buffers arrays : ℕ) → HostArg → Type 0
IsThere buffers arrays (num n) = Unit {0}
IsThere buffers arrays (flag b) = Unit {0}
IsThere buffers arrays (io None) = Unit {0}
IsThere buffers arrays (io (Some k)) = k < buffers
IsThere buffers arrays (bytes None) = Unit {0}
IsThere buffers arrays (bytes (Some k)) = k < arrays

abbrev pub AreThere : (buffers arrays : ℕ) → List HostArg → Type 0
AreThere buffers arrays [] = Unit {0}
AreThere buffers arrays (arg ∷ args) = IsThere buffers arrays arg × AreThere buffers arrays args
