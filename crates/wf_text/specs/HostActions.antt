-- What a host does, one action after the other. A buffer's state is a parameter here: the base operations
-- define it.
use Rattle.std.specs.Prelude.{ℕ, Bool, List, Option}

-- An argument of a call. `io` and `bytes` tell the number of a buffer or of a byte array, or that null is
-- passed; for a byte array null is the empty slice.
pub data HostArg : Type 0 where
  num : ℕ → HostArg
  flag : Bool → HostArg
  io : Option ℕ → HostArg
  bytes : Option ℕ → HostArg

-- `receiver`, `buffer`: their numbers, from 0. `turns`: the turns within which the action has to answer.
pub data HostAction (Buffer : Type 0) : Type 0 where
  -- the receiver becomes ready, whatever it was
  init : (receiver turns : ℕ) → HostAction Buffer
  -- one public call
  call : (receiver method : ℕ) → (args : List HostArg) → (turns : ℕ) → HostAction Buffer
  -- bytes are appended to a buffer, as many as fit; none where it is closed
  put : (buffer : ℕ) → (bytes : List ℕ) → HostAction Buffer
  -- no more bytes will come
  close : (buffer : ℕ) → HostAction Buffer
  -- the unread bytes move to the front
  compact : (buffer : ℕ) → HostAction Buffer
  -- other buffers and byte arrays stand in place of those that stood
  replace : (buffers : List Buffer) → (arrays : List (List ℕ)) → HostAction Buffer

-- A receiver as a host declares it: of the struct with this number, or null.
pub record Receiver : Type 0 where
  pub struct_number : ℕ
  pub null : Bool
