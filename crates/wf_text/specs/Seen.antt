-- What a host sees of its actions.
use Rattle.std.specs.Prelude.{ℕ, Bool, List}

-- What an action answers: the text of a status (ok's is empty), a number, a truth value or nothing.
pub data Answer : Type 0 where
  status : (text : List ℕ) → Answer
  num : ℕ → Answer
  flag : Bool → Answer
  nothing : Answer

-- A buffer as a host sees it: its first `wi` bytes, and where reading and writing stand.
pub record SeenBuffer : Type 0 where
  pub written : List ℕ
  pub ri : ℕ
  pub wi : ℕ
  pub pos : ℕ
  pub closed : Bool

-- An action's answer with the buffers and byte arrays as they stand after it; or that a call or an init needs
-- more turns than it was given, or isn't defined within them. Nothing is seen after either of these.
pub data Seen : Type 0 where
  answered : Answer → (buffers : List SeenBuffer) → (arrays : List (List ℕ)) → Seen
  turns : Seen
  undefined : Seen
