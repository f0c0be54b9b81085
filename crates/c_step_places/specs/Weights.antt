-- The weights of the code from each statement of a unit on.
use Rattle.std.specs.Prelude.{◌≡◌, ◌<◌, ℕ, List, length, slice_get, Some}
use Rattle.c_text.specs.CNodes.{Nodes, code_of}
use Rattle.c_meaning.specs.CStep.{code_weight}

-- Those of the first statements.
abbrev pub Weighs : Nodes → List ℕ → Type 0
Weighs nodes weights = (s : ℕ) → s < length weights → slice_get weights s ≡ Some (code_weight (code_of nodes s))

-- Those of all statements.
pub record WeighsAll (nodes : Nodes) (weights : List ℕ) : Type 0 where
  pub size : length weights ≡ length nodes.stmts
  pub each : Weighs nodes weights
