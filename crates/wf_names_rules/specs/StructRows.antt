-- The graph of the structs of a package: which holds which.
use Rattle.std.specs.Prelude.{◌≡◌, ◌<◌, ◌-◌, ◌^◌, ℕ, List, length}
use Rattle.wf_names_rules.specs.Declarations.{Declared}
use Rattle.graphs.specs.Graphs.{goes, AreWithin}
use Rattle.wf_names_rules.specs.Sizes.{holds_struct}

-- Rows that list for each struct of a package, in order, those that it holds.
pub record AreStructRows (d : Declared) (rows : List (List ℕ)) : Type 0 where
  pub len : length rows ≡ length d.structs
  pub same : (a b : ℕ) → goes rows a b ≡ holds_struct d a b
  pub within : AreWithin rows (length rows)
  pub few : length rows < 2 ^ 32 - 1
