-- How many functions stand in a chain of calls at most. A table has the depths of the functions before it, by number: a
-- function's is one more than the greatest of those that one of its instructions calls.
use Rattle.std.specs.Prelude.{◌≡◌, ℕ, zero, suc, ◌++◌, ◌∷◌, [], List, true, length, nat_le}
use Rattle.std.specs.List.{list_all}
use Rattle.c_step_run.specs.Coding.{CodeView}
use Rattle.c_step_cells.specs.Chains.{called_cells}

-- The depths of the first functions of a text.
abbrev pub depths_of : CodeView → (count : ℕ) → List ℕ
depths_of c zero = []
depths_of c (suc k) = depths_of c k ++ suc (called_cells c (depths_of c k) k) ∷ []

-- The most functions that a chain of calls may have: what a machine's own stack carries in two mebibytes or so.
abbrev pub most_calls : ℕ
most_calls = 4096

-- No chain of calls has more.
abbrev pub AreShallow : CodeView → Type 0
AreShallow c = list_all (λ depth. nat_le depth most_calls) (depths_of c (length c.functions)) ≡ true
