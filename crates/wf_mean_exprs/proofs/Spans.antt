-- A part of a slice.
use Rattle.std.proofs.Common.{◌≡◌, ℕ, ◌+◌, ◌-◌, arith}

pub between : (from i j : ℕ) → (from + j) - (from + i) ≡ j - i
between from i j = omega arith
