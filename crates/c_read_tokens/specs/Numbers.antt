-- Values of digits.
use Rattle.std.specs.Prelude.{ℕ, ◌+◌, ◌-◌, ◌*◌, List, [], ◌∷◌}

-- The value of digits after those whose value is `value`.
abbrev pub value_from : (value : ℕ) → List ℕ → ℕ
value_from value [] = value
value_from value (digit ∷ rest) = value_from (value * 10 + (digit - 48)) rest
