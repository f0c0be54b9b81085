-- The greatest and the least value that an operation has where each operand runs over the numbers between two ends.
-- Both are found by looking at every pair, so that nothing has to be believed of the operation.
use Rattle.std.specs.Prelude.{ℕ, zero, suc, ◌+◌, ◌-◌, min, max}

-- The greatest value of f at `more + 1` numbers, `from` being the first.
unfoldable pub greatest_of : (ℕ → ℕ) → (from more : ℕ) → ℕ
greatest_of f from zero = f from
greatest_of f from (suc more) = max (f (from + suc more)) (greatest_of f from more)

-- The least of them.
unfoldable pub least_of : (ℕ → ℕ) → (from more : ℕ) → ℕ
least_of f from zero = f from
least_of f from (suc more) = min (f (from + suc more)) (least_of f from more)

-- The greatest value of `op` where the left operand goes from a to b and the right one from c to d.
unfoldable pub greatest : (ℕ → ℕ → ℕ) → (a b c d : ℕ) → ℕ
greatest op a b c d = greatest_of (λ x. greatest_of (op x) c (d - c)) a (b - a)

-- The least of them.
unfoldable pub least : (ℕ → ℕ → ℕ) → (a b c d : ℕ) → ℕ
least op a b c d = least_of (λ x. least_of (op x) c (d - c)) a (b - a)
