-- Quotients and remainders by a number that isn't 0.
use Rattle.std.proofs.Common.{◌≡◌, ℕ, zero, suc, ◌/◌, ◌%◌, ◌<◌, refl, arith}
use Rattle.wf_ast.specs.TypedTree.{divided, remainder}
use Rattle.wf_ast.specs.Value.{applied, fitted}

pub quotient : (bits m n : ℕ) → 0 < n → applied divided bits m n ≡ fitted bits (m / n)
quotient bits m zero h = absurd (omega (arith, h))
quotient bits m (suc n) h = refl

pub rest : (bits m n : ℕ) → 0 < n → applied remainder bits m n ≡ fitted bits (m % n)
rest bits m zero h = absurd (omega (arith, h))
rest bits m (suc n) h = refl
