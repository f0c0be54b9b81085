-- The bytes of a number that stand next in a reader.
use Rattle.std.proofs.Common.{◌≡◌, ◌+◌, ℕ, zero, suc, Bool, ap, arith}
use Rattle.c_text.specs.CTree.{operand, no_operand}
use Rattle.wf_exprs.specs.Exprs.{with_operand, byte_ahead, bytes_ahead}
use Rattle.wf_exprs.specs.Names.{Names}

-- One byte more.
pub more_bytes : (names : Names) (a bits : ℕ) (big : Bool) (k n j : ℕ) → j ≡ k + n
    → with_operand (bytes_ahead names a bits big k n) (byte_ahead names a bits big j) ≡ bytes_ahead names a bits big k (suc n)
more_bytes names a bits big k zero j e = let same : j ≡ k = omega (arith, e) in ap (λ i. operand (byte_ahead names a bits big i) no_operand) same
more_bytes names a bits big k (suc n) j e = ap (operand (byte_ahead names a bits big k)) (more_bytes names a bits big (suc k) n j (omega (arith, e)))
