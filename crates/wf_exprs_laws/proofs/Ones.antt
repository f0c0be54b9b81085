-- All ones, with the other bits of their width.
use Rattle.std.proofs.Common.{◌≡◌, ℕ, zero, suc, ◌+◌, ◌-◌, ◌*◌, ◌/◌, ◌%◌, ◌^◌, ◌<◌, refl, sym, ap, ◌∙◌, arith}
use Rattle.std.specs.Prelude.{bit_xor}
use Rattle.std.proofs.lemmas.Nat.{xor_block, xor_comm}

last-bit : (r : ℕ) → r < 2 → bit_xor r 1 ≡ 1 - r
last-bit zero h = refl
last-bit (suc zero) h = refl
last-bit (suc (suc r)) h = absurd (omega (arith, h))

-- What is xor-ed with all ones is the difference to them.
pub xor-ones : (w m : ℕ) → m < 2 ^ w → bit_xor m (2 ^ w - 1) ≡ 2 ^ w - 1 - m
xor-ones zero zero h = refl
xor-ones zero (suc m) h = absurd (omega (arith, h))
xor-ones (suc w) m h =
    let a = m / 2 in
    let r = m % 2 in
    let q = 2 ^ w - 1 in
    let some : 0 < 2 ^ w = omega arith in
    let whole : a * 2 ^ 1 + r ≡ m = omega arith in
    let ones : q * 2 ^ 1 + 1 ≡ 2 ^ suc w - 1 = omega (arith, some) in
    let small : r < 2 = omega arith in
    let half : a < 2 ^ w = omega (arith, h) in
    ap (λ k. bit_xor k (2 ^ suc w - 1)) (sym whole) ∙ ap (bit_xor (a * 2 ^ 1 + r)) (sym ones) ∙ xor_block 1 a q r 1 small (omega arith)
    ∙ ap (λ k. k * 2 ^ 1 + bit_xor r 1) (xor-ones w a half) ∙ ap (λ k. (q - a) * 2 ^ 1 + k) (last-bit r small) ∙ omega (arith, some, whole, half, small)

pub ones-xor : (w m : ℕ) → m < 2 ^ w → bit_xor (2 ^ w - 1) m ≡ 2 ^ w - 1 - m
ones-xor w m h = xor_comm (2 ^ w - 1) m ∙ xor-ones w m h
