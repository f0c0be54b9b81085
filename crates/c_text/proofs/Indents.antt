-- The spaces at the front of a line, in pieces.
use Rattle.std.proofs.Common.{◌≡◌, ◌∙◌, ◌+◌, ◌*◌, ◌≤◌, ◌++◌, ℕ, zero, suc, ap, arith, append_assoc, codes, refl, sym, take}
use Rattle.c_text.specs.CLayout.{indented}
use Rattle.c_text.proofs.Trees.{append_nil}

pub deeper : (a b : ℕ) → indented (a + b) ≡ indented a ++ indented b
deeper a zero = let same : a + 0 ≡ a = omega arith in ap indented same ∙ sym (append_nil (indented a))
deeper a (suc b) = let one_more : a + suc b ≡ suc (a + b) = omega arith in ap indented one_more ∙ ap (λ xs. xs ++ codes "  ") (deeper a b) ∙ append_assoc (indented a) (indented b) (codes "  ")

pub few_spaces : (depth : ℕ) → depth ≤ 8 → take (2 * depth) (codes "                ") ≡ indented depth
few_spaces zero h = refl
few_spaces (suc zero) h = refl
few_spaces (suc (suc zero)) h = refl
few_spaces (suc (suc (suc zero))) h = refl
few_spaces (suc (suc (suc (suc zero)))) h = refl
few_spaces (suc (suc (suc (suc (suc zero))))) h = refl
few_spaces (suc (suc (suc (suc (suc (suc zero)))))) h = refl
few_spaces (suc (suc (suc (suc (suc (suc (suc zero))))))) h = refl
few_spaces (suc (suc (suc (suc (suc (suc (suc (suc zero)))))))) h = refl
few_spaces (suc (suc (suc (suc (suc (suc (suc (suc (suc n))))))))) h = absurd (omega (arith, h))
