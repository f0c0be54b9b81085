-- Parts of a list that are cut at its end.
use Rattle.std.proofs.Common.{◌≡◌, ℕ, zero, suc, ◌-◌, List, [], ◌∷◌, length, take, drop, refl, sym, ap, ◌∙◌, arith}
use Rattle.std.specs.Prelude.{min, slice_range}

take_none : {A : Type 0} (n : ℕ) → take {A = A} n [] ≡ []
take_none zero = refl
take_none (suc n) = refl

drop_none : {A : Type 0} (n : ℕ) → drop {A = A} n [] ≡ []
drop_none zero = refl
drop_none (suc n) = refl

take_min : {A : Type 0} (n : ℕ) (xs : List A) → take (min n (length xs)) xs ≡ take n xs
take_min n [] = take_none (min n 0) ∙ sym (take_none n)
take_min zero (x ∷ xs) = let e : min 0 (suc (length xs)) ≡ 0 = omega arith in rw e refl
take_min (suc n) (x ∷ xs) = let e : min (suc n) (suc (length xs)) ≡ suc (min n (length xs)) = omega arith in rw e (ap (λ ys. x ∷ ys) (take_min n xs))

-- The part from one number to another, and the same of numbers that the list has.
pub cut_range : {A : Type 0} (xs : List A) (from to : ℕ) → slice_range xs (min from (min to (length xs))) (min to (length xs)) ≡ slice_range xs from to
cut_range {A} [] from to = nothing (min to 0 - min from (min to 0)) (min from (min to 0)) ∙ sym (nothing (to - from) from)
  where
    nothing : (n m : ℕ) → take n (drop {A = A} m []) ≡ []
    nothing n m = ap (take n) (drop_none m) ∙ take_none n
cut_range (x ∷ xs) from zero =
    let a : min 0 (suc (length xs)) ≡ 0 = omega arith in
    let b : min from 0 ≡ 0 = omega arith in
    let d : 0 - from ≡ 0 = omega arith in
    rw (a, b, d) refl
cut_range (x ∷ xs) zero (suc to) =
    let a : min (suc to) (suc (length xs)) ≡ suc (min to (length xs)) = omega arith in
    let b : min 0 (suc (min to (length xs))) ≡ 0 = omega arith in
    let d : suc (min to (length xs)) - 0 ≡ suc (min to (length xs)) = omega arith in
    let f : suc to - 0 ≡ suc to = omega arith in
    rw (a, b, d, f) (ap (λ ys. x ∷ ys) (take_min to xs))
cut_range (x ∷ xs) (suc from) (suc to) =
    let a : min (suc to) (suc (length xs)) ≡ suc (min to (length xs)) = omega arith in
    let b : min (suc from) (suc (min to (length xs))) ≡ suc (min from (min to (length xs))) = omega arith in
    let d : suc (min to (length xs)) - suc (min from (min to (length xs))) ≡ min to (length xs) - min from (min to (length xs)) = omega arith in
    let f : suc to - suc from ≡ to - from = omega arith in
    rw (a, b, d, f) (cut_range xs from to)
