-- Values of digits.
use Rattle.std.proofs.Common.{◌≡◌, ℕ, ◌+◌, ◌-◌, ◌*◌, ◌≤◌, ◌<◌, ◌^◌, List, [], ◌∷◌, length, drop, sym, ◌∙◌, ap, suc, get_or, arith}
use Rattle.std.proofs.Math.Seq.{drop-cons}
use Rattle.std.proofs.lemmas.List.{drop_all}
use Rattle.wf_script_rules.specs.Words.{value_from}

-- A digit more makes no value smaller.
pub value_from-grows : (value : ℕ) (digits : List ℕ) → value ≤ value_from value digits
value_from-grows value [] = omega arith
value_from-grows value (digit ∷ rest) = omega (arith, value_from-grows (value * 10 + (digit - 48)) rest)

-- Where a value is too large, so is that of all digits.
pub too_large : (value n : ℕ) (digits : List ℕ) → n < length digits → value_from value (drop n digits) ≡ value_from 0 digits → (value * 10 + (get_or digits n 0 - 48) < 2 ^ 64 → ⊥) → value_from 0 digits < 2 ^ 64 → ⊥
too_large value n digits within is large small =
    let cut : drop n digits ≡ get_or digits n 0 ∷ drop (suc n) digits = drop-cons digits n 0 within in
    let grows = value_from-grows (value * 10 + (get_or digits n 0 - 48)) (drop (suc n) digits) in
    let whole : value_from (value * 10 + (get_or digits n 0 - 48)) (drop (suc n) digits) ≡ value_from 0 digits = sym (ap (value_from value) cut) ∙ is in
    large (omega (arith, grows, whole, small))

pub record IsWhole (value : ℕ) (digits : List ℕ) : Type 0 where
  pub small : value_from 0 digits < 2 ^ 64
  pub same : value ≡ value_from 0 digits

pub at_end : (value n : ℕ) (digits : List ℕ) → length digits ≤ n → value < 2 ^ 64 → value_from value (drop n digits) ≡ value_from 0 digits → IsWhole value digits
at_end value n digits ends small is =
    let same : value ≡ value_from 0 digits = sym (ap (value_from value) (drop_all n digits ends)) ∙ is in
    record { small = omega (arith, same, small); same = same }
