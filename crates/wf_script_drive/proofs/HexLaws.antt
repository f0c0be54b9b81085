-- Hexadecimal digits, byte by byte.
use Rattle.std.proofs.Common.{◌≡◌, ℕ, ◌+◌, ◌<◌, ◌≤◌, List, [], ◌∷◌, ◌++◌, length, drop, get_or, refl, ◌∙◌, ap}
use Rattle.std.proofs.lemmas.List.{drop_all}
use Rattle.hex.specs.Hex.{encode_lower, encode_with}
use Rattle.pens.proofs.Progress.{unroll}

pub digits_on : (xs two : List ℕ) (i : ℕ) → i < length xs → two ≡ encode_lower (get_or xs i 0 ∷ []) ++ [] → encode_lower (drop i xs) ≡ two ++ encode_lower (drop (i + 1) xs)
unfolding encode_with
digits_on xs two i within is = ap encode_lower (unroll xs i 0 within) ∙ rw is refl

pub digits_over : (xs : List ℕ) (i : ℕ) → length xs ≤ i → encode_lower (drop i xs) ≡ []
unfolding encode_with
digits_over xs i over = ap encode_lower (drop_all i xs over)
