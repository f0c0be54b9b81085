-- Values of digits, and literals.
use Rattle.std.proofs.Common.{◌≡◌, ◌<◌, ◌≤◌, ◌+◌, ◌-◌, ◌*◌, ◌^◌, ℕ, zero, suc, Bool, true, false, nat_le, nat_lt, if◌then◌else◌, Option, None, Some, List, [], ◌∷◌, length, take, drop, get_or, refl, sym, ◌∙◌, ap, subst, arith, codes}
use Rattle.std.specs.List.{list_all}
use Rattle.std.specs.Str.{bytes_eq}
use Rattle.std.specs.Str.Parse.{digits_value, digits_value_after}
use Rattle.std.specs.Char.{digit_value}
use Rattle.std.proofs.lemmas.Bool.{leb-true}
use Rattle.std.proofs.lemmas.Bool.Decides.{nat_tests}
use Rattle.std.proofs.lemmas.Str.{digit_value_digit}
use Rattle.std.proofs.Math.Seq.{drop-cons}
use Rattle.c_text.specs.declared.kinds.CNumber.{CNumber}
use Rattle.c_text.specs.declared.kinds.CNumber.TheVariants.{Int, Unsigned, Long}
use Rattle.c_read_grammar.specs.FirstToken.{is_digit, begins, front, behind, has_leading_zero, literal_with, literal_of}
use Rattle.c_read_grammar.proofs.FirstBytes.{and-left, and-right}
use Rattle.c_read_tokens.specs.Numbers.{value_from}

value_from-grows : (value : ℕ) (digits : List ℕ) → value ≤ value_from value digits
value_from-grows value [] = omega arith
value_from-grows value (d ∷ ds) = omega (arith, value_from-grows (value * 10 + (d - 48)) ds)

-- Where a value is too large, so is that of all digits.
pub too_large : (value n : ℕ) (digits : List ℕ) → n < length digits → value_from value (drop n digits) ≡ value_from 0 digits → (value * 10 + (get_or digits n 0 - 48) < 2 ^ 64 → ⊥) → value_from 0 digits < 2 ^ 64 → ⊥
too_large value n digits within is large small =
    let cut : drop n digits ≡ get_or digits n 0 ∷ drop (suc n) digits = drop-cons digits n 0 within in
    let grows = value_from-grows (value * 10 + (get_or digits n 0 - 48)) (drop (suc n) digits) in
    let whole : value_from (value * 10 + (get_or digits n 0 - 48)) (drop (suc n) digits) ≡ value_from 0 digits = sym (ap (value_from value) cut) ∙ is in
    large (omega (arith, grows, whole, small))

folds : (n : ℕ) (ds : List ℕ) → list_all is_digit ds ≡ true → value_from n ds ≡ digits_value_after 10 n ds
folds n [] h = refl
folds n (c ∷ cs) h =
    let d : is_digit c ≡ true = and-left (is_digit c) (list_all is_digit cs) h in
    let low : 48 ≤ c = leb-true 48 c (and-left (nat_le 48 c) (nat_le c 57) d) in
    let high : c ≤ 57 = leb-true c 57 (and-right (nat_le 48 c) (nat_le c 57) d) in
    let e : n * 10 + (c - 48) ≡ n * 10 + digit_value c = omega (arith, digit_value_digit c (low, high)) in
    ap (λ m. value_from m cs) e ∙ folds (n * 10 + digit_value c) cs (and-right (is_digit c) (list_all is_digit cs) h)

record Cut (n : ℕ) (text : List ℕ) : Type 0 where
  pub digits : front is_digit text ≡ take n text
  pub suffix : behind is_digit text ≡ drop n text

cut_at : (n : ℕ) (text : List ℕ) → list_all is_digit (take n text) ≡ true → begins is_digit (drop n text) ≡ false → Cut n text
cut_at zero [] h w = record { digits = refl; suffix = refl }
cut_at (suc n) [] h w = record { digits = refl; suffix = refl }
cut_at zero (b ∷ bs) h w = record { digits = ap (λ c. if c then b ∷ front is_digit bs else []) w; suffix = ap (λ c. if c then behind is_digit bs else b ∷ bs) w }
cut_at (suc n) (b ∷ bs) h w =
    let d : is_digit b ≡ true = and-left (is_digit b) (list_all is_digit (take n bs)) h in
    let later = cut_at n bs (and-right (is_digit b) (list_all is_digit (take n bs)) h) w in
    record {
      digits = ap (λ c. if c then b ∷ front is_digit bs else []) d ∙ ap (λ x. b ∷ x) later.digits;
      suffix = ap (λ c. if c then behind is_digit bs else b ∷ bs) d ∙ later.suffix;
    }

-- A literal by the cut of its text.
by_cut : (text digits suffix : List ℕ) (n : ℕ) → list_all is_digit (take n text) ≡ true → begins is_digit (drop n text) ≡ false → digits ≡ take n text → suffix ≡ drop n text
    → (if has_leading_zero digits then None else literal_with (digits_value 10 digits) suffix) ≡ literal_of text
by_cut text digits suffix n h w d s =
    let c = cut_at n text h w in
    let e : digits ≡ front is_digit text = d ∙ sym c.digits in
    let f : suffix ≡ behind is_digit text = s ∙ sym c.suffix in
    ap (λ x. if has_leading_zero x then None else literal_with (digits_value 10 x) suffix) e ∙ ap (λ x. if has_leading_zero (front is_digit text) then None else literal_with (digits_value 10 (front is_digit text)) x) f

module _ (text digits suffix : List ℕ) (n : ℕ) (h : list_all is_digit (take n text) ≡ true) (w : begins is_digit (drop n text) ≡ false) (d : digits ≡ take n text) (s : suffix ≡ drop n text) (z : Bool) (test : z ≡ has_leading_zero digits) where
  pub zero_first : z ≡ true → None ≡ literal_of text
  zero_first e = ap (λ c. if c then None else literal_with (digits_value 10 digits) suffix) (sym (sym test ∙ e)) ∙ by_cut text digits suffix n h w d s

  of_value : z ≡ false → literal_with (digits_value 10 digits) suffix ≡ literal_of text
  of_value e = ap (λ c. if c then None else literal_with (digits_value 10 digits) suffix) (sym (sym test ∙ e)) ∙ by_cut text digits suffix n h w d s

  value_is : value_from 0 digits ≡ digits_value 10 digits
  value_is = folds 0 digits (subst (λ (x : List ℕ). list_all is_digit x ≡ true) (sym d) h)

  pub small_value : (value : ℕ) (r : Option CNumber) → z ≡ false → value ≡ value_from 0 digits → r ≡ literal_with value suffix → r ≡ literal_of text
  small_value value r e is made = made ∙ ap (λ v. literal_with v suffix) (is ∙ value_is) ∙ of_value e

  pub large_value : z ≡ false → (value_from 0 digits < 2 ^ 64 → ⊥) → None ≡ literal_of text
  large_value e large = none (digits_value 10 digits) (λ k. large (subst (λ (v : ℕ). v < 2 ^ 64) (sym value_is) k)) ∙ of_value e
    where
      at_least : (v m : ℕ) → m ≤ 2 ^ 64 → (v < 2 ^ 64 → ⊥) → (b : Bool) → nat_lt v m ≡ b → b ≡ false
      at_least v m le k false t = refl
      at_least v m le k true t = let less : v < m = grind (arith, nat_tests, t) in absurd (k (omega (arith, le, less)))

      none : (v : ℕ) → (v < 2 ^ 64 → ⊥) → None ≡ literal_with v suffix
      none v k =
          let a = at_least v (2 ^ 31) (omega arith) k (nat_lt v (2 ^ 31)) refl in
          let b = at_least v (2 ^ 32) (omega arith) k (nat_lt v (2 ^ 32)) refl in
          let c = at_least v (2 ^ 64) (omega arith) k (nat_lt v (2 ^ 64)) refl in
          by_suffix (bytes_eq suffix []) (bytes_eq suffix (codes "u")) (bytes_eq suffix (codes "ull")) a b c
        where
          by_suffix : {p q r : Bool} (x y t : Bool) → p ≡ false → q ≡ false → r ≡ false → None ≡ (if x then (if p then Some (Int v) else None) else (if y then (if q then Some (Unsigned v) else None) else (if t then (if r then Some (Long v) else None) else None)))
          by_suffix true y t a b c = rw a refl
          by_suffix false true t a b c = rw b refl
          by_suffix false false true a b c = rw c refl
          by_suffix false false false a b c = refl
