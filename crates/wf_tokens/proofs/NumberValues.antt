-- Values of digits, and that numbers are runs that begin with a digit.
use Rattle.std.proofs.Common.{◌≡◌, ℕ, ◌+◌, ◌*◌, ◌≤◌, ◌<◌, ◌^◌, Bool, true, false, ◌||◌, ◌&&◌, List, [], ◌∷◌, length, drop, refl, sym, ◌∙◌, ap, cond, suc, zero, get_or, arith, Option, Some, None}
use Rattle.std.specs.List.{list_all}
use Rattle.std.proofs.Math.Seq.{drop-cons}
use Rattle.std.proofs.lemmas.List.{drop_all}
use Rattle.std.proofs.lemmas.Option.{cond_some}
use Rattle.wf_tokens.specs.Runs.{is_digit, is_run, begins}
use Rattle.wf_tokens.specs.Numbers.{digit_value, is_digit_of, is_underscore, ends, is_digits, value_with, value_from, digits_value, is_zero, base_of_mark, marked_base, has_leading_zero, value_in, number_of}
use Rattle.wf_tokens.proofs.ByteClasses.{decimal_digit, based_run, underscore_run, zero_digit, digit_run, mark_is}
use Rattle.wf_tokens.proofs.Tables.{both}

-- A digit more makes no value smaller.
pub value_with-grows : (base value byte : ℕ) → 0 < base → value ≤ value_with base value byte
value_with-grows zero value byte h = absurd (omega arith)
value_with-grows (suc base) value byte h = by_test (is_underscore byte)
  where
    by_test : (b : Bool) → value ≤ cond b value (value * suc base + digit_value byte)
    by_test true = omega arith
    by_test false = omega arith

pub value_from-grows : (base value : ℕ) (digits : List ℕ) → 0 < base → value ≤ value_from base value digits
value_from-grows base value [] h = omega arith
value_from-grows base value (byte ∷ rest) h = omega (arith, value_with-grows base value byte h, value_from-grows base (value_with base value byte) rest h)

-- Where a value is too large, so is that of all digits.
pub too_large : (base value n : ℕ) (digits : List ℕ) → 0 < base → n < length digits → value_from base value (drop n digits) ≡ value_from base 0 digits → (value_with base value (get_or digits n 0) < 2 ^ 64 → ⊥) → value_from base 0 digits < 2 ^ 64 → ⊥
too_large base value n digits some within is large small =
    let cut : drop n digits ≡ get_or digits n 0 ∷ drop (suc n) digits = drop-cons digits n 0 within in
    let grows = value_from-grows base (value_with base value (get_or digits n 0)) (drop (suc n) digits) some in
    let whole : value_from base (value_with base value (get_or digits n 0)) (drop (suc n) digits) ≡ value_from base 0 digits = sym (ap (value_from base value) cut) ∙ is in
    large (omega (arith, grows, whole, small))

pub record IsWhole (base value : ℕ) (digits : List ℕ) : Type 0 where
  pub small : value_from base 0 digits < 2 ^ 64
  pub same : value ≡ value_from base 0 digits

pub at_end : (base value n : ℕ) (digits : List ℕ) → length digits ≤ n → value < 2 ^ 64 → value_from base value (drop n digits) ≡ value_from base 0 digits → IsWhole base value digits
at_end base value n digits ends small is =
    let same : value ≡ value_from base 0 digits = sym (ap (value_from base value) (drop_all n digits ends)) ∙ is in
    record { small = omega (arith, same, small); same = same }

-- A number is a run that begins with a digit.
pub record IsNumberRun (text : List ℕ) : Type 0 where
  pub first : begins is_digit text ≡ true
  pub run : list_all is_run text ≡ true

pub digits_run : (base : ℕ) (text : List ℕ) → base ≤ 16 → list_all (λ byte. is_digit_of base byte || is_underscore byte) text ≡ true → list_all is_run text ≡ true
digits_run base [] small h = refl
digits_run base (byte ∷ rest) small h =
    let parts = both (is_digit_of base byte || is_underscore byte) (list_all (λ b. is_digit_of base b || is_underscore b) rest) h in
    rw (by_test (is_digit_of base byte) refl parts.left) (digits_run base rest small parts.right)
  where
    by_test : (b : Bool) → is_digit_of base byte ≡ b → (b || is_underscore byte) ≡ true → is_run byte ≡ true
    by_test true e g = based_run base byte small e
    by_test false e g = underscore_run byte g

pub record AreDigits (base : ℕ) (text : List ℕ) : Type 0 where
  pub first : begins (is_digit_of base) text ≡ true
  pub run : list_all is_run text ≡ true

pub digits_are : (base value : ℕ) (text : List ℕ) → base ≤ 16 → digits_value base text ≡ Some value → AreDigits base text
digits_are base value text small h =
    let test = (cond_some (is_digits base text) (value_from base 0 text) value h).0 in
    let parts = both (begins (is_digit_of base) text && ends (is_digit_of base) text) (list_all (λ b. is_digit_of base b || is_underscore b) text) test in
    record {
      first = (both (begins (is_digit_of base) text) (ends (is_digit_of base) text) parts.left).left;
      run = digits_run base text small parts.right;
    }

pub begins_decimal : (text : List ℕ) → begins (is_digit_of 10) text ≡ true → begins is_digit text ≡ true
begins_decimal [] h = h
begins_decimal (byte ∷ rest) h = decimal_digit byte h

pub decimal_run : (value : ℕ) (text : List ℕ) → cond (has_leading_zero text) None (digits_value 10 text) ≡ Some value → IsNumberRun text
decimal_run value text h = by_test (has_leading_zero text) h
  where
    by_test : (b : Bool) → cond b None (digits_value 10 text) ≡ Some value → IsNumberRun text
    by_test true g = absurd cc
    by_test false g =
        let digits = digits_are 10 value text (omega arith) g in
        record { first = begins_decimal text digits.first; run = digits.run }

pub marked_run : (base value : ℕ) (text : List ℕ) → marked_base text ≡ Some base → digits_value base (drop 2 text) ≡ Some value → IsNumberRun text
marked_run base value [] h g = absurd cc
marked_run base value (first ∷ []) h g = absurd cc
marked_run base value (first ∷ mark ∷ rest) h g = by_test (is_zero first) refl h
  where
    by_test : (b : Bool) → is_zero first ≡ b → cond b (base_of_mark mark) None ≡ Some base → IsNumberRun (first ∷ mark ∷ rest)
    by_test true e k =
        let marked = mark_is mark base k in
        let digit = zero_digit first e in
        record { first = digit; run = rw (digit_run first digit, marked.run) (digits_are base value rest marked.small g).run }
    by_test false e k = absurd cc

pub number_run : (value : ℕ) (text : List ℕ) → number_of text ≡ Some value → IsNumberRun text
number_run value text h = by_base (marked_base text) refl h
  where
    by_base : (o : Option ℕ) → marked_base text ≡ o → value_in o text ≡ Some value → IsNumberRun text
    by_base None e g = decimal_run value text g
    by_base (Some base) e g = marked_run base value text e g
