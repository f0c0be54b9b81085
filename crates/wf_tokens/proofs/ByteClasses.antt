-- How the classes of bytes stand to one another.
use Rattle.std.proofs.Common.{◌≡◌, ℕ, ◌≤◌, Bool, true, false, ◌||◌, refl, nat_eq, cond, arith, Some, None}
use Rattle.std.proofs.lemmas.Bool.Decides.{nat_tests}
use Rattle.wf_tokens.specs.Runs.{is_letter, is_digit, is_run, is_quote}
use Rattle.wf_tokens.specs.Numbers.{is_digit_of, is_underscore, is_zero, base_of_mark}

pub or_left : (a b : Bool) → a ≡ true → (a || b) ≡ true
or_left true b h = refl
or_left false b h = absurd cc

pub or_right : (a b : Bool) → b ≡ true → (a || b) ≡ true
or_right true b h = refl
or_right false b h = h

pub or_false : (a b : Bool) → (a || b) ≡ false → b ≡ false
or_false true b h = absurd cc
or_false false b h = h

pub letter_run : (byte : ℕ) → is_letter byte ≡ true → is_run byte ≡ true
letter_run byte h = or_left (is_letter byte) (is_digit byte) h

pub digit_run : (byte : ℕ) → is_digit byte ≡ true → is_run byte ≡ true
digit_run byte h = or_right (is_letter byte) (is_digit byte) h

pub no_run_digit : (byte : ℕ) → is_run byte ≡ false → is_digit byte ≡ false
no_run_digit byte h = or_false (is_letter byte) (is_digit byte) h

pub run_no_quote : (byte : ℕ) → is_run byte ≡ true → is_quote byte ≡ false
run_no_quote byte h = grind (arith, nat_tests)

pub letter_no_digit : (byte : ℕ) → is_letter byte ≡ true → is_digit byte ≡ false
letter_no_digit byte h = grind (arith, nat_tests)

pub quote_is : (byte : ℕ) → is_quote byte ≡ true → byte ≡ 34
quote_is byte h = grind (arith, nat_tests)

pub decimal_digit : (byte : ℕ) → is_digit_of 10 byte ≡ true → is_digit byte ≡ true
decimal_digit byte h = grind (arith, nat_tests)

pub based_run : (base byte : ℕ) → base ≤ 16 → is_digit_of base byte ≡ true → is_run byte ≡ true
based_run base byte small h = grind (arith, nat_tests)

pub underscore_run : (byte : ℕ) → is_underscore byte ≡ true → is_run byte ≡ true
underscore_run byte h = grind (arith, nat_tests)

pub zero_digit : (byte : ℕ) → is_zero byte ≡ true → is_digit byte ≡ true
zero_digit byte h = grind (arith, nat_tests)

pub record IsMark (byte base : ℕ) : Type 0 where
  pub run : is_run byte ≡ true
  pub small : base ≤ 16

pub mark_is : (byte base : ℕ) → base_of_mark byte ≡ Some base → IsMark byte base
mark_is byte base h = by_tests (nat_eq byte 120 || nat_eq byte 88) (nat_eq byte 98 || nat_eq byte 66) refl refl h
  where
    by_tests : (hex binary : Bool) → (nat_eq byte 120 || nat_eq byte 88) ≡ hex → (nat_eq byte 98 || nat_eq byte 66) ≡ binary → cond hex (Some 16) (cond binary (Some 2) None) ≡ Some base → IsMark byte base
    by_tests true binary e f g = let is : 16 ≡ base = cc in record { run = grind (arith, nat_tests); small = omega arith }
    by_tests false true e f g = let is : 2 ≡ base = cc in record { run = grind (arith, nat_tests); small = omega arith }
    by_tests false false e f g = absurd cc
