-- How numbers are written: `0`, decimal digits that don't begin with 0, `0x` or `0X` with hexadecimal digits,
-- `0b` or `0B` with binary digits. Between two digits there may be underscores.
use Rattle.std.specs.Prelude.{ℕ, ◌+◌, ◌-◌, ◌*◌, ◌≤◌, ◌<◌, ◌^◌, ◌≡◌, Bool, false, Option, Some, None, Result, Ok, Err, ◌||◌, ◌&&◌, List, [], ◌∷◌, nat_eq, nat_lt, if◌then◌else◌, slice_get, length, drop, is_some}
use Rattle.std.specs.List.{list_all}
use Rattle.std.specs.Option.{option_map_or}
use Rattle.wf_text.specs.declared.rules.Rule.{Rule}
use Rattle.wf_text.specs.declared.rules.Rule.TheVariants as rule
use Rattle.wf_tokens.specs.Runs.{is_between, begins}

-- The value of a digit of any base up to 16; 16 for what is no digit.
abbrev pub digit_value : ℕ → ℕ
digit_value byte = if is_between 48 57 byte then byte - 48 else if is_between 97 102 byte then byte - 87 else if is_between 65 70 byte then byte - 55 else 16

abbrev pub is_digit_of : (base byte : ℕ) → Bool
is_digit_of base byte = nat_lt (digit_value byte) base

abbrev pub is_underscore : ℕ → Bool
is_underscore byte = nat_eq byte 95

-- The last byte, if there is one, passes the test.
abbrev pub ends : (ℕ → Bool) → List ℕ → Bool
ends test text = option_map_or test (slice_get text (length text - 1)) false

-- Digits and underscores, a digit at both ends.
abbrev pub is_digits : (base : ℕ) → List ℕ → Bool
is_digits base text = begins (is_digit_of base) text && ends (is_digit_of base) text && list_all (λ byte. is_digit_of base byte || is_underscore byte) text

-- The value of digits after those whose value is `value`; underscores count nothing.
abbrev pub value_with : (base value byte : ℕ) → ℕ
value_with base value byte = if is_underscore byte then value else value * base + digit_value byte

abbrev pub value_from : (base value : ℕ) → List ℕ → ℕ
value_from base value [] = value
value_from base value (byte ∷ rest) = value_from base (value_with base value byte) rest

-- The value of digits of this base.
abbrev pub digits_value : (base : ℕ) → List ℕ → Option ℕ
digits_value base text = if is_digits base text then Some (value_from base 0 text) else None

-- The base that a mark tells: `x` and `X` (120 and 88) hexadecimal, `b` and `B` (98 and 66) binary.
abbrev pub base_of_mark : ℕ → Option ℕ
base_of_mark mark = if nat_eq mark 120 || nat_eq mark 88 then Some 16 else if nat_eq mark 98 || nat_eq mark 66 then Some 2 else None

abbrev pub is_zero : ℕ → Bool
is_zero byte = nat_eq byte 48

-- The base that a `0` with a mark after it tells.
abbrev pub marked_base : List ℕ → Option ℕ
marked_base [] = None
marked_base (_ ∷ []) = None
marked_base (first ∷ mark ∷ _) = if is_zero first then base_of_mark mark else None

abbrev pub has_leading_zero : List ℕ → Bool
has_leading_zero text = nat_lt 1 (length text) && begins is_zero text

-- The value of a number whose mark tells this base, or that has no mark.
abbrev pub value_in : Option ℕ → List ℕ → Option ℕ
value_in (Some base) text = digits_value base (drop 2 text)
value_in None text = if has_leading_zero text then None else digits_value 10 text

-- The value of a number, if it is written as numbers are.
abbrev pub number_of : List ℕ → Option ℕ
number_of text = value_in (marked_base text) text

-- What a reader answers to a number: its value if it is below 2^64; S4 if it isn't; S3 if it is misspelt.
abbrev pub AnswersNumber : Result ℕ Rule → Option ℕ → Type 0
AnswersNumber (Ok value) number = (number ≡ Some value) × (value < 2 ^ 64)
AnswersNumber (Err refused) number = (refused ≡ (if is_some number then rule.S4 else rule.S3)) × ((value : ℕ) → number ≡ Some value → 2 ^ 64 ≤ value)
