-- Classes of bytes, and the longest front of a class.
use Rattle.std.specs.Prelude.{ℕ, Bool, false, ◌||◌, ◌&&◌, not, List, [], ◌∷◌, nat_eq, nat_le, if◌then◌else◌}

abbrev pub is_between : (low high byte : ℕ) → Bool
is_between low high byte = nat_le low byte && nat_le byte high

-- `a` to `z`, `A` to `Z`, and `_`, which stands where a letter stands.
abbrev pub is_letter : ℕ → Bool
is_letter byte = is_between 97 122 byte || is_between 65 90 byte || nat_eq byte 95

abbrev pub is_digit : ℕ → Bool
is_digit byte = is_between 48 57 byte

-- What names, words and numbers are made of.
abbrev pub is_run : ℕ → Bool
is_run byte = is_letter byte || is_digit byte

abbrev pub is_quote : ℕ → Bool
is_quote byte = nat_eq byte 34

-- What may stand inside a text: all that can be printed but the quote and the backslash.
abbrev pub is_text_byte : ℕ → Bool
is_text_byte byte = is_between 32 126 byte && not (nat_eq byte 34) && not (nat_eq byte 92)

-- The first byte, if there is one, passes the test.
abbrev pub begins : (ℕ → Bool) → List ℕ → Bool
begins test [] = false
begins test (byte ∷ _) = test byte

-- The first of some bytes, and 0 where there is none.
abbrev pub first_byte : List ℕ → ℕ
first_byte [] = 0
first_byte (byte ∷ bytes) = byte

-- The bytes up to the first one that fails the test.
abbrev pub front : (ℕ → Bool) → List ℕ → List ℕ
front test [] = []
front test (byte ∷ rest) = if test byte then byte ∷ front test rest else []
