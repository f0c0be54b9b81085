-- What a word spells: a name, a number, bytes, or a command.
use Rattle.std.specs.Prelude.{ℕ, ◌+◌, ◌-◌, ◌*◌, Bool, true, false, not, ◌&&◌, ◌||◌, List, [], ◌∷◌, take, drop, Option, Some, None, Result, Ok, Err, nat_eq, nat_le, nat_lt, if◌then◌else◌, codes}
use Rattle.std.specs.List.{list_all, position}
use Rattle.std.specs.Option.{option_map}
use Rattle.std.specs.Str.{bytes_eq}
use Rattle.hex.specs.Hex.{decode_of}
use Rattle.hex.specs.declared.error.FromHexError.{FromHexError}
use Rattle.wf_script_rules.specs.declared.rules.XRule.{XRule}
use Rattle.wf_script_rules.specs.declared.rules.XRule.TheVariants.{X3, X4}
use Rattle.wf_script_rules.specs.declared.rules.Verb.{Verb}
use Rattle.wf_script_rules.specs.declared.rules.Verb.TheVariants as verb
use Rattle.wf_script_rules.specs.Text.{begins}

-- What follows a result; the first refusal stays.
infixl 10 ◌>>=◌
abbrev pub ◌>>=◌ : {E A B : Type 0} → Result A E → (A → Result B E) → Result B E
Ok x >>= f = f x
Err e >>= f = Err e

-- Something has to hold; where it doesn't, a rule is broken.
abbrev pub demand : Bool → XRule → Result (Unit {0}) XRule
demand true rule = Ok tt
demand false rule = Err rule

abbrev pub is_lower : ℕ → Bool
is_lower byte = nat_le 97 byte && nat_le byte 122

abbrev pub is_digit : ℕ → Bool
is_digit byte = nat_le 48 byte && nat_le byte 57

-- A lower-case letter, a digit or `_`.
abbrev pub is_name_byte : ℕ → Bool
is_name_byte byte = is_lower byte || is_digit byte || nat_eq byte 95

abbrev pub is_value_word : List ℕ → Bool
is_value_word word = bytes_eq word (codes "null") || bytes_eq word (codes "true") || bytes_eq word (codes "false")

-- A name that a line may declare.
abbrev pub is_name : List ℕ → Bool
is_name word = begins is_lower word && list_all is_name_byte word && not (is_value_word word)

-- Decimal digits without a sign; zeros may lead.
abbrev pub is_number : List ℕ → Bool
is_number word = begins is_digit word && list_all is_digit word

-- The value of digits after those whose value is `value`.
abbrev pub value_from : (value : ℕ) → List ℕ → ℕ
value_from value [] = value
value_from value (digit ∷ digits) = value_from (value * 10 + (digit - 48)) digits

-- A number that is at most `most`.
unfoldable pub number_up_to : (most : ℕ) → List ℕ → Result ℕ XRule
number_up_to most word =
    if not (is_number word) then Err X3
    else if nat_lt most (value_from 0 word) then Err X4
    else Ok (value_from 0 word)

abbrev pub unless_misspelt : Result (List ℕ) FromHexError → Result (List ℕ) XRule
unless_misspelt (Ok bytes) = Ok bytes
unless_misspelt (Err _) = Err X3

-- Bytes as two hexadecimal digits each, or `-` for none.
unfoldable pub bytes_spelt : List ℕ → Result (List ℕ) XRule
bytes_spelt word = if bytes_eq word (codes "-") then Ok [] else unless_misspelt (decode_of word)

-- What stands before and after the first byte of this kind.
abbrev pub cut_at : (mark : ℕ) → List ℕ → Option (List ℕ × List ℕ)
cut_at mark word = option_map (λ k. (take k word, drop (k + 1) word)) (position (λ byte. nat_eq byte mark) word)

-- The commands by their words.
unfoldable pub verb_of : List ℕ → Option Verb
verb_of word =
    if bytes_eq word (codes "new") then Some verb.New
    else if bytes_eq word (codes "null") then Some verb.Null
    else if bytes_eq word (codes "init") then Some verb.Init
    else if bytes_eq word (codes "buf") then Some verb.Buf
    else if bytes_eq word (codes "bytes") then Some verb.Bytes
    else if bytes_eq word (codes "put") then Some verb.Put
    else if bytes_eq word (codes "close") then Some verb.Close
    else if bytes_eq word (codes "compact") then Some verb.Compact
    else if bytes_eq word (codes "show") then Some verb.Show
    else if bytes_eq word (codes "turns") then Some verb.Turns
    else if bytes_eq word (codes "call") then Some verb.Call
    else None
