-- The token that stands at the front of bytes, by what its first byte is: a run of letters, digits and `_`, a
-- string, or a symbol of one or two bytes.
use Rattle.std.specs.Prelude.{◌≡◌, ◌++◌, ℕ, ◌^◌, Bool, false, ◌&&◌, not, nat_eq, nat_lt, List, [], ◌∷◌, length, Option, Some, None, codes, if◌then◌else◌}
use Rattle.std.specs.Option.{option_map}
use Rattle.std.specs.Str.{bytes_eq}
use Rattle.std.specs.Str.Parse.{digits_value}
use Rattle.c_text.specs.declared.kinds.CNumber.{CNumber}
use Rattle.c_text.specs.declared.kinds.CNumber.TheVariants.{Int, Unsigned, Long}
use Rattle.c_text.specs.declared.kinds.COp.TheVariants as op
use Rattle.c_text.specs.declared.tokens.CWord.{CWord}
use Rattle.c_text.specs.declared.tokens.CWord.TheVariants as word
use Rattle.c_text.specs.declared.tokens.CMark.TheVariants as mark
use Rattle.c_text.specs.CSpelling.{CToken, keyword, named, literal, quoted, operator, marked, token_bytes, is_between, is_reserved, has_double_question, IsWhole}
use Rattle.c_read_grammar.specs.Texts.{IsToken}

abbrev pub is_digit : ℕ → Bool
is_digit b = is_between 48 57 b

-- The first byte, if there is one, passes the test.
abbrev pub begins : (ℕ → Bool) → List ℕ → Bool
begins test [] = false
begins test (b ∷ bs) = test b

-- The bytes up to the first one that fails the test, and those from it on.
abbrev pub front : (ℕ → Bool) → List ℕ → List ℕ
front test [] = []
front test (b ∷ bs) = if test b then b ∷ front test bs else []

abbrev pub behind : (ℕ → Bool) → List ℕ → List ℕ
behind test [] = []
behind test (b ∷ bs) = if test b then behind test bs else b ∷ bs

-- the word that a run spells
abbrev pub word_of : List ℕ → Option CWord
word_of run =
    if bytes_eq run (codes "typedef") then Some word.Typedef else (
    if bytes_eq run (codes "struct") then Some word.Struct else (
    if bytes_eq run (codes "static") then Some word.Static else (
    if bytes_eq run (codes "inline") then Some word.Inline else (
    if bytes_eq run (codes "const") then Some word.Const else (
    if bytes_eq run (codes "char") then Some word.Char else (
    if bytes_eq run (codes "void") then Some word.Void else (
    if bytes_eq run (codes "uint8_t") then Some word.Uint8 else (
    if bytes_eq run (codes "uint16_t") then Some word.Uint16 else (
    if bytes_eq run (codes "uint32_t") then Some word.Uint32 else (
    if bytes_eq run (codes "uint64_t") then Some word.Uint64 else (
    if bytes_eq run (codes "size_t") then Some word.SizeT else (
    if bytes_eq run (codes "_Bool") then Some word.Bool else (
    if bytes_eq run (codes "goto") then Some word.Goto else (
    if bytes_eq run (codes "if") then Some word.If else (
    if bytes_eq run (codes "else") then Some word.Else else (
    if bytes_eq run (codes "while") then Some word.While else (
    if bytes_eq run (codes "switch") then Some word.Switch else (
    if bytes_eq run (codes "return") then Some word.Return else (
    if bytes_eq run (codes "case") then Some word.Case else (
    if bytes_eq run (codes "default") then Some word.Default else (
    if bytes_eq run (codes "sizeof") then Some word.Sizeof else None)))))))))))))))))))))

-- A run that begins with no digit is a name where no keyword is spelt like it.
abbrev pub word_token : List ℕ → Option CToken
word_token run = if is_reserved run then option_map keyword (word_of run) else Some (named run)

-- More than one digit, the first of them 0.
abbrev pub has_leading_zero : List ℕ → Bool
has_leading_zero digits = nat_lt 1 (length digits) && begins (λ b. nat_eq b 48) digits

-- a literal of this value and suffix
abbrev pub literal_with : (value : ℕ) → (suffix : List ℕ) → Option CNumber
literal_with value suffix =
    if bytes_eq suffix [] then (if nat_lt value (2 ^ 31) then Some (Int value) else None) else (
    if bytes_eq suffix (codes "u") then (if nat_lt value (2 ^ 32) then Some (Unsigned value) else None) else (
    if bytes_eq suffix (codes "ull") then (if nat_lt value (2 ^ 64) then Some (Long value) else None) else None))

-- A run that begins with a digit is a literal where its digits have no 0 at the front and its suffix fits its value.
abbrev pub literal_of : List ℕ → Option CNumber
literal_of run = if has_leading_zero (front is_digit run) then None else literal_with (digits_value 10 (front is_digit run)) (behind is_digit run)

abbrev pub run_token : List ℕ → Option CToken
run_token run = if begins is_digit run then option_map literal (literal_of run) else word_token run

-- A string of these bytes, with a quote after them or not.
abbrev pub string_token : (inner : List ℕ) → (closed : Bool) → Option CToken
string_token inner closed = if closed && not (has_double_question inner) then Some (quoted inner) else None

-- The second byte, if there is one, is this one.
abbrev pub next_is : ℕ → List ℕ → Bool
next_is c [] = false
next_is c (b ∷ bs) = nat_eq b c

-- The symbol that a byte and those after it begin with.
abbrev pub symbol_token : ℕ → List ℕ → Option CToken
symbol_token b bs =
    if nat_eq b 43 then Some (operator op.Add) else (
    if nat_eq b 45 then Some (if next_is 62 bs then marked mark.Arrow else operator op.Sub) else (
    if nat_eq b 42 then Some (operator op.Mul) else (
    if nat_eq b 47 then Some (operator op.Div) else (
    if nat_eq b 37 then Some (operator op.Rem) else (
    if nat_eq b 60 then Some (if next_is 60 bs then operator op.Shl else (if next_is 61 bs then operator op.Le else operator op.Lt)) else (
    if nat_eq b 62 then Some (if next_is 62 bs then operator op.Shr else (if next_is 61 bs then operator op.Ge else operator op.Gt)) else (
    if nat_eq b 38 then Some (if next_is 38 bs then operator op.Both else operator op.BitAnd) else (
    if nat_eq b 124 then (Some (if next_is 124 bs then operator op.Either else operator op.BitOr)) else (
    if nat_eq b 94 then Some (operator op.BitXor) else (
    if nat_eq b 61 then Some (if next_is 61 bs then operator op.Eq else marked mark.Assign) else (
    if nat_eq b 33 then Some (if next_is 61 bs then operator op.Ne else marked mark.Not) else (
    if nat_eq b 40 then Some (marked mark.OpenParen) else (
    if nat_eq b 41 then Some (marked mark.CloseParen) else (
    if nat_eq b 91 then Some (marked mark.OpenBracket) else (
    if nat_eq b 93 then Some (marked mark.CloseBracket) else (
    if nat_eq b 123 then Some (marked mark.OpenBrace) else (
    if nat_eq b 125 then Some (marked mark.CloseBrace) else (
    if nat_eq b 44 then Some (marked mark.Comma) else (
    if nat_eq b 59 then Some (marked mark.Semicolon) else (
    if nat_eq b 58 then Some (marked mark.Colon) else (
    if nat_eq b 63 then Some (marked mark.Question) else (
    if nat_eq b 126 then Some (marked mark.Complement) else None))))))))))))))))))))))

-- This token stands at the front of the bytes, and `tail` after it.
pub record Stands (t : CToken) (bytes tail : List ℕ) : Type 0 where
  pub lawful : IsToken t
  pub cut : bytes ≡ token_bytes t ++ tail
  pub whole : IsWhole t tail
