-- The spelling of the tokens of the C subset: words, names, literals, strings and marks (ISO/IEC 9899:1999, 6.4).
use Rattle.std.specs.Prelude.{◌≡◌, ℕ, ◌<◌, ◌^◌, Bool, true, false, not, ◌&&◌, ◌||◌, nat_eq, nat_le, List, [], ◌∷◌, ◌++◌, ⊤, codes, decimal}
use Rattle.std.specs.List.{list_all, list_any}
use Rattle.std.specs.Str.{bytes_eq}
use Rattle.c_text.specs.declared.kinds.CNumber.{CNumber}
use Rattle.c_text.specs.declared.kinds.CNumber.TheVariants.{Int, Unsigned, Long}
use Rattle.c_text.specs.declared.kinds.COp.{COp}
use Rattle.c_text.specs.declared.kinds.COp.TheVariants.{Add, Sub, Mul, Div, Rem, Shl, Shr, BitAnd, BitOr, BitXor, Lt, Le, Gt, Ge, Eq, Ne, Both, Either}
use Rattle.c_text.specs.declared.tokens.CWord.{CWord}
use Rattle.c_text.specs.declared.tokens.CWord.TheVariants as word
use Rattle.c_text.specs.declared.tokens.CMark.{CMark}
use Rattle.c_text.specs.declared.tokens.CMark.TheVariants as mark

pub data CToken : Type 0 where
  keyword : CWord → CToken
  named : (name : List ℕ) → CToken
  literal : CNumber → CToken
  quoted : (bytes : List ℕ) → CToken
  operator : COp → CToken
  marked : CMark → CToken

abbrev pub word_bytes : CWord → List ℕ
word_bytes word.Typedef = codes "typedef"
word_bytes word.Struct = codes "struct"
word_bytes word.Static = codes "static"
word_bytes word.Inline = codes "inline"
word_bytes word.Const = codes "const"
word_bytes word.Char = codes "char"
word_bytes word.Void = codes "void"
word_bytes word.Uint8 = codes "uint8_t"
word_bytes word.Uint16 = codes "uint16_t"
word_bytes word.Uint32 = codes "uint32_t"
word_bytes word.Uint64 = codes "uint64_t"
word_bytes word.SizeT = codes "size_t"
word_bytes word.Bool = codes "_Bool"
word_bytes word.Goto = codes "goto"
word_bytes word.If = codes "if"
word_bytes word.Else = codes "else"
word_bytes word.While = codes "while"
word_bytes word.Switch = codes "switch"
word_bytes word.Return = codes "return"
word_bytes word.Case = codes "case"
word_bytes word.Default = codes "default"
word_bytes word.Sizeof = codes "sizeof"

abbrev pub op_bytes : COp → List ℕ
op_bytes Add = codes "+"
op_bytes Sub = codes "-"
op_bytes Mul = codes "*"
op_bytes Div = codes "/"
op_bytes Rem = codes "%"
op_bytes Shl = codes "<<"
op_bytes Shr = codes ">>"
op_bytes BitAnd = codes "&"
op_bytes BitOr = codes "|"
op_bytes BitXor = codes "^"
op_bytes Lt = codes "<"
op_bytes Le = codes "<="
op_bytes Gt = codes ">"
op_bytes Ge = codes ">="
op_bytes Eq = codes "=="
op_bytes Ne = codes "!="
op_bytes Both = codes "&&"
op_bytes Either = codes "||"

abbrev pub mark_bytes : CMark → List ℕ
mark_bytes mark.OpenParen = codes "("
mark_bytes mark.CloseParen = codes ")"
mark_bytes mark.OpenBracket = codes "["
mark_bytes mark.CloseBracket = codes "]"
mark_bytes mark.OpenBrace = codes "{"
mark_bytes mark.CloseBrace = codes "}"
mark_bytes mark.Comma = codes ","
mark_bytes mark.Semicolon = codes ";"
mark_bytes mark.Colon = codes ":"
mark_bytes mark.Question = codes "?"
mark_bytes mark.Assign = codes "="
mark_bytes mark.Arrow = codes "->"
mark_bytes mark.Not = codes "!"
mark_bytes mark.Complement = codes "~"

abbrev pub literal_bytes : CNumber → List ℕ
literal_bytes (Int n) = decimal n
literal_bytes (Unsigned n) = decimal n ++ codes "u"
literal_bytes (Long n) = decimal n ++ codes "ull"

abbrev pub token_bytes : CToken → List ℕ
token_bytes (keyword w) = word_bytes w
token_bytes (named n) = n
token_bytes (literal n) = literal_bytes n
token_bytes (quoted bytes) = 34 ∷ (bytes ++ 34 ∷ [])
token_bytes (operator op) = op_bytes op
token_bytes (marked m) = mark_bytes m

-- an `int` literal is at most 2147483647
abbrev pub IsLiteral : CNumber → Type 0
IsLiteral (Int n) = n < 2 ^ 31
IsLiteral (Unsigned n) = n < 2 ^ 32
IsLiteral (Long n) = n < 2 ^ 64

abbrev pub is_between : ℕ → ℕ → ℕ → Bool
is_between low high b = nat_le low b && nat_le b high

-- a letter or `_`
abbrev pub begins_name : ℕ → Bool
begins_name b = is_between 97 122 b || (is_between 65 90 b || nat_eq b 95)

-- a letter, a digit or `_`
abbrev pub is_word_byte : ℕ → Bool
is_word_byte b = begins_name b || is_between 48 57 b

-- The keywords of C99, and the type names that the subset uses as words.
abbrev pub reserved_words : List (List ℕ)
reserved_words = codes "auto" ∷ codes "break" ∷ codes "case" ∷ codes "char" ∷ codes "const" ∷ codes "continue" ∷ codes "default" ∷ codes "do" ∷ codes "double" ∷ codes "else" ∷ codes "enum" ∷ codes "extern" ∷ codes "float" ∷ codes "for" ∷ codes "goto" ∷ codes "if" ∷ codes "inline" ∷ codes "int" ∷ codes "long" ∷ codes "register" ∷ codes "restrict" ∷ codes "return" ∷ codes "short" ∷ codes "signed" ∷ codes "sizeof" ∷ codes "static" ∷ codes "struct" ∷ codes "switch" ∷ codes "typedef" ∷ codes "union" ∷ codes "unsigned" ∷ codes "void" ∷ codes "volatile" ∷ codes "while" ∷ codes "_Bool" ∷ codes "_Complex" ∷ codes "_Imaginary" ∷ codes "uint8_t" ∷ codes "uint16_t" ∷ codes "uint32_t" ∷ codes "uint64_t" ∷ codes "size_t" ∷ []

unfoldable pub is_reserved : List ℕ → Bool
is_reserved word = list_any (λ other. bytes_eq word other) reserved_words

abbrev pub is_word : List ℕ → Bool
is_word [] = false
is_word (b ∷ bs) = begins_name b && list_all is_word_byte bs

abbrev pub is_name : List ℕ → Bool
is_name word = is_word word && not (is_reserved word)

-- a byte that may stand in a string: neither `"` nor `\`
abbrev pub is_string_byte : ℕ → Bool
is_string_byte b = is_between 32 126 b && (not (nat_eq b 34) && not (nat_eq b 92))

-- two `?` in a row, which may begin a trigraph
abbrev pub has_double_question : List ℕ → Bool
has_double_question [] = false
has_double_question (a ∷ []) = false
has_double_question (a ∷ b ∷ bs) = (nat_eq a 63 && nat_eq b 63) || has_double_question (b ∷ bs)

abbrev pub is_string : List ℕ → Bool
is_string bytes = list_all is_string_byte bytes && not (has_double_question bytes)

-- Spaces and line feeds separate tokens.
abbrev pub is_gap_byte : ℕ → Bool
is_gap_byte b = nat_eq b 32 || nat_eq b 10

abbrev pub IsGap : List ℕ → Type 0
IsGap gap = list_all is_gap_byte gap ≡ true

-- a longer token begins with this one and the byte
abbrev pub op_goes_on : COp → ℕ → Bool
op_goes_on Sub b = nat_eq b 62
op_goes_on Lt b = nat_eq b 60 || nat_eq b 61
op_goes_on Gt b = nat_eq b 62 || nat_eq b 61
op_goes_on BitAnd b = nat_eq b 38
op_goes_on BitOr b = nat_eq b 124
op_goes_on _ b = false

abbrev pub mark_goes_on : CMark → ℕ → Bool
mark_goes_on mark.Assign b = nat_eq b 61
mark_goes_on mark.Not b = nat_eq b 61
mark_goes_on _ b = false

abbrev pub goes_on : CToken → ℕ → Bool
goes_on (keyword w) b = is_word_byte b
goes_on (named n) b = is_word_byte b
goes_on (literal n) b = is_word_byte b
goes_on (quoted bytes) b = false
goes_on (operator op) b = op_goes_on op b
goes_on (marked m) b = mark_goes_on m b

-- the token is the longest that can stand before these bytes
abbrev pub IsWhole : CToken → List ℕ → Type 0
IsWhole t [] = ⊤
IsWhole t (b ∷ bs) = goes_on t b ≡ false

-- The first token of `bytes` is `t`, and `rest` stands after it.
pub record ReadsToken (t : CToken) (bytes rest : List ℕ) : Type 0 where
  pub gap : List ℕ
  pub blank : IsGap gap
  pub cut : bytes ≡ gap ++ (token_bytes t ++ rest)
  pub whole : IsWhole t rest

-- The tokens of `bytes` are these.
abbrev pub Spells : List CToken → List ℕ → Type 0
Spells [] bytes = IsGap bytes
Spells (t ∷ ts) bytes = (rest : List ℕ) × ReadsToken t bytes rest × Spells ts rest

-- The three lines that each text begins with.
abbrev pub includes : List ℕ
includes = codes "#include <stddef.h>\n#include <stdint.h>\n#include <string.h>\n"
