-- The symbols of the language, as they are written, and which of them bytes begin with.
use Rattle.std.specs.Prelude.{ℕ, List, [], ◌∷◌, if◌then◌else◌, nat_eq, ◌++◌, ◌≡◌, ◌≤◌, length, codes}
use Rattle.wf_tokens.specs.declared.symbols.Operator.{Operator}
use Rattle.wf_tokens.specs.declared.symbols.Operator.TheVariants as operator
use Rattle.wf_tokens.specs.declared.symbols.Comparison.{Comparison}
use Rattle.wf_tokens.specs.declared.symbols.Comparison.TheVariants as comparison
use Rattle.wf_tokens.specs.declared.symbols.Symbol.{Symbol}
use Rattle.wf_tokens.specs.declared.symbols.Symbol.TheVariants as symbol

abbrev pub operator_text : Operator → List ℕ
operator_text operator.Add = codes "+"
operator_text operator.Sub = codes "-"
operator_text operator.Mul = codes "*"
operator_text operator.Div = codes "/"
operator_text operator.Rem = codes "%"
operator_text operator.ShiftLeft = codes "<<"
operator_text operator.ShiftRight = codes ">>"
operator_text operator.BitAnd = codes "&"
operator_text operator.BitOr = codes "|"
operator_text operator.BitXor = codes "^"
operator_text operator.ModAdd = codes "~mod+"
operator_text operator.ModSub = codes "~mod-"
operator_text operator.ModMul = codes "~mod*"
operator_text operator.ModShiftLeft = codes "~mod<<"
operator_text operator.SatAdd = codes "~sat+"
operator_text operator.SatSub = codes "~sat-"

-- An assignment by an operator is written as the operator and `=`.
abbrev pub assign_text : Operator → List ℕ
assign_text operator = operator_text operator ++ codes "="

abbrev pub comparison_text : Comparison → List ℕ
comparison_text comparison.Equal = codes "=="
comparison_text comparison.NotEqual = codes "<>"
comparison_text comparison.Less = codes "<"
comparison_text comparison.LessOrEqual = codes "<="
comparison_text comparison.Greater = codes ">"
comparison_text comparison.GreaterOrEqual = codes ">="

abbrev pub symbol_text : Symbol → List ℕ
symbol_text symbol.OpenParen = codes "("
symbol_text symbol.CloseParen = codes ")"
symbol_text symbol.OpenBracket = codes "["
symbol_text symbol.CloseBracket = codes "]"
symbol_text symbol.OpenBrace = codes "{"
symbol_text symbol.CloseBrace = codes "}"
symbol_text symbol.Comma = codes ","
symbol_text symbol.Dot = codes "."
symbol_text symbol.Colon = codes ":"
symbol_text symbol.Semicolon = codes ";"
symbol_text symbol.Question = codes "?"
symbol_text symbol.Exclamation = codes "!"
symbol_text symbol.Equals = codes "="
symbol_text symbol.EqualsQuestion = codes "=?"
symbol_text symbol.DotDot = codes ".."
symbol_text symbol.DotDotEquals = codes "..="
symbol_text (symbol.Compare comparison) = comparison_text comparison
symbol_text (symbol.Operator operator) = operator_text operator
symbol_text (symbol.Assign operator) = assign_text operator

-- The symbols that begin with a byte, the longer ones first.
abbrev pub symbols_from : ℕ → List Symbol
symbols_from byte =
    if nat_eq byte 33 then symbol.Exclamation ∷ [] else
    if nat_eq byte 37 then (symbol.Assign operator.Rem) ∷ (symbol.Operator operator.Rem) ∷ [] else
    if nat_eq byte 38 then (symbol.Assign operator.BitAnd) ∷ (symbol.Operator operator.BitAnd) ∷ [] else
    if nat_eq byte 40 then symbol.OpenParen ∷ [] else
    if nat_eq byte 41 then symbol.CloseParen ∷ [] else
    if nat_eq byte 42 then (symbol.Assign operator.Mul) ∷ (symbol.Operator operator.Mul) ∷ [] else
    if nat_eq byte 43 then (symbol.Assign operator.Add) ∷ (symbol.Operator operator.Add) ∷ [] else
    if nat_eq byte 44 then symbol.Comma ∷ [] else
    if nat_eq byte 45 then (symbol.Assign operator.Sub) ∷ (symbol.Operator operator.Sub) ∷ [] else
    if nat_eq byte 46 then symbol.DotDotEquals ∷ symbol.DotDot ∷ symbol.Dot ∷ [] else
    if nat_eq byte 47 then (symbol.Assign operator.Div) ∷ (symbol.Operator operator.Div) ∷ [] else
    if nat_eq byte 58 then symbol.Colon ∷ [] else
    if nat_eq byte 59 then symbol.Semicolon ∷ [] else
    if nat_eq byte 60 then (symbol.Assign operator.ShiftLeft) ∷ (symbol.Compare comparison.NotEqual) ∷ (symbol.Compare comparison.LessOrEqual) ∷ (symbol.Operator operator.ShiftLeft) ∷ (symbol.Compare comparison.Less) ∷ [] else
    if nat_eq byte 61 then symbol.EqualsQuestion ∷ (symbol.Compare comparison.Equal) ∷ symbol.Equals ∷ [] else
    if nat_eq byte 62 then (symbol.Assign operator.ShiftRight) ∷ (symbol.Compare comparison.GreaterOrEqual) ∷ (symbol.Operator operator.ShiftRight) ∷ (symbol.Compare comparison.Greater) ∷ [] else
    if nat_eq byte 63 then symbol.Question ∷ [] else
    if nat_eq byte 91 then symbol.OpenBracket ∷ [] else
    if nat_eq byte 93 then symbol.CloseBracket ∷ [] else
    if nat_eq byte 94 then (symbol.Assign operator.BitXor) ∷ (symbol.Operator operator.BitXor) ∷ [] else
    if nat_eq byte 123 then symbol.OpenBrace ∷ [] else
    if nat_eq byte 124 then (symbol.Assign operator.BitOr) ∷ (symbol.Operator operator.BitOr) ∷ [] else
    if nat_eq byte 125 then symbol.CloseBrace ∷ [] else
    if nat_eq byte 126 then (symbol.Assign operator.ModShiftLeft) ∷ (symbol.Operator operator.ModShiftLeft) ∷ (symbol.Assign operator.ModAdd) ∷ (symbol.Assign operator.ModSub) ∷ (symbol.Assign operator.ModMul) ∷ (symbol.Assign operator.SatAdd) ∷ (symbol.Assign operator.SatSub) ∷ (symbol.Operator operator.ModAdd) ∷ (symbol.Operator operator.ModSub) ∷ (symbol.Operator operator.ModMul) ∷ (symbol.Operator operator.SatAdd) ∷ (symbol.Operator operator.SatSub) ∷ [] else
    []

-- The bytes begin with the symbol.
pub record BeginsWith (symbol : Symbol) (bytes : List ℕ) : Type 0 where
  pub rest : List ℕ
  pub is : bytes ≡ symbol_text symbol ++ rest

-- Of all symbols with which the bytes begin, this one is the longest.
pub record IsLongestSymbol (symbol : Symbol) (bytes : List ℕ) : Type 0 where
  pub begins : BeginsWith symbol bytes
  pub longest : (other : Symbol) → BeginsWith other bytes → length (symbol_text other) ≤ length (symbol_text symbol)

abbrev pub BeginsNoSymbol : List ℕ → Type 0
BeginsNoSymbol bytes = (symbol : Symbol) → BeginsWith symbol bytes → ⊥
