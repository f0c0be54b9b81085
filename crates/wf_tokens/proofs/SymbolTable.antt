-- The symbols by their first bytes: each stands among those of its own, the longer ones first.
use Rattle.std.proofs.Common.{◌≡◌, ◌∙◌, ◌++◌, [], ◌∷◌, ap, subst, ℕ, Bool, true, not, ◌&&◌, Option, Some, None, List, length, drop, refl, sym, nat_eq, slice_get, IfSome, IfNone}
use Rattle.std.specs.List.{find, starts_with}
use Rattle.std.proofs.lemmas.Slice.Eq.{starts_is}
use Rattle.std.proofs.lemmas.Bool.Decides.{Decides-eqb}
use Rattle.wf_tokens.specs.declared.symbols.Operator.TheVariants as operator
use Rattle.wf_tokens.specs.declared.symbols.Comparison.TheVariants as comparison
use Rattle.wf_tokens.specs.declared.symbols.Symbol.{Symbol}
use Rattle.wf_tokens.specs.declared.symbols.Symbol.TheVariants as symbol
use Rattle.wf_tokens.specs.Symbols.{symbol_text, symbols_from, BeginsWith, IsLongestSymbol, BeginsNoSymbol}
use Rattle.wf_tokens.specs.Runs.{begins, first_byte, is_run, is_quote}
use Rattle.wf_tokens.proofs.Tables.{found-passes, none-passes, found-largest, is_descending}

-- Where a symbol stands among those that begin with its first byte.
pub record Listed (symbol : Symbol) : Type 0 where
  pub index : ℕ
  pub there : slice_get (symbols_from (first_byte (symbol_text symbol))) index ≡ Some symbol
  pub first : begins (nat_eq (first_byte (symbol_text symbol))) (symbol_text symbol) ≡ true
  pub falls : is_descending (λ (s : Symbol). length (symbol_text s)) (symbols_from (first_byte (symbol_text symbol))) ≡ true

pub listed : (symbol : Symbol) → Listed symbol
listed (symbol.Assign operator.ModShiftLeft) = record { index = 0; there = refl; first = refl; falls = refl }
listed (symbol.Operator operator.ModShiftLeft) = record { index = 1; there = refl; first = refl; falls = refl }
listed (symbol.Assign operator.ModAdd) = record { index = 2; there = refl; first = refl; falls = refl }
listed (symbol.Assign operator.ModSub) = record { index = 3; there = refl; first = refl; falls = refl }
listed (symbol.Assign operator.ModMul) = record { index = 4; there = refl; first = refl; falls = refl }
listed (symbol.Assign operator.SatAdd) = record { index = 5; there = refl; first = refl; falls = refl }
listed (symbol.Assign operator.SatSub) = record { index = 6; there = refl; first = refl; falls = refl }
listed (symbol.Operator operator.ModAdd) = record { index = 7; there = refl; first = refl; falls = refl }
listed (symbol.Operator operator.ModSub) = record { index = 8; there = refl; first = refl; falls = refl }
listed (symbol.Operator operator.ModMul) = record { index = 9; there = refl; first = refl; falls = refl }
listed (symbol.Operator operator.SatAdd) = record { index = 10; there = refl; first = refl; falls = refl }
listed (symbol.Operator operator.SatSub) = record { index = 11; there = refl; first = refl; falls = refl }
listed symbol.DotDotEquals = record { index = 0; there = refl; first = refl; falls = refl }
listed (symbol.Assign operator.ShiftLeft) = record { index = 0; there = refl; first = refl; falls = refl }
listed (symbol.Assign operator.ShiftRight) = record { index = 0; there = refl; first = refl; falls = refl }
listed symbol.EqualsQuestion = record { index = 0; there = refl; first = refl; falls = refl }
listed symbol.DotDot = record { index = 1; there = refl; first = refl; falls = refl }
listed (symbol.Compare comparison.Equal) = record { index = 1; there = refl; first = refl; falls = refl }
listed (symbol.Compare comparison.NotEqual) = record { index = 1; there = refl; first = refl; falls = refl }
listed (symbol.Compare comparison.LessOrEqual) = record { index = 2; there = refl; first = refl; falls = refl }
listed (symbol.Compare comparison.GreaterOrEqual) = record { index = 1; there = refl; first = refl; falls = refl }
listed (symbol.Operator operator.ShiftLeft) = record { index = 3; there = refl; first = refl; falls = refl }
listed (symbol.Operator operator.ShiftRight) = record { index = 2; there = refl; first = refl; falls = refl }
listed (symbol.Assign operator.Add) = record { index = 0; there = refl; first = refl; falls = refl }
listed (symbol.Assign operator.Sub) = record { index = 0; there = refl; first = refl; falls = refl }
listed (symbol.Assign operator.Mul) = record { index = 0; there = refl; first = refl; falls = refl }
listed (symbol.Assign operator.Div) = record { index = 0; there = refl; first = refl; falls = refl }
listed (symbol.Assign operator.Rem) = record { index = 0; there = refl; first = refl; falls = refl }
listed (symbol.Assign operator.BitAnd) = record { index = 0; there = refl; first = refl; falls = refl }
listed (symbol.Assign operator.BitOr) = record { index = 0; there = refl; first = refl; falls = refl }
listed (symbol.Assign operator.BitXor) = record { index = 0; there = refl; first = refl; falls = refl }
listed symbol.OpenParen = record { index = 0; there = refl; first = refl; falls = refl }
listed symbol.CloseParen = record { index = 0; there = refl; first = refl; falls = refl }
listed symbol.OpenBracket = record { index = 0; there = refl; first = refl; falls = refl }
listed symbol.CloseBracket = record { index = 0; there = refl; first = refl; falls = refl }
listed symbol.OpenBrace = record { index = 0; there = refl; first = refl; falls = refl }
listed symbol.CloseBrace = record { index = 0; there = refl; first = refl; falls = refl }
listed symbol.Comma = record { index = 0; there = refl; first = refl; falls = refl }
listed symbol.Dot = record { index = 2; there = refl; first = refl; falls = refl }
listed symbol.Colon = record { index = 0; there = refl; first = refl; falls = refl }
listed symbol.Semicolon = record { index = 0; there = refl; first = refl; falls = refl }
listed symbol.Question = record { index = 0; there = refl; first = refl; falls = refl }
listed symbol.Exclamation = record { index = 0; there = refl; first = refl; falls = refl }
listed symbol.Equals = record { index = 2; there = refl; first = refl; falls = refl }
listed (symbol.Compare comparison.Less) = record { index = 4; there = refl; first = refl; falls = refl }
listed (symbol.Compare comparison.Greater) = record { index = 3; there = refl; first = refl; falls = refl }
listed (symbol.Operator operator.Add) = record { index = 1; there = refl; first = refl; falls = refl }
listed (symbol.Operator operator.Sub) = record { index = 1; there = refl; first = refl; falls = refl }
listed (symbol.Operator operator.Mul) = record { index = 1; there = refl; first = refl; falls = refl }
listed (symbol.Operator operator.Div) = record { index = 1; there = refl; first = refl; falls = refl }
listed (symbol.Operator operator.Rem) = record { index = 1; there = refl; first = refl; falls = refl }
listed (symbol.Operator operator.BitAnd) = record { index = 1; there = refl; first = refl; falls = refl }
listed (symbol.Operator operator.BitOr) = record { index = 1; there = refl; first = refl; falls = refl }
listed (symbol.Operator operator.BitXor) = record { index = 1; there = refl; first = refl; falls = refl }

first-joined : (xs ys : List ℕ) → begins (nat_eq (first_byte xs)) xs ≡ true → first_byte (xs ++ ys) ≡ first_byte xs
first-joined [] ys h = absurd (cc h)
first-joined (x ∷ xs) ys h = refl

-- Bytes that begin with a symbol have its first byte.
first-of : (bytes : List ℕ) (symbol : Symbol) → BeginsWith symbol bytes → first_byte bytes ≡ first_byte (symbol_text symbol)
first-of bytes symbol b = ap first_byte b.is ∙ first-joined (symbol_text symbol) b.rest (listed symbol).first

pub begins_with : (bytes : List ℕ) (symbol : Symbol) → starts_with nat_eq bytes (symbol_text symbol) ≡ true → BeginsWith symbol bytes
begins_with bytes symbol h = record { rest = drop (length (symbol_text symbol)) bytes; is = (starts_is Decides-eqb bytes (symbol_text symbol) (starts_with nat_eq bytes (symbol_text symbol)) refl).0 h }

pub starts : (bytes : List ℕ) (symbol : Symbol) → BeginsWith symbol bytes → starts_with nat_eq bytes (symbol_text symbol) ≡ true
starts bytes symbol b = (starts_is Decides-eqb bytes (symbol_text symbol) (starts_with nat_eq bytes (symbol_text symbol)) refl).1 b.rest b.is

abbrev pub found : List ℕ → Option Symbol
found bytes = find (λ symbol. starts_with nat_eq bytes (symbol_text symbol)) (symbols_from (first_byte bytes))

-- What the search finds is the longest.
pub longest_found : (bytes : List ℕ) (symbol : Symbol) → found bytes ≡ Some symbol → IsLongestSymbol symbol bytes
longest_found bytes symbol h = record {
  begins = begins_with bytes symbol (found-passes (λ (s : Symbol). starts_with nat_eq bytes (symbol_text s)) (symbols_from (first_byte bytes)) symbol h);
  longest = λ other b.
      let first = first-of bytes other b in
      let falls = subst (λ (byte : ℕ). is_descending (λ (s : Symbol). length (symbol_text s)) (symbols_from byte) ≡ true) (sym first) (listed other).falls in
      let there = subst (λ (byte : ℕ). slice_get (symbols_from byte) (listed other).index ≡ Some other) (sym first) (listed other).there in
      found-largest (λ (s : Symbol). starts_with nat_eq bytes (symbol_text s)) (λ (s : Symbol). length (symbol_text s)) (symbols_from (first_byte bytes)) symbol (listed other).index other falls h there (starts bytes other b);
}

pub none_found : (bytes : List ℕ) → found bytes ≡ None → BeginsNoSymbol bytes
none_found bytes h symbol b =
    let there = subst (λ (byte : ℕ). slice_get (symbols_from byte) (listed symbol).index ≡ Some symbol) (sym (first-of bytes symbol b)) (listed symbol).there in
    none-passes (λ (s : Symbol). starts_with nat_eq bytes (symbol_text s)) (symbols_from (first_byte bytes)) (listed symbol).index symbol h there (starts bytes symbol b)

pub if_found : (bytes : List ℕ) (o : Option Symbol) → o ≡ found bytes → IfSome o (λ symbol. IsLongestSymbol symbol bytes)
if_found bytes None h = tt
if_found bytes (Some symbol) h = longest_found bytes symbol (sym h)

pub if_none : (bytes : List ℕ) (o : Option Symbol) → o ≡ found bytes → IfNone o (BeginsNoSymbol bytes)
if_none bytes None h = none_found bytes (sym h)
if_none bytes (Some symbol) h = tt

-- A symbol begins with no letter, no digit, no `_`, no quote and no line feed.
abbrev pub is_symbol_byte : ℕ → Bool
is_symbol_byte byte = not (is_run byte) && not (is_quote byte) && not (nat_eq byte 10)

pub symbol_begins : (symbol : Symbol) → begins is_symbol_byte (symbol_text symbol) ≡ true
symbol_begins (symbol.Assign operator.ModShiftLeft) = refl
symbol_begins (symbol.Operator operator.ModShiftLeft) = refl
symbol_begins (symbol.Assign operator.ModAdd) = refl
symbol_begins (symbol.Assign operator.ModSub) = refl
symbol_begins (symbol.Assign operator.ModMul) = refl
symbol_begins (symbol.Assign operator.SatAdd) = refl
symbol_begins (symbol.Assign operator.SatSub) = refl
symbol_begins (symbol.Operator operator.ModAdd) = refl
symbol_begins (symbol.Operator operator.ModSub) = refl
symbol_begins (symbol.Operator operator.ModMul) = refl
symbol_begins (symbol.Operator operator.SatAdd) = refl
symbol_begins (symbol.Operator operator.SatSub) = refl
symbol_begins symbol.DotDotEquals = refl
symbol_begins (symbol.Assign operator.ShiftLeft) = refl
symbol_begins (symbol.Assign operator.ShiftRight) = refl
symbol_begins symbol.EqualsQuestion = refl
symbol_begins symbol.DotDot = refl
symbol_begins (symbol.Compare comparison.Equal) = refl
symbol_begins (symbol.Compare comparison.NotEqual) = refl
symbol_begins (symbol.Compare comparison.LessOrEqual) = refl
symbol_begins (symbol.Compare comparison.GreaterOrEqual) = refl
symbol_begins (symbol.Operator operator.ShiftLeft) = refl
symbol_begins (symbol.Operator operator.ShiftRight) = refl
symbol_begins (symbol.Assign operator.Add) = refl
symbol_begins (symbol.Assign operator.Sub) = refl
symbol_begins (symbol.Assign operator.Mul) = refl
symbol_begins (symbol.Assign operator.Div) = refl
symbol_begins (symbol.Assign operator.Rem) = refl
symbol_begins (symbol.Assign operator.BitAnd) = refl
symbol_begins (symbol.Assign operator.BitOr) = refl
symbol_begins (symbol.Assign operator.BitXor) = refl
symbol_begins symbol.OpenParen = refl
symbol_begins symbol.CloseParen = refl
symbol_begins symbol.OpenBracket = refl
symbol_begins symbol.CloseBracket = refl
symbol_begins symbol.OpenBrace = refl
symbol_begins symbol.CloseBrace = refl
symbol_begins symbol.Comma = refl
symbol_begins symbol.Dot = refl
symbol_begins symbol.Colon = refl
symbol_begins symbol.Semicolon = refl
symbol_begins symbol.Question = refl
symbol_begins symbol.Exclamation = refl
symbol_begins symbol.Equals = refl
symbol_begins (symbol.Compare comparison.Less) = refl
symbol_begins (symbol.Compare comparison.Greater) = refl
symbol_begins (symbol.Operator operator.Add) = refl
symbol_begins (symbol.Operator operator.Sub) = refl
symbol_begins (symbol.Operator operator.Mul) = refl
symbol_begins (symbol.Operator operator.Div) = refl
symbol_begins (symbol.Operator operator.Rem) = refl
symbol_begins (symbol.Operator operator.BitAnd) = refl
symbol_begins (symbol.Operator operator.BitOr) = refl
symbol_begins (symbol.Operator operator.BitXor) = refl

-- Two symbols that are written alike are one.
pub symbol_back : (symbol : Symbol) → found (symbol_text symbol) ≡ Some symbol
symbol_back (symbol.Assign operator.ModShiftLeft) = refl
symbol_back (symbol.Operator operator.ModShiftLeft) = refl
symbol_back (symbol.Assign operator.ModAdd) = refl
symbol_back (symbol.Assign operator.ModSub) = refl
symbol_back (symbol.Assign operator.ModMul) = refl
symbol_back (symbol.Assign operator.SatAdd) = refl
symbol_back (symbol.Assign operator.SatSub) = refl
symbol_back (symbol.Operator operator.ModAdd) = refl
symbol_back (symbol.Operator operator.ModSub) = refl
symbol_back (symbol.Operator operator.ModMul) = refl
symbol_back (symbol.Operator operator.SatAdd) = refl
symbol_back (symbol.Operator operator.SatSub) = refl
symbol_back symbol.DotDotEquals = refl
symbol_back (symbol.Assign operator.ShiftLeft) = refl
symbol_back (symbol.Assign operator.ShiftRight) = refl
symbol_back symbol.EqualsQuestion = refl
symbol_back symbol.DotDot = refl
symbol_back (symbol.Compare comparison.Equal) = refl
symbol_back (symbol.Compare comparison.NotEqual) = refl
symbol_back (symbol.Compare comparison.LessOrEqual) = refl
symbol_back (symbol.Compare comparison.GreaterOrEqual) = refl
symbol_back (symbol.Operator operator.ShiftLeft) = refl
symbol_back (symbol.Operator operator.ShiftRight) = refl
symbol_back (symbol.Assign operator.Add) = refl
symbol_back (symbol.Assign operator.Sub) = refl
symbol_back (symbol.Assign operator.Mul) = refl
symbol_back (symbol.Assign operator.Div) = refl
symbol_back (symbol.Assign operator.Rem) = refl
symbol_back (symbol.Assign operator.BitAnd) = refl
symbol_back (symbol.Assign operator.BitOr) = refl
symbol_back (symbol.Assign operator.BitXor) = refl
symbol_back symbol.OpenParen = refl
symbol_back symbol.CloseParen = refl
symbol_back symbol.OpenBracket = refl
symbol_back symbol.CloseBracket = refl
symbol_back symbol.OpenBrace = refl
symbol_back symbol.CloseBrace = refl
symbol_back symbol.Comma = refl
symbol_back symbol.Dot = refl
symbol_back symbol.Colon = refl
symbol_back symbol.Semicolon = refl
symbol_back symbol.Question = refl
symbol_back symbol.Exclamation = refl
symbol_back symbol.Equals = refl
symbol_back (symbol.Compare comparison.Less) = refl
symbol_back (symbol.Compare comparison.Greater) = refl
symbol_back (symbol.Operator operator.Add) = refl
symbol_back (symbol.Operator operator.Sub) = refl
symbol_back (symbol.Operator operator.Mul) = refl
symbol_back (symbol.Operator operator.Div) = refl
symbol_back (symbol.Operator operator.Rem) = refl
symbol_back (symbol.Operator operator.BitAnd) = refl
symbol_back (symbol.Operator operator.BitOr) = refl
symbol_back (symbol.Operator operator.BitXor) = refl
