-- No piece has a line feed, so the place after it is on its own line.
use Rattle.std.proofs.Common.{◌≡◌, ℕ, ◌+◌, Bool, true, false, not, List, [], ◌∷◌, ◌++◌, length, refl, ◌∙◌, ap, nat_eq, arith}
use Rattle.std.specs.List.{list_all}
use Rattle.std.proofs.lemmas.Bool.Decides.{nat_tests}
use Rattle.wf_text.specs.declared.place.Place.{Place}
use Rattle.wf_tokens.specs.declared.kinds.TokenKind.{TokenKind}
use Rattle.wf_tokens.specs.declared.kinds.TokenKind.TheVariants as kind
use Rattle.wf_tokens.specs.declared.symbols.Operator.TheVariants as operator
use Rattle.wf_tokens.specs.declared.symbols.Comparison.TheVariants as comparison
use Rattle.wf_tokens.specs.declared.symbols.Symbol.{Symbol}
use Rattle.wf_tokens.specs.declared.symbols.Symbol.TheVariants as symbol
use Rattle.wf_tokens.specs.Runs.{is_run, is_text_byte}
use Rattle.wf_tokens.specs.Symbols.{symbol_text}
use Rattle.wf_tokens.specs.Pieces.{IsPiece, IsText}
use Rattle.wf_tokens.specs.Places.{behind_byte, behind_bytes, along}
use Rattle.wf_tokens.proofs.PieceLemmas.{kind_runs}
use Rattle.wf_tokens.proofs.Tables.{both}

-- Any byte but a line feed.
abbrev is_on_line : ℕ → Bool
is_on_line byte = not (nat_eq byte 10)

run_on_line : (byte : ℕ) → is_run byte ≡ true → is_on_line byte ≡ true
run_on_line byte h = grind (arith, nat_tests)

text_on_line : (byte : ℕ) → is_text_byte byte ≡ true → is_on_line byte ≡ true
text_on_line byte h = grind (arith, nat_tests)

all_since : (test other : ℕ → Bool) → ((byte : ℕ) → test byte ≡ true → other byte ≡ true) → (bytes : List ℕ) → list_all test bytes ≡ true → list_all other bytes ≡ true
all_since test other since [] h = refl
all_since test other since (byte ∷ rest) h =
    let parts = both (test byte) (list_all test rest) h in
    let first = since byte parts.left in
    let later = all_since test other since rest parts.right in
    rw (first, later) refl

quoted_on_line : (bytes : List ℕ) → list_all is_on_line bytes ≡ true → list_all is_on_line (bytes ++ 34 ∷ []) ≡ true
quoted_on_line [] h = refl
quoted_on_line (byte ∷ rest) h =
    let parts = both (is_on_line byte) (list_all is_on_line rest) h in
    let later = quoted_on_line rest parts.right in
    rw (parts.left, later) refl

text_lies : (text : List ℕ) → IsText text → list_all is_on_line text ≡ true
text_lies text t = ap (list_all is_on_line) t.quoted ∙ quoted_on_line t.inner (all_since is_text_byte is_on_line text_on_line t.inner t.plain)

symbol_on_line : (symbol : Symbol) → list_all is_on_line (symbol_text symbol) ≡ true
symbol_on_line (symbol.Assign operator.ModShiftLeft) = refl
symbol_on_line (symbol.Operator operator.ModShiftLeft) = refl
symbol_on_line (symbol.Assign operator.ModAdd) = refl
symbol_on_line (symbol.Assign operator.ModSub) = refl
symbol_on_line (symbol.Assign operator.ModMul) = refl
symbol_on_line (symbol.Assign operator.SatAdd) = refl
symbol_on_line (symbol.Assign operator.SatSub) = refl
symbol_on_line (symbol.Operator operator.ModAdd) = refl
symbol_on_line (symbol.Operator operator.ModSub) = refl
symbol_on_line (symbol.Operator operator.ModMul) = refl
symbol_on_line (symbol.Operator operator.SatAdd) = refl
symbol_on_line (symbol.Operator operator.SatSub) = refl
symbol_on_line symbol.DotDotEquals = refl
symbol_on_line (symbol.Assign operator.ShiftLeft) = refl
symbol_on_line (symbol.Assign operator.ShiftRight) = refl
symbol_on_line symbol.EqualsQuestion = refl
symbol_on_line symbol.DotDot = refl
symbol_on_line (symbol.Compare comparison.Equal) = refl
symbol_on_line (symbol.Compare comparison.NotEqual) = refl
symbol_on_line (symbol.Compare comparison.LessOrEqual) = refl
symbol_on_line (symbol.Compare comparison.GreaterOrEqual) = refl
symbol_on_line (symbol.Operator operator.ShiftLeft) = refl
symbol_on_line (symbol.Operator operator.ShiftRight) = refl
symbol_on_line (symbol.Assign operator.Add) = refl
symbol_on_line (symbol.Assign operator.Sub) = refl
symbol_on_line (symbol.Assign operator.Mul) = refl
symbol_on_line (symbol.Assign operator.Div) = refl
symbol_on_line (symbol.Assign operator.Rem) = refl
symbol_on_line (symbol.Assign operator.BitAnd) = refl
symbol_on_line (symbol.Assign operator.BitOr) = refl
symbol_on_line (symbol.Assign operator.BitXor) = refl
symbol_on_line symbol.OpenParen = refl
symbol_on_line symbol.CloseParen = refl
symbol_on_line symbol.OpenBracket = refl
symbol_on_line symbol.CloseBracket = refl
symbol_on_line symbol.OpenBrace = refl
symbol_on_line symbol.CloseBrace = refl
symbol_on_line symbol.Comma = refl
symbol_on_line symbol.Dot = refl
symbol_on_line symbol.Colon = refl
symbol_on_line symbol.Semicolon = refl
symbol_on_line symbol.Question = refl
symbol_on_line symbol.Exclamation = refl
symbol_on_line symbol.Equals = refl
symbol_on_line (symbol.Compare comparison.Less) = refl
symbol_on_line (symbol.Compare comparison.Greater) = refl
symbol_on_line (symbol.Operator operator.Add) = refl
symbol_on_line (symbol.Operator operator.Sub) = refl
symbol_on_line (symbol.Operator operator.Mul) = refl
symbol_on_line (symbol.Operator operator.Div) = refl
symbol_on_line (symbol.Operator operator.Rem) = refl
symbol_on_line (symbol.Operator operator.BitAnd) = refl
symbol_on_line (symbol.Operator operator.BitOr) = refl
symbol_on_line (symbol.Operator operator.BitXor) = refl

piece_lies : (kind : TokenKind) (text rest : List ℕ) → IsPiece kind text rest → list_all is_on_line text ≡ true
piece_lies kind.Name text rest p = all_since is_run is_on_line run_on_line text (kind_runs kind.Name text p.spells).run
piece_lies (kind.Number value) text rest p = all_since is_run is_on_line run_on_line text (kind_runs (kind.Number value) text p.spells).run
piece_lies kind.Text text rest p = text_lies text p
piece_lies (kind.Keyword word) text rest p = all_since is_run is_on_line run_on_line text (kind_runs (kind.Keyword word) text p.spells).run
piece_lies (kind.Symbol symbol) text rest p = ap (list_all is_on_line) p.spells ∙ symbol_on_line symbol

one_byte : (at : Place) (byte : ℕ) → is_on_line byte ≡ true → behind_byte at byte ≡ along at 1
one_byte at byte h = by_test (nat_eq byte 10) refl h
  where
    by_test : (b : Bool) → nat_eq byte 10 ≡ b → not b ≡ true → behind_byte at byte ≡ along at 1
    by_test true e g = absurd cc
    by_test false e g = rw e refl

lies_along : (at : Place) (bytes : List ℕ) → list_all is_on_line bytes ≡ true → behind_bytes at bytes ≡ along at (length bytes)
lies_along at [] h =
    let same : at.col ≡ at.col + 0 = omega arith in
    ap (λ c. record { file = at.file; line = at.line; col = c }) same
lies_along at (byte ∷ rest) h =
    let parts = both (is_on_line byte) (list_all is_on_line rest) h in
    let more : at.col + 1 + length rest ≡ at.col + length (byte ∷ rest) = omega arith in
    ap (λ p. behind_bytes p rest) (one_byte at byte parts.left) ∙ lies_along (along at 1) rest parts.right ∙ ap (λ c. record { file = at.file; line = at.line; col = c }) more

-- The place after a piece.
pub piece_along : (at : Place) (kind : TokenKind) (text rest : List ℕ) → IsPiece kind text rest → behind_bytes at text ≡ along at (length text)
piece_along at kind text rest p = lies_along at text (piece_lies kind text rest p)
