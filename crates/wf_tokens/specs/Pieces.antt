-- Pieces: the bytes of one token. Each is the longest that can stand at its place.
use Rattle.std.specs.Prelude.{ℕ, ◌<◌, ◌≤◌, ◌^◌, true, false, Some, List, [], ◌∷◌, ◌++◌, length, take, drop, ◌≡◌, ◌≢◌, if◌then◌else◌, is_some, Err}
use Rattle.std.specs.List.{list_all}
use Rattle.wf_text.specs.declared.rules.Rule.{Rule}
use Rattle.wf_text.specs.declared.rules.Rule.TheVariants as rule
use Rattle.wf_tokens.specs.declared.kinds.TokenKind.{TokenKind}
use Rattle.wf_tokens.specs.declared.kinds.TokenKind.TheVariants as kind
use Rattle.wf_tokens.specs.declared.symbols.Symbol.{Symbol}
use Rattle.wf_tokens.specs.declared.words.Word.{Word}
use Rattle.wf_tokens.specs.Runs.{is_letter, is_digit, is_run, is_quote, is_text_byte, begins, front}
use Rattle.wf_tokens.specs.Numbers.{number_of, AnswersNumber}
use Rattle.wf_tokens.specs.Symbols.{symbol_text, IsLongestSymbol}
use Rattle.wf_tokens.specs.Words.{word_text}

-- A letter or `_`, then letters, digits and `_`; and no word of the language.
pub record IsName (text : List ℕ) : Type 0 where
  pub first : begins is_letter text ≡ true
  pub run : list_all is_run text ≡ true
  pub free : (word : Word) → text ≢ word_text word

-- A quote, what may stand inside a text, and a quote.
pub record IsText (text : List ℕ) : Type 0 where
  pub inner : List ℕ
  pub plain : list_all is_text_byte inner ≡ true
  pub quoted : text ≡ 34 ∷ (inner ++ 34 ∷ [])

-- The text is a spelling of a token of this kind.
abbrev pub Spells : TokenKind → List ℕ → Type 0
Spells kind.Name text = IsName text
Spells (kind.Number value) text = (number_of text ≡ Some value) × (value < 2 ^ 64)
Spells kind.Text text = IsText text
Spells (kind.Keyword word) text = text ≡ word_text word
Spells (kind.Symbol symbol) text = text ≡ symbol_text symbol

-- A name, a word or a number is a whole run of letters, digits and `_`.
pub record IsRunPiece (kind : TokenKind) (text rest : List ℕ) : Type 0 where
  pub spells : Spells kind text
  pub whole : begins is_run rest ≡ false

-- A symbol is the longest with which the bytes begin.
pub record IsSymbolPiece (symbol : Symbol) (text rest : List ℕ) : Type 0 where
  pub spells : text ≡ symbol_text symbol
  pub longest : IsLongestSymbol symbol (text ++ rest)

-- The text is a piece of this kind, with the rest after it.
abbrev pub IsPiece : TokenKind → (text rest : List ℕ) → Type 0
IsPiece (kind.Symbol symbol) text rest = IsSymbolPiece symbol text rest
IsPiece kind.Text text rest = IsText text
IsPiece kind text rest = IsRunPiece kind text rest

-- No piece can stand at the front of the bytes.
abbrev pub NoPiece : List ℕ → Type 0
NoPiece bytes = (kind : TokenKind) (text rest : List ℕ) → bytes ≡ text ++ rest → IsPiece kind text rest → ⊥

-- The rule that refuses bytes at which no piece can stand: a text that isn't closed on its line, a run that
-- begins with a digit and is misspelt or too large, or a byte that begins no token.
abbrev pub rule_at : List ℕ → Rule
rule_at bytes = if begins is_quote bytes then rule.S2 else if begins is_digit bytes then (if is_some (number_of (front is_run bytes)) then rule.S4 else rule.S3) else rule.S1

-- The first `len` of the bytes are a piece of this kind.
pub record IsFrontPiece (kind : TokenKind) (len : ℕ) (bytes : List ℕ) : Type 0 where
  pub some : 0 < len
  pub within : len ≤ length bytes
  pub piece : IsPiece kind (take len bytes) (drop len bytes)

-- No piece can stand at the front of the bytes, and this rule says so.
pub record IsRefused (rule : Rule) (bytes : List ℕ) : Type 0 where
  pub none : NoPiece bytes
  pub rule_is : rule ≡ rule_at bytes

-- A kind whose spellings are runs, and of which the run is a spelling.
abbrev pub IsRunKind : TokenKind → List ℕ → Type 0
IsRunKind (kind.Symbol _) text = ⊥
IsRunKind kind.Text text = ⊥
IsRunKind kind text = Spells kind text

-- The run is a number that is misspelt or too large.
pub record RefusesRun (rule : Rule) (text : List ℕ) : Type 0 where
  pub digit : begins is_digit text ≡ true
  pub refuses : AnswersNumber (Err rule) (number_of text)

-- Each piece is the longest: no longer front of the bytes at its place is a spelling of a token.
abbrev pub PiecesAreLongest : Type 0
PiecesAreLongest = (kind other : TokenKind) (text rest : List ℕ) (n : ℕ) → IsPiece kind text rest → length text < n → n ≤ length (text ++ rest) → Spells other (take n (text ++ rest)) → ⊥
