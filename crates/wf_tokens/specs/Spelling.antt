-- Token spelling: the bytes of a file and the list of its tokens with their places.
use Rattle.std.specs.Prelude.{ℕ, ◌+◌, ◌*◌, Bool, true, false, List, [], ◌∷◌, ◌++◌, length, take, drop, ◌≡◌, ◌≢◌, ◌⊎◌, if◌then◌else◌}
use Rattle.wf_text.specs.declared.place.Place.{Place}
use Rattle.wf_text.specs.declared.rules.Refusal.{Refusal}
use Rattle.wf_tokens.specs.declared.kinds.TokenKind.{TokenKind}
use Rattle.wf_tokens.specs.declared.kinds.TokenKind.TheVariants as kind
use Rattle.wf_tokens.specs.declared.symbols.Symbol.{Symbol}
use Rattle.wf_tokens.specs.declared.symbols.Symbol.TheVariants as symbol
use Rattle.wf_tokens.specs.declared.words.Word.{Word}
use Rattle.wf_tokens.specs.declared.words.Word.TheVariants as word
use Rattle.wf_tokens.specs.declared.token.Token.{Token}
use Rattle.wf_tokens.specs.Gaps.{IsGap, ends_line}
use Rattle.wf_tokens.specs.Pieces.{IsPiece, NoPiece, rule_at}
use Rattle.wf_tokens.specs.Places.{behind_bytes, first_place}

-- A token with its bytes and its place. A semicolon that a line end adds has no bytes.
pub record Item : Type 0 where
  pub kind : TokenKind
  pub text : List ℕ
  pub at : Place

-- Where reading stands: the bytes that are left, the place of the first of them, whether a line end adds a
-- semicolon here, and whether a refusal ended the reading.
pub record State : Type 0 where
  pub rest : List ℕ
  pub at : Place
  pub due : Bool
  pub over : Bool

-- Before a file's first byte.
abbrev pub start : (file : ℕ) → (bytes : List ℕ) → State
start file bytes = record { rest = bytes; at = first_place file; due = false; over = false }

-- The words after which a line end adds a semicolon.
abbrev pub word_ends_statement : Word → Bool
word_ends_statement word.Args = true
word_ends_statement word.Break = true
word_ends_statement word.Continue = true
word_ends_statement word.Endwhile = true
word_ends_statement word.False = true
word_ends_statement word.Nothing = true
word_ends_statement word.Ok = true
word_ends_statement word.Return = true
word_ends_statement word.Status = true
word_ends_statement word.This = true
word_ends_statement word.True = true
word_ends_statement _ = false

-- The symbols after which a line end adds a semicolon.
abbrev pub symbol_ends_statement : Symbol → Bool
symbol_ends_statement symbol.CloseParen = true
symbol_ends_statement symbol.CloseBracket = true
symbol_ends_statement symbol.CloseBrace = true
symbol_ends_statement _ = false

-- A line end after a token of this kind adds a semicolon.
abbrev pub ends_statement : TokenKind → Bool
ends_statement kind.Name = true
ends_statement (kind.Number _) = true
ends_statement kind.Text = true
ends_statement (kind.Keyword word) = word_ends_statement word
ends_statement (kind.Symbol symbol) = symbol_ends_statement symbol

-- A token that the file spells: a gap, and a piece.
pub record ReadsPiece (old : State) (item : Item) (new : State) : Type 0 where
  pub gap : List ℕ
  pub cut : old.rest ≡ gap ++ (item.text ++ new.rest)
  pub blank : IsGap old.due gap (item.text ++ new.rest)
  pub piece : IsPiece item.kind item.text new.rest
  pub at : item.at ≡ behind_bytes old.at gap
  pub after : new ≡ record { rest = new.rest; at = behind_bytes item.at item.text; due = ends_statement item.kind; over = false }

-- The token of a piece at the front of bytes that stand at this place, and where reading stands after it.
pub record TakesPiece (bytes : List ℕ) (at : Place) (kind : TokenKind) (len : ℕ) (item : Item) (new : State) : Type 0 where
  pub is : item ≡ record { kind = kind; text = take len bytes; at = at }
  pub after : new ≡ record { rest = drop len bytes; at = behind_bytes at (take len bytes); due = ends_statement kind; over = false }

-- A semicolon that is due, made by a line end: it stands directly after the last token.
pub record MakesSemicolon (old : State) (item : Item) (new : State) : Type 0 where
  pub gap : List ℕ
  pub cut : old.rest ≡ gap ++ new.rest
  pub blank : IsGap old.due gap new.rest
  pub due : old.due ≡ true
  pub line : ends_line new.rest ≡ true
  pub made : item ≡ record { kind = kind.Symbol symbol.Semicolon; text = []; at = old.at }
  pub after : new ≡ record { rest = new.rest; at = behind_bytes old.at gap; due = false; over = false }

-- One token.
abbrev pub Reads : State → Item → State → Type 0
Reads old item new = (old.over ≡ false) × (ReadsPiece old item new ⊎ MakesSemicolon old item new)

-- No token can be read: after the gap no piece can stand, and no line end makes a semicolon that is due. The
-- refusal stands after the gap.
pub record IsStuck (old : State) (refusal : Refusal) : Type 0 where
  pub on : old.over ≡ false
  pub gap : List ℕ
  pub behind : List ℕ
  pub cut : old.rest ≡ gap ++ behind
  pub blank : IsGap old.due gap behind
  pub more : behind ≢ []
  pub line : old.due ≡ true → ends_line behind ≡ true → ⊥
  pub none : NoPiece behind
  pub refused : refusal ≡ record { rule = rule_at behind; at = behind_bytes old.at gap }

-- No token is left: a refusal ended the reading, or nothing but a gap is left and no semicolon is due.
abbrev pub IsOver : State → Type 0
IsOver old = (old.over ≡ true) ⊎ ((old.over ≡ false) × (old.due ≡ false) × IsGap old.due old.rest [])

-- A measure that each token lessens.
abbrev pub left : State → ℕ
left s = 2 * length s.rest + (if s.due then 1 else 0)

-- Tokens one after the other.
abbrev pub ReadsAll : State → List Item → State → Type 0
ReadsAll old [] new = old ≡ new
ReadsAll old (item ∷ items) new = (between : State) × Reads old item between × ReadsAll between items new

-- These are the tokens of a file, all of them.
pub record IsTokensOf (file : ℕ) (bytes : List ℕ) (items : List Item) : Type 0 where
  pub last : State
  pub reads : ReadsAll (start file bytes) items last
  pub over : IsOver last

-- These are the tokens before the first place of a file at which no token can be read, with its refusal.
pub record StopsAt (file : ℕ) (bytes : List ℕ) (items : List Item) (refusal : Refusal) : Type 0 where
  pub last : State
  pub reads : ReadsAll (start file bytes) items last
  pub stuck : IsStuck last refusal

-- A token as the relation sees it.
abbrev pub item_of : Token → Item
item_of token = record { kind = token.kind; text = token.bytes.now; at = token.at }

-- Bytes have at most one list of tokens.
abbrev pub TokensAreUnique : Type 0
TokensAreUnique = (file : ℕ) (bytes : List ℕ) (items others : List Item) → IsTokensOf file bytes items → IsTokensOf file bytes others → items ≡ others

-- Bytes are refused at one place by one rule, after one list of tokens.
abbrev pub RefusalsAreUnique : Type 0
RefusalsAreUnique = (file : ℕ) (bytes : List ℕ) (items others : List Item) (refusal other : Refusal) → StopsAt file bytes items refusal → StopsAt file bytes others other → (items ≡ others) × (refusal ≡ other)

-- Bytes that have tokens aren't refused.
abbrev pub NeverBoth : Type 0
NeverBoth = (file : ℕ) (bytes : List ℕ) (items others : List Item) (refusal : Refusal) → IsTokensOf file bytes items → StopsAt file bytes others refusal → ⊥
