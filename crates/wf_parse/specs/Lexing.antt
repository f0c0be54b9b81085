-- The tokens of a file for the grammar, by the spelling of its bytes.
use Rattle.std.specs.Prelude.{◌≡◌, ◌<◌, ℕ, ⊤, Option, None, Some, IfSome, Result, Ok, Err, List, [], ◌∷◌, ◌++◌, length}
use Rattle.wf_text.specs.declared.faults.PhaseFault.{PhaseFault}
use Rattle.wf_text.specs.declared.faults.PhaseFault.TheVariants as phase
use Rattle.wf_text.specs.declared.rules.Refusal.{Refusal}
use Rattle.wf_ast.specs.ParsedParts.{Parsed}
use Rattle.wf_parse_grammar.specs.declared.tokens.Kind.TheVariants as kinds
use Rattle.wf_parse_grammar.specs.declared.tokens.Token.{Token}
use Rattle.wf_tokens.specs.Spelling.{State, Item, IsTokensOf, StopsAt, Reads, ReadsAll, IsStuck, IsOver, start}
use Rattle.wf_parse.specs.Kinds.{KindIs}
use Rattle.wf_parse.specs.Texts.{text_of, with_text, texts_behind}

-- A token of the grammar is a token that a file spells, where these are the package's texts.
pub record TokenIs (texts : List (List ℕ)) (item : Item) (t : Token) : Type 0 where
  pub at : t.at ≡ item.at
  pub kind : KindIs texts item.kind item.text t.kind

abbrev pub TokensAre : List (List ℕ) → List Item → List Token → Type 0
TokensAre texts [] [] = ⊤
TokensAre texts (item ∷ items) (t ∷ ts) = TokenIs texts item t × TokensAre texts items ts
TokensAre texts _ _ = ⊥

-- All tokens of a file. `known` are the package's texts before the file, and `texts` those after it.
pub record IsWholeFile (file : ℕ) (bytes : List ℕ) (known texts : List (List ℕ)) (tokens : List Token) : Type 0 where
  pub items : List Item
  pub spelt : IsTokensOf file bytes items
  pub texts_are : texts ≡ texts_behind known items
  pub tokens_are : TokensAre texts items tokens

-- The tokens of a file up to the first bytes that are no token, and one that no list of the grammar has in their
-- place.
pub record IsFileUpTo (file : ℕ) (bytes : List ℕ) (known texts : List (List ℕ)) (tokens : List Token) (refusal : Refusal) : Type 0 where
  pub items : List Item
  pub front : List Token
  pub spelt : StopsAt file bytes items refusal
  pub texts_are : texts ≡ texts_behind known items
  pub tokens_are : TokensAre texts items front
  pub whole : tokens ≡ front ++ record { kind = kinds.Bad; at = refusal.at } ∷ []

-- The tokens of a file, where a refusal ends them if there is one.
abbrev pub AreTokensOf : (file : ℕ) → (bytes : List ℕ) → (known texts : List (List ℕ)) → List Token → Option Refusal → Type 0
AreTokensOf file bytes known texts tokens None = IsWholeFile file bytes known texts tokens
AreTokensOf file bytes known texts tokens (Some refusal) = IsFileUpTo file bytes known texts tokens refusal

-- These tokens are read, and the lexer stands after them.
pub record LexedSoFar (file : ℕ) (bytes : List ℕ) (lexer : State) (known texts : List (List ℕ)) (tokens : List Token) : Type 0 where
  pub items : List Item
  pub reads : ReadsAll (start file bytes) items lexer
  pub texts_are : texts ≡ texts_behind known items
  pub tokens_are : TokensAre texts items tokens

-- One token more, with what its text does to the package's texts.
pub record ReadsToken (old : State) (known : List (List ℕ)) (t : Token) (new : State) (texts : List (List ℕ)) : Type 0 where
  pub item : Item
  pub reads : Reads old item new
  pub texts_are : texts ≡ with_text known (text_of item.kind item.text)
  pub is : TokenIs texts item t

-- What comes next in a file: a token, its end, or bytes that are no token.
abbrev pub AnswersNext : (old : State) → (known : List (List ℕ)) → Result (Option Token) PhaseFault → (new : State) → (texts : List (List ℕ)) → Type 0
AnswersNext old known (Ok (Some t)) new texts = ReadsToken old known t new texts
AnswersNext old known (Ok None) new texts = IsOver old × (new ≡ old) × (texts ≡ known)
AnswersNext old known (Err (phase.Refused refusal)) new texts = IsStuck old refusal × (texts ≡ known)
AnswersNext old known (Err phase.Memory) new texts = ⊤

-- The rest of a file: whatever is read before it, with these tokens it is the whole file. A refusal ends it at a token.
pub record ReadsRest (old : State) (known texts : List (List ℕ)) : Type 0 where
  pub tokens : List Token
  pub refused : Option Refusal
  pub last : IfSome refused (λ refusal. 0 < length tokens)
  pub whole : (file : ℕ) (bytes : List ℕ) (first : List (List ℕ)) (front : List Token) → LexedSoFar file bytes old first known front → AreTokensOf file bytes first texts (front ++ tokens) refused

-- Texts join the package, and nothing else changes.
abbrev pub ChangesTexts : (old new : Parsed) → Type 0
ChangesTexts old new = new ≡ record old { texts = new.texts }
