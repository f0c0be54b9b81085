-- What a file spells are formed tokens.
use Rattle.std.proofs.Common.{◌≡◌, ◌<◌, ◌^◌, ◌⊎◌, inl, inr, ℕ, true, List, [], ◌∷◌, refl, sym, ap, subst, arith}
use Rattle.std.specs.Bool.{⊤}
use Rattle.std.proofs.lemmas.Bool.Decides.{nat_tests}
use Rattle.wf_parse_grammar.specs.declared.tokens.Kind.{Kind}
use Rattle.wf_parse_grammar.specs.declared.tokens.Kind.TheVariants as kinds
use Rattle.wf_parse_grammar.specs.declared.tokens.Token.{Token}
use Rattle.wf_tokens.specs.declared.kinds.TokenKind.{TokenKind}
use Rattle.wf_tokens.specs.declared.kinds.TokenKind.TheVariants as spelt
use Rattle.wf_tokens.specs.declared.symbols.Comparison.{Comparison}
use Rattle.wf_tokens.specs.declared.symbols.Comparison.TheVariants as comparisons
use Rattle.wf_tokens.specs.declared.symbols.Operator.{Operator}
use Rattle.wf_tokens.specs.declared.symbols.Operator.TheVariants as operators
use Rattle.wf_tokens.specs.declared.symbols.Symbol.{Symbol}
use Rattle.wf_tokens.specs.declared.symbols.Symbol.TheVariants as symbols
use Rattle.wf_tokens.specs.declared.words.Word.{Word}
use Rattle.wf_tokens.specs.declared.words.Word.TheVariants as words
use Rattle.wf_tokens.specs.Pieces.{IsPiece}
use Rattle.wf_tokens.specs.Spelling.{State, Item, Reads, ReadsPiece, MakesSemicolon, ReadsAll, start}
use Rattle.wf_parse.specs.Kinds.{KindIs, word_kind, comparison_kind, operator_kind, operator_of, symbol_kind}
use Rattle.wf_parse.specs.Lexing.{TokensAre}
use Rattle.wf_parse.specs.TokenForms.{formed_kind, AreFormed}
use Rattle.wf_parse.specs.ReadForms.{TokensAreFormed}

-- Among the words are two operators, which make chains.
word-formed : (word : Word) → formed_kind (word_kind word) ≡ true
word-formed words.And = refl
word-formed words.Args = refl
word-formed words.Array = refl
word-formed words.As = refl
word-formed words.Assert = refl
word-formed words.Base = refl
word-formed words.Break = refl
word-formed words.Const = refl
word-formed words.Continue = refl
word-formed words.Else = refl
word-formed words.Endwhile = refl
word-formed words.False = refl
word-formed words.Func = refl
word-formed words.If = refl
word-formed words.Inv = refl
word-formed words.Not = refl
word-formed words.Nothing = refl
word-formed words.Ok = refl
word-formed words.Or = refl
word-formed words.Post = refl
word-formed words.Pre = refl
word-formed words.Pri = refl
word-formed words.Pub = refl
word-formed words.Return = refl
word-formed words.Slice = refl
word-formed words.Status = refl
word-formed words.Struct = refl
word-formed words.This = refl
word-formed words.True = refl
word-formed words.Var = refl
word-formed words.Via = refl
word-formed words.While = refl
word-formed words.Yield = refl

comparison-formed : (comparison : Comparison) → formed_kind (comparison_kind comparison) ≡ true
comparison-formed comparisons.Equal = refl
comparison-formed comparisons.NotEqual = refl
comparison-formed comparisons.Less = refl
comparison-formed comparisons.LessOrEqual = refl
comparison-formed comparisons.Greater = refl
comparison-formed comparisons.GreaterOrEqual = refl

-- An operator by itself, and one before an `=`.
operator-formed : (operator : Operator) → formed_kind (operator_kind operator) ≡ true
operator-formed operators.Add = refl
operator-formed operators.Sub = refl
operator-formed operators.Mul = refl
operator-formed operators.Div = refl
operator-formed operators.Rem = refl
operator-formed operators.ShiftLeft = refl
operator-formed operators.ShiftRight = refl
operator-formed operators.BitAnd = refl
operator-formed operators.BitOr = refl
operator-formed operators.BitXor = refl
operator-formed operators.ModAdd = refl
operator-formed operators.ModSub = refl
operator-formed operators.ModMul = refl
operator-formed operators.ModShiftLeft = refl
operator-formed operators.SatAdd = refl
operator-formed operators.SatSub = refl

update-formed : (operator : Operator) → formed_kind (kinds.Update (operator_of operator)) ≡ true
update-formed operators.Add = refl
update-formed operators.Sub = refl
update-formed operators.Mul = refl
update-formed operators.Div = refl
update-formed operators.Rem = refl
update-formed operators.ShiftLeft = refl
update-formed operators.ShiftRight = refl
update-formed operators.BitAnd = refl
update-formed operators.BitOr = refl
update-formed operators.BitXor = refl
update-formed operators.ModAdd = refl
update-formed operators.ModSub = refl
update-formed operators.ModMul = refl
update-formed operators.ModShiftLeft = refl
update-formed operators.SatAdd = refl
update-formed operators.SatSub = refl

symbol-formed : (symbol : Symbol) → formed_kind (symbol_kind symbol) ≡ true
symbol-formed symbols.OpenParen = refl
symbol-formed symbols.CloseParen = refl
symbol-formed symbols.OpenBracket = refl
symbol-formed symbols.CloseBracket = refl
symbol-formed symbols.OpenBrace = refl
symbol-formed symbols.CloseBrace = refl
symbol-formed symbols.Comma = refl
symbol-formed symbols.Dot = refl
symbol-formed symbols.Colon = refl
symbol-formed symbols.Semicolon = refl
symbol-formed symbols.Question = refl
symbol-formed symbols.Exclamation = refl
symbol-formed symbols.Equals = refl
symbol-formed symbols.EqualsQuestion = refl
symbol-formed symbols.DotDot = refl
symbol-formed symbols.DotDotEquals = refl
symbol-formed (symbols.Compare comparison) = comparison-formed comparison
symbol-formed (symbols.Operator operator) = operator-formed operator
symbol-formed (symbols.Assign operator) = update-formed operator

-- A number that is spelt has 64 bits.
abbrev IsSmall : TokenKind → Type 0
IsSmall (spelt.Number value) = value < 2 ^ 64
IsSmall kind = ⊤

piece-small : (kind : TokenKind) (text rest : List ℕ) → IsPiece kind text rest → IsSmall kind
piece-small spelt.Name text rest p = tt
piece-small (spelt.Number value) text rest p = p.spells.1
piece-small spelt.Text text rest p = tt
piece-small (spelt.Keyword word) text rest p = tt
piece-small (spelt.Symbol symbol) text rest p = tt

read-small : (old : State) (item : Item) (new : State) → Reads old item new → IsSmall item.kind
read-small old item new r = by_case r.1
  where
    by_case : ReadsPiece old item new ⊎ MakesSemicolon old item new → IsSmall item.kind
    by_case (inl p) = piece-small item.kind item.text new.rest p.piece
    by_case (inr p) = let semicolon : item.kind ≡ spelt.Symbol symbols.Semicolon = ap (λ (i : Item). i.kind) p.made in subst IsSmall (sym semicolon) tt

kind-formed : (texts : List (List ℕ)) (kind : TokenKind) (text : List ℕ) (k : Kind) → IsSmall kind → KindIs texts kind text k → formed_kind k ≡ true
kind-formed texts spelt.Name text k small is = rw is.1 refl
kind-formed texts (spelt.Number value) text k small is = rw is (grind (arith, nat_tests, small))
kind-formed texts spelt.Text text k small is = rw is.1 refl
kind-formed texts (spelt.Keyword word) text k small is = rw is (word-formed word)
kind-formed texts (spelt.Symbol symbol) text k small is = rw is (symbol-formed symbol)

read-formed : (texts : List (List ℕ)) (old : State) (items : List Item) (new : State) (tokens : List Token) → ReadsAll old items new → TokensAre texts items tokens → AreFormed tokens
read-formed texts old [] new [] r a = tt
read-formed texts old [] new (t ∷ ts) r a = absurd a
read-formed texts old (item ∷ items) new [] r a = absurd a
read-formed texts old (item ∷ items) new (t ∷ ts) r a =
    (kind-formed texts item.kind item.text t.kind (read-small old item r.0 r.1) a.0.kind, read-formed texts r.0 items new ts r.2 a.1)

pub tokens_are_formed : TokensAreFormed
tokens_are_formed file bytes known texts tokens w = read-formed texts (start file bytes) w.items w.spelt.last tokens w.spelt.reads w.tokens_are
