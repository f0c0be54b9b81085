-- What the tokens of a file are for the grammar: names and texts stand by their numbers in the package.
use Rattle.std.specs.Prelude.{◌≡◌, ◌-◌, ◌≤◌, ℕ, Some, List, length, take, drop, slice_get}
use Rattle.wf_ast.specs.declared.numbers.TextId.{TextId}
use Rattle.wf_ast.specs.declared.operators.Op.{Op}
use Rattle.wf_ast.specs.declared.operators.Op.TheVariants as ops
use Rattle.wf_parse_grammar.specs.declared.tokens.Kind.{Kind}
use Rattle.wf_parse_grammar.specs.declared.tokens.Kind.TheVariants as kinds
use Rattle.wf_tokens.specs.declared.kinds.TokenKind.{TokenKind}
use Rattle.wf_tokens.specs.declared.kinds.TokenKind.TheVariants as spelt
use Rattle.wf_tokens.specs.declared.symbols.Comparison.{Comparison}
use Rattle.wf_tokens.specs.declared.symbols.Comparison.TheVariants as comparisons
use Rattle.wf_tokens.specs.declared.symbols.Operator.{Operator}
use Rattle.wf_tokens.specs.declared.symbols.Operator.TheVariants as operators
use Rattle.wf_tokens.specs.declared.symbols.Symbol.{Symbol}
use Rattle.wf_tokens.specs.declared.symbols.Symbol.TheVariants as symbols
use Rattle.wf_tokens.specs.declared.words.Word.{Word}
use Rattle.wf_tokens.specs.declared.words.Word.TheVariants as words
use Rattle.wf_tokens.specs.Spelling.{Item}

-- Words.
abbrev pub word_kind : Word → Kind
word_kind words.And = kinds.Chain ops.And
word_kind words.Args = kinds.Args
word_kind words.Array = kinds.Array
word_kind words.As = kinds.As
word_kind words.Assert = kinds.Assert
word_kind words.Base = kinds.Base
word_kind words.Break = kinds.Break
word_kind words.Const = kinds.Const
word_kind words.Continue = kinds.Continue
word_kind words.Else = kinds.Else
word_kind words.Endwhile = kinds.Endwhile
word_kind words.False = kinds.False
word_kind words.Func = kinds.Func
word_kind words.If = kinds.If
word_kind words.Inv = kinds.Inv
word_kind words.Not = kinds.Not
word_kind words.Nothing = kinds.Nothing
word_kind words.Ok = kinds.Ok
word_kind words.Or = kinds.Chain ops.Or
word_kind words.Post = kinds.Post
word_kind words.Pre = kinds.Pre
word_kind words.Pri = kinds.Pri
word_kind words.Pub = kinds.Pub
word_kind words.Return = kinds.Return
word_kind words.Slice = kinds.Slice
word_kind words.Status = kinds.Status
word_kind words.Struct = kinds.Struct
word_kind words.This = kinds.This
word_kind words.True = kinds.True
word_kind words.Var = kinds.Var
word_kind words.Via = kinds.Via
word_kind words.While = kinds.While
word_kind words.Yield = kinds.Yield

-- Operators.
abbrev pub operator_of : Operator → Op
operator_of operators.Add = ops.Add
operator_of operators.Sub = ops.Sub
operator_of operators.Mul = ops.Mul
operator_of operators.Div = ops.Div
operator_of operators.Rem = ops.Rem
operator_of operators.ShiftLeft = ops.Shl
operator_of operators.ShiftRight = ops.Shr
operator_of operators.BitAnd = ops.BitAnd
operator_of operators.BitOr = ops.BitOr
operator_of operators.BitXor = ops.BitXor
operator_of operators.ModAdd = ops.ModAdd
operator_of operators.ModSub = ops.ModSub
operator_of operators.ModMul = ops.ModMul
operator_of operators.ModShiftLeft = ops.ModShl
operator_of operators.SatAdd = ops.SatAdd
operator_of operators.SatSub = ops.SatSub

-- Five of them make chains; each other one stands between two operands.
abbrev pub operator_kind : Operator → Kind
operator_kind operators.Add = kinds.Chain ops.Add
operator_kind operators.Sub = kinds.Binary ops.Sub
operator_kind operators.Mul = kinds.Chain ops.Mul
operator_kind operators.Div = kinds.Binary ops.Div
operator_kind operators.Rem = kinds.Binary ops.Rem
operator_kind operators.ShiftLeft = kinds.Binary ops.Shl
operator_kind operators.ShiftRight = kinds.Binary ops.Shr
operator_kind operators.BitAnd = kinds.Chain ops.BitAnd
operator_kind operators.BitOr = kinds.Chain ops.BitOr
operator_kind operators.BitXor = kinds.Chain ops.BitXor
operator_kind operators.ModAdd = kinds.Binary ops.ModAdd
operator_kind operators.ModSub = kinds.Binary ops.ModSub
operator_kind operators.ModMul = kinds.Binary ops.ModMul
operator_kind operators.ModShiftLeft = kinds.Binary ops.ModShl
operator_kind operators.SatAdd = kinds.Binary ops.SatAdd
operator_kind operators.SatSub = kinds.Binary ops.SatSub

abbrev pub comparison_kind : Comparison → Kind
comparison_kind comparisons.Equal = kinds.Binary ops.Same
comparison_kind comparisons.NotEqual = kinds.Binary ops.Differs
comparison_kind comparisons.Less = kinds.Binary ops.Less
comparison_kind comparisons.LessOrEqual = kinds.Binary ops.LessOrSame
comparison_kind comparisons.Greater = kinds.Binary ops.Greater
comparison_kind comparisons.GreaterOrEqual = kinds.Binary ops.GreaterOrSame

-- Brackets, punctuation and operators.
abbrev pub symbol_kind : Symbol → Kind
symbol_kind symbols.OpenParen = kinds.OpenRound
symbol_kind symbols.CloseParen = kinds.CloseRound
symbol_kind symbols.OpenBracket = kinds.OpenSquare
symbol_kind symbols.CloseBracket = kinds.CloseSquare
symbol_kind symbols.OpenBrace = kinds.OpenCurly
symbol_kind symbols.CloseBrace = kinds.CloseCurly
symbol_kind symbols.Comma = kinds.Comma
symbol_kind symbols.Dot = kinds.Dot
symbol_kind symbols.Colon = kinds.Colon
symbol_kind symbols.Semicolon = kinds.Semicolon
symbol_kind symbols.Question = kinds.Question
symbol_kind symbols.Exclamation = kinds.Exclamation
symbol_kind symbols.Equals = kinds.Equals
symbol_kind symbols.EqualsQuestion = kinds.KeepEquals
symbol_kind symbols.DotDot = kinds.Dots
symbol_kind symbols.DotDotEquals = kinds.DotsEquals
symbol_kind (symbols.Compare comparison) = comparison_kind comparison
symbol_kind (symbols.Operator operator) = operator_kind operator
symbol_kind (symbols.Assign operator) = kinds.Update (operator_of operator)

-- The bytes between two quotes.
abbrev pub unquoted : List ℕ → List ℕ
unquoted text = take (length text - 2) (drop 1 text)

-- A token of this kind and with these bytes is this for the grammar, where these are the package's texts.
abbrev pub KindIs : List (List ℕ) → TokenKind → List ℕ → Kind → Type 0
KindIs texts spelt.Name text k = (n : TextId) × (k ≡ kinds.Name n) × (slice_get texts n.0 ≡ Some text)
KindIs texts (spelt.Number value) text k = k ≡ kinds.Number value
KindIs texts spelt.Text text k = (n : TextId) × (k ≡ kinds.Text n) × (slice_get texts n.0 ≡ Some (unquoted text))
KindIs texts (spelt.Keyword word) text k = k ≡ word_kind word
KindIs texts (spelt.Symbol symbol) text k = k ≡ symbol_kind symbol

-- A text has its two quotes.
abbrev pub IsReadable : Item → Type 0
IsReadable item = item.kind ≡ spelt.Text → 2 ≤ length item.text
