-- The names that the declarations of a package that is read declare are spelt as names, and the texts of statuses as texts.
use Rattle.std.proofs.Common.{◌≡◌, ◌+◌, ◌-◌, ◌⊎◌, inl, inr, ℕ, true, Some, List, [], ◌∷◌, ◌++◌, length, take, slice_get, refl, sym, ◌∙◌, ap, subst, append_assoc, append-nil, length-append, arith}
use Rattle.std.specs.Bool.{⊤}
use Rattle.std.specs.List.{AllByRecursion, list_all}
use Rattle.wf_ast.specs.ParsedParts.{Parsed}
use Rattle.wf_ast.specs.ParsedTree.{DeclTree}
use Rattle.wf_ast.specs.ReadPackage.{decls_of}
use Rattle.wf_parse_grammar.specs.declared.tokens.Kind.{Kind}
use Rattle.wf_parse_grammar.specs.declared.tokens.Token.{Token}
use Rattle.wf_tokens.specs.declared.kinds.TokenKind.{TokenKind}
use Rattle.wf_tokens.specs.declared.kinds.TokenKind.TheVariants as spelt
use Rattle.wf_tokens.specs.declared.symbols.Symbol.TheVariants as symbols
use Rattle.wf_tokens.specs.declared.words.Word.{Word}
use Rattle.wf_tokens.specs.declared.words.Word.TheVariants as words
use Rattle.wf_tokens.specs.declared.symbols.Symbol.{Symbol}
use Rattle.wf_tokens.specs.declared.symbols.Comparison.{Comparison}
use Rattle.wf_tokens.specs.declared.symbols.Comparison.TheVariants as comparisons
use Rattle.wf_tokens.specs.declared.symbols.Operator.{Operator}
use Rattle.wf_tokens.specs.declared.symbols.Operator.TheVariants as operators
use Rattle.wf_tokens.specs.Pieces.{IsPiece, IsName, IsText}
use Rattle.wf_tokens.specs.Runs.{is_text_byte}
use Rattle.wf_tokens.specs.Spelling.{State, Item, Reads, ReadsPiece, MakesSemicolon, ReadsAll, start}
use Rattle.wf_parse.specs.Kinds.{KindIs, unquoted, word_kind, comparison_kind, operator_kind, symbol_kind}
use Rattle.wf_parse.specs.Lexing.{TokensAre}
use Rattle.wf_parse.specs.Parsing.{ReadsFiles, IsParsed}
use Rattle.wf_parse.specs.Texts.{text_of, with_text, texts_behind}
use Rattle.wf_parse.proofs.Lexed.{tokens_stay}
use Rattle.wf_parse.proofs.TextNumbers.{with_text-grows}
use Rattle.wf_typed_laws.proofs.ListLemmas.{all-append}
use Rattle.wf_typed_laws.proofs.TokenNames.{KindIsGood, AreGood}
use Rattle.wf_typed_laws.proofs.DeclNames.{DeclIsGood, file-good}

-- The text with this number is spelt as a name.
pub record IsSpelt (texts : List (List ℕ)) (n : ℕ) : Type 0 where
  pub text : List ℕ
  pub there : slice_get texts n ≡ Some text
  pub spelt : IsName text

-- The text with this number may stand between quotes.
pub record IsQuoted (texts : List (List ℕ)) (n : ℕ) : Type 0 where
  pub text : List ℕ
  pub there : slice_get texts n ≡ Some text
  pub plain : list_all is_text_byte text ≡ true

module _ (Good Fine : ℕ → Type 0) where
  -- Words and symbols bring no name.
  word-good : (word : Word) → KindIsGood Good Fine (word_kind word)
  word-good words.And = tt
  word-good words.Args = tt
  word-good words.Array = tt
  word-good words.As = tt
  word-good words.Assert = tt
  word-good words.Base = tt
  word-good words.Break = tt
  word-good words.Const = tt
  word-good words.Continue = tt
  word-good words.Else = tt
  word-good words.Endwhile = tt
  word-good words.False = tt
  word-good words.Func = tt
  word-good words.If = tt
  word-good words.Inv = tt
  word-good words.Not = tt
  word-good words.Nothing = tt
  word-good words.Ok = tt
  word-good words.Or = tt
  word-good words.Post = tt
  word-good words.Pre = tt
  word-good words.Pri = tt
  word-good words.Pub = tt
  word-good words.Return = tt
  word-good words.Slice = tt
  word-good words.Status = tt
  word-good words.Struct = tt
  word-good words.This = tt
  word-good words.True = tt
  word-good words.Var = tt
  word-good words.Via = tt
  word-good words.While = tt
  word-good words.Yield = tt

  comparison-good : (comparison : Comparison) → KindIsGood Good Fine (comparison_kind comparison)
  comparison-good comparisons.Equal = tt
  comparison-good comparisons.NotEqual = tt
  comparison-good comparisons.Less = tt
  comparison-good comparisons.LessOrEqual = tt
  comparison-good comparisons.Greater = tt
  comparison-good comparisons.GreaterOrEqual = tt

  operator-good : (operator : Operator) → KindIsGood Good Fine (operator_kind operator)
  operator-good operators.Add = tt
  operator-good operators.Sub = tt
  operator-good operators.Mul = tt
  operator-good operators.Div = tt
  operator-good operators.Rem = tt
  operator-good operators.ShiftLeft = tt
  operator-good operators.ShiftRight = tt
  operator-good operators.BitAnd = tt
  operator-good operators.BitOr = tt
  operator-good operators.BitXor = tt
  operator-good operators.ModAdd = tt
  operator-good operators.ModSub = tt
  operator-good operators.ModMul = tt
  operator-good operators.ModShiftLeft = tt
  operator-good operators.SatAdd = tt
  operator-good operators.SatSub = tt

  symbol-good : (symbol : Symbol) → KindIsGood Good Fine (symbol_kind symbol)
  symbol-good symbols.OpenParen = tt
  symbol-good symbols.CloseParen = tt
  symbol-good symbols.OpenBracket = tt
  symbol-good symbols.CloseBracket = tt
  symbol-good symbols.OpenBrace = tt
  symbol-good symbols.CloseBrace = tt
  symbol-good symbols.Comma = tt
  symbol-good symbols.Dot = tt
  symbol-good symbols.Colon = tt
  symbol-good symbols.Semicolon = tt
  symbol-good symbols.Question = tt
  symbol-good symbols.Exclamation = tt
  symbol-good symbols.Equals = tt
  symbol-good symbols.EqualsQuestion = tt
  symbol-good symbols.DotDot = tt
  symbol-good symbols.DotDotEquals = tt
  symbol-good (symbols.Compare comparison) = comparison-good comparison
  symbol-good (symbols.Operator operator) = operator-good operator
  symbol-good (symbols.Assign operator) = tt

-- What is spelt where a name or a text stands.
abbrev IsNamed : TokenKind → List ℕ → Type 0
IsNamed spelt.Name text = IsName text
IsNamed spelt.Text text = IsText text
IsNamed kind text = ⊤

piece-named : (kind : TokenKind) (text rest : List ℕ) → IsPiece kind text rest → IsNamed kind text
piece-named spelt.Name text rest p = p.spells
piece-named (spelt.Number value) text rest p = tt
piece-named spelt.Text text rest p = p
piece-named (spelt.Keyword word) text rest p = tt
piece-named (spelt.Symbol symbol) text rest p = tt

read-named : (old : State) (item : Item) (new : State) → Reads old item new → IsNamed item.kind item.text
read-named old item new r = by_case r.1
  where
    by_case : ReadsPiece old item new ⊎ MakesSemicolon old item new → IsNamed item.kind item.text
    by_case (inl p) = piece-named item.kind item.text new.rest p.piece
    by_case (inr p) =
        let semicolon : item.kind ≡ spelt.Symbol symbols.Semicolon = ap (λ (i : Item). i.kind) p.made in
        let P : TokenKind → Type 0 = λ kind. IsNamed kind item.text in
        subst P (sym semicolon) tt

-- Between its quotes a text has what it is spelt with.
front-of : (inner rest : List ℕ) (n : ℕ) → n ≡ length inner → take n (inner ++ rest) ≡ inner
front-of [] rest n e = ap (λ (k : ℕ). take k rest) e
front-of (b ∷ inner) rest n e = ap (λ (k : ℕ). take k (b ∷ (inner ++ rest))) e ∙ ap (λ xs. b ∷ xs) (front-of inner rest (length inner) refl)

inner-unquoted : (text : List ℕ) (t : IsText text) → unquoted text ≡ t.inner
inner-unquoted text t =
    let long : length (t.inner ++ 34 ∷ []) ≡ length t.inner + 1 = length-append t.inner (34 ∷ []) in
    let count : length (34 ∷ (t.inner ++ 34 ∷ [])) - 2 ≡ length t.inner = omega (arith, long) in
    ap unquoted t.quoted ∙ front-of t.inner (34 ∷ []) (length (34 ∷ (t.inner ++ 34 ∷ [])) - 2) count

kind-spelt : (texts : List (List ℕ)) (kind : TokenKind) (text : List ℕ) (k : Kind) → IsNamed kind text → KindIs texts kind text k → KindIsGood (IsSpelt texts) (IsQuoted texts) k
kind-spelt texts spelt.Name text k named is =
    let there : IsSpelt texts is.0.0 = record { text = text; there = is.2; spelt = named } in
    subst (KindIsGood (IsSpelt texts) (IsQuoted texts)) (sym is.1) there
kind-spelt texts (spelt.Number value) text k named is = subst (KindIsGood (IsSpelt texts) (IsQuoted texts)) (sym is) tt
kind-spelt texts spelt.Text text k named is =
    let there : IsQuoted texts is.0.0 = record { text = unquoted text; there = is.2; plain = ap (list_all is_text_byte) (inner-unquoted text named) ∙ named.plain } in
    subst (KindIsGood (IsSpelt texts) (IsQuoted texts)) (sym is.1) there
kind-spelt texts (spelt.Keyword word) text k named is = subst (KindIsGood (IsSpelt texts) (IsQuoted texts)) (sym is) (word-good (IsSpelt texts) (IsQuoted texts) word)
kind-spelt texts (spelt.Symbol symbol) text k named is = subst (KindIsGood (IsSpelt texts) (IsQuoted texts)) (sym is) (symbol-good (IsSpelt texts) (IsQuoted texts) symbol)

tokens-spelt : (texts : List (List ℕ)) (old : State) (items : List Item) (new : State) (tokens : List Token) → ReadsAll old items new → TokensAre texts items tokens → AreGood (IsSpelt texts) (IsQuoted texts) tokens
tokens-spelt texts old [] new [] r a = tt
tokens-spelt texts old [] new (t ∷ ts) r a = absurd a
tokens-spelt texts old (item ∷ items) new [] r a = absurd a
tokens-spelt texts old (item ∷ items) new (t ∷ ts) r a =
    (kind-spelt texts item.kind item.text t.kind (read-named old item r.0 r.1) a.0.kind, tokens-spelt texts r.0 items new ts r.2 a.1)

-- Texts are added at the end, from token to token and from file to file.
texts-grow : (known : List (List ℕ)) (items : List Item) → (more : List (List ℕ)) × (texts_behind known items ≡ known ++ more)
texts-grow known [] = ([], sym (append-nil known))
texts-grow known (item ∷ items) =
    let one = with_text-grows known (text_of item.kind item.text) in
    let others = texts-grow (with_text known (text_of item.kind item.text)) items in
    (one.0 ++ others.0, others.1 ∙ ap (λ (xs : List (List ℕ)). xs ++ others.0) one.1 ∙ append_assoc known one.0 others.0)

files-grow : (number most : ℕ) (known : List (List ℕ)) (files : List (List ℕ)) (texts : List (List ℕ)) (trees : List DeclTree) → ReadsFiles number most known files texts trees → (more : List (List ℕ)) × (texts ≡ known ++ more)
files-grow number most known [] texts trees r = ([], r.0 ∙ sym (append-nil known))
files-grow number most known (bytes ∷ files) texts trees r =
    let here = r.4.tokens_are in
    let one = texts-grow known here.items in
    let others = files-grow (number + 1) (most - length r.1) r.0 files texts r.3 r.5 in
    (one.0 ++ others.0, others.1 ∙ ap (λ (xs : List (List ℕ)). xs ++ others.0) (here.texts_are ∙ one.1) ∙ append_assoc known one.0 others.0)

abbrev AreSpelt : List (List ℕ) → List DeclTree → Type 0
AreSpelt texts trees = AllByRecursion (DeclIsGood (IsSpelt texts) (IsQuoted texts)) trees

files-spelt : (number most : ℕ) (known : List (List ℕ)) (files : List (List ℕ)) (texts : List (List ℕ)) (trees : List DeclTree) → ReadsFiles number most known files texts trees → AreSpelt texts trees
files-spelt number most known [] texts trees r = subst (AreSpelt texts) (sym r.1) tt
files-spelt number most known (bytes ∷ files) texts trees r =
    let here = r.4.tokens_are in
    let accepted = r.4.accepted in
    let grown = files-grow (number + 1) (most - length r.1) r.0 files texts r.3 r.5 in
    let P : List (List ℕ) → Type 0 = λ xs. TokensAre xs here.items r.1 in
    let stay : TokensAre texts here.items r.1 = subst P (sym grown.1) (tokens_stay r.0 grown.0 here.items r.1 here.tokens_are) in
    let tokens = tokens-spelt texts (start number bytes) here.items here.spelt.last r.1 here.spelt.reads stay in
    let own : AreSpelt texts r.2 = subst (AreSpelt texts) (sym accepted.means) (file-good (IsSpelt texts) (IsQuoted texts) accepted.file (subst (AreGood (IsSpelt texts) (IsQuoted texts)) accepted.text tokens)) in
    let others = files-spelt (number + 1) (most - length r.1) r.0 files texts r.3 r.5 in
    subst (AreSpelt texts) (sym r.6) (all-append (DeclIsGood (IsSpelt texts) (IsQuoted texts)) r.2 r.3 own others)

pub names-spelt : (name : List ℕ) (files : List (List ℕ)) (read : Parsed) → IsParsed name files read → AllByRecursion (DeclIsGood (IsSpelt read.texts) (IsQuoted read.texts)) (decls_of read)
names-spelt name files read is = files-spelt 0 262144 [] files read.texts (decls_of read) is.read
