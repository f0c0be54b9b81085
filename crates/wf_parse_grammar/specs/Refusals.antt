-- Which lists of tokens are accepted, and where and by which rule every other one is refused.
use Rattle.std.specs.Prelude.{◌≡◌, ◌+◌, ◌<◌, ◌≤◌, ℕ, Bool, true, false, List, [], ◌∷◌, ◌++◌, length}
use Rattle.std.specs.Bool.{⊤}
use Rattle.wf_text.specs.declared.rules.Rule.{Rule}
use Rattle.wf_text.specs.declared.rules.Rule.TheVariants.{S5, S6, L4, L5}
use Rattle.wf_ast.specs.ParsedTree.{DeclTree}
use Rattle.wf_parse_grammar.specs.declared.tokens.Kind.{Kind}
use Rattle.wf_parse_grammar.specs.declared.tokens.Kind.TheVariants as kinds
use Rattle.wf_parse_grammar.specs.declared.tokens.Token.{Token}
use Rattle.wf_parse_grammar.specs.Grammar.{ExprForm, Alone, FileForm, expr_before, file_before}
use Rattle.wf_parse_grammar.specs.Meaning.{file_trees}
use Rattle.wf_parse_grammar.specs.Files.{IsLive, IsFirstWrong}
use Rattle.wf_parse_grammar.specs.Brackets.{is_opening, opened, closed}
use Rattle.wf_parse_grammar.specs.Statements.{begins_statement, ends_in_break, begun}

-- At most 48 brackets are open at once, and at most 4,096 statements begin in a method.
abbrev pub IsShallow : List Token → Type 0
IsShallow tokens = (front : List Token) (t : Token) (back : List Token) → tokens ≡ front ++ t ∷ back → is_opening t.kind ≡ true → opened front < 48 + closed front

abbrev pub IsShort : List Token → Type 0
IsShort tokens = (front back : List Token) → tokens ≡ front ++ back → begun front ≤ 4096

pub record IsWithin (tokens : List Token) : Type 0 where
  pub shallow : IsShallow tokens
  pub short : IsShort tokens

-- The tokens of a file within the limits, with the trees of its declarations.
pub record IsAccepted (tokens : List Token) (trees : List DeclTree) : Type 0 where
  pub file : FileForm
  pub text : tokens ≡ file_before file []
  pub means : trees ≡ file_trees file
  pub within : IsWithin tokens

-- An operator or `as` directly after an operator expression without parentheses.
abbrev pub is_operator : Kind → Bool
is_operator (kinds.Chain op) = true
is_operator (kinds.Binary op) = true
is_operator kinds.As = true
is_operator _ = false

abbrev pub IsOperation : ExprForm → Type 0
IsOperation (Alone a) = ⊥
IsOperation _ = ⊤

pub record EndsInOperation (tokens : List Token) : Type 0 where
  pub before : List Token
  pub expr : ExprForm
  pub operation : IsOperation expr
  pub parts : tokens ≡ before ++ expr_before expr []

abbrev pub IsMixed : (front back : List Token) → Type 0
IsMixed front [] = ⊥
IsMixed front (t ∷ back) = (is_operator t.kind ≡ true) × EndsInOperation front

-- A token with which some file, limits aside, still begins, but which opens a 49th bracket.
abbrev pub IsTooDeep : (front back : List Token) → Type 0
IsTooDeep front [] = ⊥
IsTooDeep front (t ∷ back) = IsLive (front ++ t ∷ []) × (is_opening t.kind ≡ true) × (opened front ≡ 48 + closed front)

-- The same of a token that begins a 4,097th statement.
abbrev pub IsTooLong : (front back : List Token) → Type 0
IsTooLong front [] = ⊥
IsTooLong front (t ∷ back) = IsLive (front ++ t ∷ []) × (ends_in_break front ≡ true) × (begins_statement t.kind ≡ true) × (begun front ≡ 4096)

-- Why the tokens `back` may not stand after `front`.
abbrev pub Reason : Rule → (front back : List Token) → Type 0
Reason S5 front back = IsFirstWrong front back × (IsMixed front back → ⊥)
Reason S6 front back = IsFirstWrong front back × IsMixed front back
Reason L4 front back = IsTooDeep front back
Reason L5 front back = IsTooLong front back
Reason _ front back = ⊥

-- The tokens are refused by this rule at the last `left` of them, or at the file's end where `left` is 0.
pub record IsRefused (tokens : List Token) (rule : Rule) (left : ℕ) : Type 0 where
  pub front : List Token
  pub back : List Token
  pub parts : tokens ≡ front ++ back
  pub place : left ≡ length back
  pub live : IsLive front
  pub within : IsWithin front
  pub reason : Reason rule front back
