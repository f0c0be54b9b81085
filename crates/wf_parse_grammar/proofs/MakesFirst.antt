-- Where a form of the grammar begins or is over: what a symbol that may be absent leaves to the token after it, and
-- which symbols do the same with an expression's first token.
use Rattle.std.proofs.Common.{◌≡◌, ap, sym, subst, Bool, true, List, [], ◌∷◌, ◌++◌, refl}
use Rattle.wf_text.specs.declared.place.Place.{Place}
use Rattle.wf_ast.specs.declared.operators.Op.{Op}
use Rattle.wf_ast.specs.ParsedTree.{DeclTree}
use Rattle.wf_parse_grammar.specs.declared.tokens.Kind.{Kind}
use Rattle.wf_parse_grammar.specs.declared.tokens.Kind.TheVariants as kinds
use Rattle.wf_parse_grammar.specs.declared.tokens.Token.{Token}
use Rattle.wf_parse_grammar.specs.declared.symbols.Sym.{Sym}
use Rattle.wf_parse_grammar.specs.declared.symbols.Sym.TheVariants as syms
use Rattle.wf_parse_grammar.specs.declared.symbols.Action.TheVariants as does
use Rattle.wf_parse_grammar.specs.declared.symbols.Want.{Want}
use Rattle.wf_parse_grammar.specs.declared.symbols.Want.TheVariants.{Read, Make}
use Rattle.wf_parse_grammar.specs.Grammar.{token}
use Rattle.wf_parse_grammar.specs.Building.{Pass, build, skipped}
use Rattle.wf_parse_grammar.specs.Values.{Val, Made}
use Rattle.wf_parse_grammar.proofs.Forward.{ends_expr, ends_operand, begins_atom, begins_expr, Starts}
use Rattle.wf_parse_grammar.proofs.Makes.{go, makes}

-- Values before declarations.
abbrev pub made : List Val → List DeclTree → Made
made vs d = record { vals = vs; decls = d }

-- The first token passes a test.
abbrev pub Follows : (Kind → Bool) → List Token → Type 0
Follows test [] = ⊥
Follows test (t ∷ ts) = test t.kind ≡ true

-- A symbol that passes such a token on is left out.
abbrev pub PassesAt : (Kind → Bool) → Sym → Type 0
PassesAt test s = (t : Kind) (p : Place) → test t ≡ true → build s t p ≡ Pass

pub left_out : (test : Kind → Bool) (s : Sym) → PassesAt test s → (k : List Want) (ts : List Token) (m : Made) → Follows test ts
    → makes (Read s ∷ k) ts m ≡ makes k ts (skipped s m)
left_out test s f k [] m h = absurd h
left_out test s f k (t ∷ ts) m h = ap (λ w. go w (λ xs. makes (xs ++ k) ts m) (makes k (t ∷ ts) (skipped s m))) (f t.kind t.at h)

pub passes-path_atom : PassesAt ends_operand syms.PathAtom
passes-path_atom kinds.OpenSquare p h = absurd (cc h)
passes-path_atom kinds.Dot p h = absurd (cc h)
passes-path_atom _ p h = refl

pub passes-this_atom : PassesAt ends_operand syms.ThisAtom
passes-this_atom kinds.OpenSquare p h = absurd (cc h)
passes-this_atom kinds.Dot p h = absurd (cc h)
passes-this_atom kinds.OpenRound p h = absurd (cc h)
passes-this_atom kinds.Exclamation p h = absurd (cc h)
passes-this_atom kinds.Question p h = absurd (cc h)
passes-this_atom _ p h = refl

pub passes-bounds : PassesAt ends_operand syms.BoundsPart
passes-bounds kinds.OpenSquare p h = absurd (cc h)
passes-bounds _ p h = refl

pub passes-rest : PassesAt ends_expr syms.Rest
passes-rest (kinds.Chain op) p h = absurd (cc h)
passes-rest (kinds.Binary op) p h = absurd (cc h)
passes-rest kinds.As p h = absurd (cc h)
passes-rest _ p h = refl

pub passes-end : PassesAt ends_expr syms.End
passes-end (kinds.Chain op) p h = absurd (cc h)
passes-end (kinds.Binary op) p h = absurd (cc h)
passes-end kinds.As p h = absurd (cc h)
passes-end _ p h = refl

pub passes-links : (op : Op) → PassesAt ends_expr (syms.Links op)
passes-links op (kinds.Chain next) p h = absurd (cc h)
passes-links op (kinds.Binary next) p h = absurd (cc h)
passes-links op kinds.As p h = absurd (cc h)
passes-links op _ p h = refl

pub ends-both : (ts : List Token) → Follows ends_expr ts → Follows ends_operand ts
ends-both [] h = absurd h
ends-both (t ∷ ts) h = kind-both t.kind h
  where
    kind-both : (t : Kind) → ends_expr t ≡ true → ends_operand t ≡ true
    kind-both kinds.OpenSquare h = h
    kind-both kinds.OpenRound h = h
    kind-both kinds.Dot h = h
    kind-both kinds.Exclamation h = h
    kind-both kinds.Question h = h
    kind-both _ h = refl

-- Two stacks that do the same with such a first token.
abbrev pub SameAt : (Kind → Bool) → (j k : List Want) → Type 0
SameAt test j k = (t : Kind) (p : Place) (ts : List Token) (m : Made) → test t ≡ true → makes j (token t p ∷ ts) m ≡ makes k (token t p ∷ ts) m

pub swapped : (test : Kind → Bool) (j k : List Want) → SameAt test j k → (ts : List Token) (m : Made) → Starts test ts → makes j ts m ≡ makes k ts m
swapped test j k f ts m s =
    let P : List Token → Type 0 = λ us. makes j us m ≡ makes k us m in
    subst P (sym s.is) (f s.first.kind s.first.at s.others m s.passes)

pub operand-atom : (k : List Want) → SameAt begins_atom (Read syms.Operand ∷ k) (Read syms.Atom ∷ k)
operand-atom k (kinds.Number n) p ts m h = refl
operand-atom k (kinds.Text n) p ts m h = refl
operand-atom k kinds.Ok p ts m h = refl
operand-atom k kinds.True p ts m h = refl
operand-atom k kinds.False p ts m h = refl
operand-atom k kinds.Base p ts m h = refl
operand-atom k (kinds.Name n) p ts m h = refl
operand-atom k kinds.This p ts m h = refl
operand-atom k kinds.Args p ts m h = refl
operand-atom k kinds.OpenRound p ts m h = refl
operand-atom k _ p ts m h = absurd (cc h)

pub expr-operand : (k : List Want) → SameAt begins_expr (Read syms.Expr ∷ k) (Read syms.Operand ∷ Read syms.Rest ∷ k)
expr-operand k kinds.Not p ts m h = refl
expr-operand k (kinds.Number n) p ts m h = refl
expr-operand k (kinds.Text n) p ts m h = refl
expr-operand k kinds.Ok p ts m h = refl
expr-operand k kinds.True p ts m h = refl
expr-operand k kinds.False p ts m h = refl
expr-operand k kinds.Base p ts m h = refl
expr-operand k (kinds.Name n) p ts m h = refl
expr-operand k kinds.This p ts m h = refl
expr-operand k kinds.Args p ts m h = refl
expr-operand k kinds.OpenRound p ts m h = refl
expr-operand k _ p ts m h = absurd (cc h)

pub cut-expr : (k : List Want) → SameAt begins_expr (Read syms.Cut ∷ k) (Read syms.Expr ∷ Read syms.CutTail ∷ k)
cut-expr k kinds.Not p ts m h = refl
cut-expr k (kinds.Number n) p ts m h = refl
cut-expr k (kinds.Text n) p ts m h = refl
cut-expr k kinds.Ok p ts m h = refl
cut-expr k kinds.True p ts m h = refl
cut-expr k kinds.False p ts m h = refl
cut-expr k kinds.Base p ts m h = refl
cut-expr k (kinds.Name n) p ts m h = refl
cut-expr k kinds.This p ts m h = refl
cut-expr k kinds.Args p ts m h = refl
cut-expr k kinds.OpenRound p ts m h = refl
cut-expr k _ p ts m h = absurd (cc h)

pub cut_end-expr : (k : List Want) → SameAt begins_expr (Read syms.CutEnd ∷ k) (Read syms.Expr ∷ Make does.SomePart ∷ Read syms.RightSquare ∷ Make does.SliceExpr ∷ k)
cut_end-expr k kinds.Not p ts m h = refl
cut_end-expr k (kinds.Number n) p ts m h = refl
cut_end-expr k (kinds.Text n) p ts m h = refl
cut_end-expr k kinds.Ok p ts m h = refl
cut_end-expr k kinds.True p ts m h = refl
cut_end-expr k kinds.False p ts m h = refl
cut_end-expr k kinds.Base p ts m h = refl
cut_end-expr k (kinds.Name n) p ts m h = refl
cut_end-expr k kinds.This p ts m h = refl
cut_end-expr k kinds.Args p ts m h = refl
cut_end-expr k kinds.OpenRound p ts m h = refl
cut_end-expr k _ p ts m h = absurd (cc h)

pub low-expr : (k : List Want) → SameAt begins_expr (Read syms.Low ∷ k) (Read syms.Expr ∷ Make does.SomePart ∷ Read syms.ADotsEquals ∷ Read syms.Expr ∷ Read syms.RightSquare ∷ Make does.SomeBounds ∷ k)
low-expr k kinds.Not p ts m h = refl
low-expr k (kinds.Number n) p ts m h = refl
low-expr k (kinds.Text n) p ts m h = refl
low-expr k kinds.Ok p ts m h = refl
low-expr k kinds.True p ts m h = refl
low-expr k kinds.False p ts m h = refl
low-expr k kinds.Base p ts m h = refl
low-expr k (kinds.Name n) p ts m h = refl
low-expr k kinds.This p ts m h = refl
low-expr k kinds.Args p ts m h = refl
low-expr k kinds.OpenRound p ts m h = refl
low-expr k _ p ts m h = absurd (cc h)

pub while-expr : (k : List Want) → SameAt begins_expr (Read syms.WhileHead ∷ k) (Read syms.Expr ∷ Make does.StartClauses ∷ Read syms.Clauses ∷ Read syms.EndPart ∷ Make does.LoopStmt ∷ k)
while-expr k kinds.Not p ts m h = refl
while-expr k (kinds.Number n) p ts m h = refl
while-expr k (kinds.Text n) p ts m h = refl
while-expr k kinds.Ok p ts m h = refl
while-expr k kinds.True p ts m h = refl
while-expr k kinds.False p ts m h = refl
while-expr k kinds.Base p ts m h = refl
while-expr k (kinds.Name n) p ts m h = refl
while-expr k kinds.This p ts m h = refl
while-expr k kinds.Args p ts m h = refl
while-expr k kinds.OpenRound p ts m h = refl
while-expr k _ p ts m h = absurd (cc h)

pub result-expr : (k : List Want) → SameAt begins_expr (Read syms.Result ∷ k) (Read syms.Expr ∷ Make does.SomePart ∷ k)
result-expr k kinds.Not p ts m h = refl
result-expr k (kinds.Number n) p ts m h = refl
result-expr k (kinds.Text n) p ts m h = refl
result-expr k kinds.Ok p ts m h = refl
result-expr k kinds.True p ts m h = refl
result-expr k kinds.False p ts m h = refl
result-expr k kinds.Base p ts m h = refl
result-expr k (kinds.Name n) p ts m h = refl
result-expr k kinds.This p ts m h = refl
result-expr k kinds.Args p ts m h = refl
result-expr k kinds.OpenRound p ts m h = refl
result-expr k _ p ts m h = absurd (cc h)
