-- A list of the grammar is read to its end: the machine goes over the tokens of each form, and what may still go on
-- stays on the stack.
use Rattle.std.proofs.Common.{◌≡◌, ◌∙◌, ap, sym, subst, Bool, true, false, List, [], ◌∷◌, ◌++◌, refl, if◌then◌else◌}
use Rattle.wf_text.specs.declared.place.Place.{Place}
use Rattle.wf_ast.specs.declared.operators.Op.{Op}
use Rattle.wf_ast.specs.declared.parsed.Name.{Name}
use Rattle.wf_parse_grammar.specs.declared.tokens.Kind.{Kind}
use Rattle.wf_parse_grammar.specs.declared.tokens.Kind.TheVariants as kinds
use Rattle.wf_parse_grammar.specs.declared.tokens.Token.{Token}
use Rattle.wf_parse_grammar.specs.Grammar.{token, name_token, PathForm, BarePath, ThisPath, ArgsPath, OnForm, OnThis, OnPath, Exclaims, Asks, MarkPart, NoMark, AMark}
use Rattle.wf_parse_grammar.specs.Grammar.{ExprForm, Alone, Pair, Chained, Converted, LinksForm, NoLink, Link, OperandForm, Plain, Negated}
use Rattle.wf_parse_grammar.specs.Grammar.{AtomForm, ANumber, AText, ABaseText, AnOk, ATrue, AFalse, APath, Grouped, Indexed, Sliced, Called, NoPart, APart}
use Rattle.wf_parse_grammar.specs.Grammar.{GivensForm, NoGiven, FirstGiven, MoreGivensForm, LastGiven, GivenComma, NextGiven, TypeForm, BaseType, StatusType, SliceType, ArrayType, StructType, BoundsForm, NoBounds, Bounds}
use Rattle.wf_parse_grammar.specs.Grammar.{path_before, on_before, expr_before, links_before, operand_before, atom_before, givens_before, more_givens_before, type_before, bounds_before}
use Rattle.wf_parse_grammar.specs.Machine as m
use Rattle.wf_parse_grammar.specs.declared.symbols.Sym.{Sym}
use Rattle.wf_parse_grammar.specs.declared.symbols.Sym.TheVariants as syms
use Rattle.wf_parse_grammar.specs.Machine.{Take}
use Rattle.wf_ast.specs.Operators.{same_op, op_number}
use Rattle.wf_parse_grammar.proofs.OpLemmas.{eq-self}
use Rattle.wf_parse_grammar.specs.Feeding.{fed, feed, feeds, go_on}

-- What may still go on after a form, before what is wanted next.
abbrev pub atom_tail : AtomForm → List Sym → List Sym
atom_tail (APath (BarePath n)) k = syms.PathAtom ∷ k
atom_tail (APath (ThisPath p d n)) k = syms.ThisAtom ∷ k
atom_tail (APath (ArgsPath p d n)) k = syms.PathAtom ∷ k
atom_tail _ k = k

abbrev pub operand_tail : OperandForm → List Sym → List Sym
operand_tail (Plain a) k = atom_tail a k
operand_tail (Negated p a) k = atom_tail a k

abbrev pub links_tail : OperandForm → LinksForm → List Sym → List Sym
links_tail a NoLink k = operand_tail a k
links_tail a (Link p b ls) k = links_tail b ls k

abbrev pub bounds_tail : BoundsForm → List Sym → List Sym
bounds_tail NoBounds k = syms.BoundsPart ∷ k
bounds_tail (Bounds l low d high r) k = k

abbrev pub type_tail : TypeForm → List Sym → List Sym
type_tail (BaseType p d n b) k = bounds_tail b k
type_tail (StatusType p d w b) k = bounds_tail b k
type_tail (SliceType p t) k = type_tail t k
type_tail (ArrayType p l e r t) k = type_tail t k
type_tail (StructType n) k = k

abbrev pub expr_tail : ExprForm → List Sym → List Sym
expr_tail (Alone a) k = operand_tail a (syms.Rest ∷ k)
expr_tail (Pair a op p b) k = operand_tail b (syms.End ∷ k)
expr_tail (Chained a op p b ls) k = links_tail b ls (syms.Links op ∷ k)
expr_tail (Converted a p t) k = type_tail t (syms.End ∷ k)

-- Tokens after which an expression is over.
abbrev pub ends_expr : Kind → Bool
ends_expr (kinds.Chain op) = false
ends_expr (kinds.Binary op) = false
ends_expr kinds.As = false
ends_expr kinds.OpenSquare = false
ends_expr kinds.OpenRound = false
ends_expr kinds.Dot = false
ends_expr kinds.Exclamation = false
ends_expr kinds.Question = false
ends_expr _ = true

-- Tokens after which an operand is over.
abbrev pub ends_operand : Kind → Bool
ends_operand kinds.OpenSquare = false
ends_operand kinds.OpenRound = false
ends_operand kinds.Dot = false
ends_operand kinds.Exclamation = false
ends_operand kinds.Question = false
ends_operand _ = true

drop-path_atom : (k : List Sym) (t : Kind) → ends_operand t ≡ true → feed (syms.PathAtom ∷ k) t ≡ feed k t
drop-path_atom k kinds.OpenSquare h = absurd (cc h)
drop-path_atom k kinds.Dot h = absurd (cc h)
drop-path_atom k _ h = refl

drop-this_atom : (k : List Sym) (t : Kind) → ends_operand t ≡ true → feed (syms.ThisAtom ∷ k) t ≡ feed k t
drop-this_atom k kinds.OpenSquare h = absurd (cc h)
drop-this_atom k kinds.Dot h = absurd (cc h)
drop-this_atom k kinds.OpenRound h = absurd (cc h)
drop-this_atom k kinds.Exclamation h = absurd (cc h)
drop-this_atom k kinds.Question h = absurd (cc h)
drop-this_atom k _ h = refl

drop-bounds : (k : List Sym) (t : Kind) → ends_operand t ≡ true → feed (syms.BoundsPart ∷ k) t ≡ feed k t
drop-bounds k kinds.OpenSquare h = absurd (cc h)
drop-bounds k _ h = refl

drop-atom : (a : AtomForm) (k : List Sym) (t : Kind) → ends_operand t ≡ true → feed (atom_tail a k) t ≡ feed k t
drop-atom (APath (BarePath n)) k t h = drop-path_atom k t h
drop-atom (APath (ThisPath p d n)) k t h = drop-this_atom k t h
drop-atom (APath (ArgsPath p d n)) k t h = drop-path_atom k t h
drop-atom _ k t h = refl

drop-operand : (a : OperandForm) (k : List Sym) (t : Kind) → ends_operand t ≡ true → feed (operand_tail a k) t ≡ feed k t
drop-operand (Plain a) k t h = drop-atom a k t h
drop-operand (Negated p a) k t h = drop-atom a k t h

drop-links : (a : OperandForm) (ls : LinksForm) (k : List Sym) (t : Kind) → ends_operand t ≡ true → feed (links_tail a ls k) t ≡ feed k t
drop-links a NoLink k t h = drop-operand a k t h
drop-links a (Link p b ls) k t h = drop-links b ls k t h

drop-bounds_tail : (b : BoundsForm) (k : List Sym) (t : Kind) → ends_operand t ≡ true → feed (bounds_tail b k) t ≡ feed k t
drop-bounds_tail NoBounds k t h = drop-bounds k t h
drop-bounds_tail (Bounds l low d high r) k t h = refl

pub drop-type : (ty : TypeForm) (k : List Sym) (t : Kind) → ends_operand t ≡ true → feed (type_tail ty k) t ≡ feed k t
drop-type (BaseType p d n b) k t h = drop-bounds_tail b k t h
drop-type (StatusType p d w b) k t h = drop-bounds_tail b k t h
drop-type (SliceType p ty) k t h = drop-type ty k t h
drop-type (ArrayType p l e r ty) k t h = drop-type ty k t h
drop-type (StructType n) k t h = refl

drop-rest : (k : List Sym) (t : Kind) → ends_expr t ≡ true → feed (syms.Rest ∷ k) t ≡ feed k t
drop-rest k (kinds.Chain op) h = absurd (cc h)
drop-rest k (kinds.Binary op) h = absurd (cc h)
drop-rest k kinds.As h = absurd (cc h)
drop-rest k _ h = refl

drop-end : (k : List Sym) (t : Kind) → ends_expr t ≡ true → feed (syms.End ∷ k) t ≡ feed k t
drop-end k (kinds.Chain op) h = absurd (cc h)
drop-end k (kinds.Binary op) h = absurd (cc h)
drop-end k kinds.As h = absurd (cc h)
drop-end k _ h = refl

drop-more_links : (op : Op) (k : List Sym) (t : Kind) → ends_expr t ≡ true → feed (syms.Links op ∷ k) t ≡ feed k t
drop-more_links op k (kinds.Chain next) h = absurd (cc h)
drop-more_links op k (kinds.Binary next) h = absurd (cc h)
drop-more_links op k kinds.As h = absurd (cc h)
drop-more_links op k _ h = refl

ends_both : (t : Kind) → ends_expr t ≡ true → ends_operand t ≡ true
ends_both kinds.OpenSquare h = h
ends_both kinds.OpenRound h = h
ends_both kinds.Dot h = h
ends_both kinds.Exclamation h = h
ends_both kinds.Question h = h
ends_both _ h = refl

pub drop-expr : (e : ExprForm) (k : List Sym) (t : Kind) → ends_expr t ≡ true → feed (expr_tail e k) t ≡ feed k t
drop-expr (Alone a) k t h = drop-operand a (syms.Rest ∷ k) t (ends_both t h) ∙ drop-rest k t h
drop-expr (Pair a op p b) k t h = drop-operand b (syms.End ∷ k) t (ends_both t h) ∙ drop-end k t h
drop-expr (Chained a op p b ls) k t h = drop-links b ls (syms.Links op ∷ k) t (ends_both t h) ∙ drop-more_links op k t h
drop-expr (Converted a p ty) k t h = drop-type ty (syms.End ∷ k) t (ends_both t h) ∙ drop-end k t h

-- the same over what follows
pub over : (j k : List Sym) (t : Token) (ts : List Token) → feed j t.kind ≡ feed k t.kind → feeds (t ∷ ts) j ≡ feeds (t ∷ ts) k
over j k t ts e = ap (λ o. go_on o (λ wanted. feeds ts wanted)) e

-- What an atom and an expression begin with.
abbrev pub begins_atom : Kind → Bool
begins_atom (kinds.Number n) = true
begins_atom (kinds.Text n) = true
begins_atom kinds.Ok = true
begins_atom kinds.True = true
begins_atom kinds.False = true
begins_atom kinds.Base = true
begins_atom (kinds.Name n) = true
begins_atom kinds.This = true
begins_atom kinds.Args = true
begins_atom kinds.OpenRound = true
begins_atom _ = false

abbrev pub begins_expr : Kind → Bool
begins_expr kinds.Not = true
begins_expr t = begins_atom t

operand-atom : (k : List Sym) (t : Kind) → begins_atom t ≡ true → feed (syms.Operand ∷ k) t ≡ feed (syms.Atom ∷ k) t
operand-atom k (kinds.Number n) h = refl
operand-atom k (kinds.Text n) h = refl
operand-atom k kinds.Ok h = refl
operand-atom k kinds.True h = refl
operand-atom k kinds.False h = refl
operand-atom k kinds.Base h = refl
operand-atom k (kinds.Name n) h = refl
operand-atom k kinds.This h = refl
operand-atom k kinds.Args h = refl
operand-atom k kinds.OpenRound h = refl
operand-atom k _ h = absurd (cc h)

expr-operand : (k : List Sym) (t : Kind) → begins_expr t ≡ true → feed (syms.Expr ∷ k) t ≡ feed (syms.Operand ∷ syms.Rest ∷ k) t
expr-operand k kinds.Not h = refl
expr-operand k (kinds.Number n) h = refl
expr-operand k (kinds.Text n) h = refl
expr-operand k kinds.Ok h = refl
expr-operand k kinds.True h = refl
expr-operand k kinds.False h = refl
expr-operand k kinds.Base h = refl
expr-operand k (kinds.Name n) h = refl
expr-operand k kinds.This h = refl
expr-operand k kinds.Args h = refl
expr-operand k kinds.OpenRound h = refl
expr-operand k _ h = absurd (cc h)

cut-expr : (k : List Sym) (t : Kind) → begins_expr t ≡ true → feed (syms.Cut ∷ k) t ≡ feed (syms.Expr ∷ syms.CutTail ∷ k) t
cut-expr k kinds.Not h = refl
cut-expr k (kinds.Number n) h = refl
cut-expr k (kinds.Text n) h = refl
cut-expr k kinds.Ok h = refl
cut-expr k kinds.True h = refl
cut-expr k kinds.False h = refl
cut-expr k kinds.Base h = refl
cut-expr k (kinds.Name n) h = refl
cut-expr k kinds.This h = refl
cut-expr k kinds.Args h = refl
cut-expr k kinds.OpenRound h = refl
cut-expr k _ h = absurd (cc h)

cut_end-expr : (k : List Sym) (t : Kind) → begins_expr t ≡ true → feed (syms.CutEnd ∷ k) t ≡ feed (syms.Expr ∷ syms.RightSquare ∷ k) t
cut_end-expr k kinds.Not h = refl
cut_end-expr k (kinds.Number n) h = refl
cut_end-expr k (kinds.Text n) h = refl
cut_end-expr k kinds.Ok h = refl
cut_end-expr k kinds.True h = refl
cut_end-expr k kinds.False h = refl
cut_end-expr k kinds.Base h = refl
cut_end-expr k (kinds.Name n) h = refl
cut_end-expr k kinds.This h = refl
cut_end-expr k kinds.Args h = refl
cut_end-expr k kinds.OpenRound h = refl
cut_end-expr k _ h = absurd (cc h)

low-expr : (k : List Sym) (t : Kind) → begins_expr t ≡ true → feed (syms.Low ∷ k) t ≡ feed (syms.Expr ∷ syms.ADotsEquals ∷ syms.Expr ∷ syms.RightSquare ∷ k) t
low-expr k kinds.Not h = refl
low-expr k (kinds.Number n) h = refl
low-expr k (kinds.Text n) h = refl
low-expr k kinds.Ok h = refl
low-expr k kinds.True h = refl
low-expr k kinds.False h = refl
low-expr k kinds.Base h = refl
low-expr k (kinds.Name n) h = refl
low-expr k kinds.This h = refl
low-expr k kinds.Args h = refl
low-expr k kinds.OpenRound h = refl
low-expr k _ h = absurd (cc h)

pub while-expr : (k : List Sym) (t : Kind) → begins_expr t ≡ true → feed (syms.WhileHead ∷ k) t ≡ feed (syms.Expr ∷ syms.Clauses ∷ syms.EndPart ∷ k) t
while-expr k kinds.Not h = refl
while-expr k (kinds.Number n) h = refl
while-expr k (kinds.Text n) h = refl
while-expr k kinds.Ok h = refl
while-expr k kinds.True h = refl
while-expr k kinds.False h = refl
while-expr k kinds.Base h = refl
while-expr k (kinds.Name n) h = refl
while-expr k kinds.This h = refl
while-expr k kinds.Args h = refl
while-expr k kinds.OpenRound h = refl
while-expr k _ h = absurd (cc h)

pub result-expr : (k : List Sym) (t : Kind) → begins_expr t ≡ true → feed (syms.Result ∷ k) t ≡ feed (syms.Expr ∷ k) t
result-expr k kinds.Not h = refl
result-expr k (kinds.Number n) h = refl
result-expr k (kinds.Text n) h = refl
result-expr k kinds.Ok h = refl
result-expr k kinds.True h = refl
result-expr k kinds.False h = refl
result-expr k kinds.Base h = refl
result-expr k (kinds.Name n) h = refl
result-expr k kinds.This h = refl
result-expr k kinds.Args h = refl
result-expr k kinds.OpenRound h = refl
result-expr k _ h = absurd (cc h)

pub record Starts (test : Kind → Bool) (ts : List Token) : Type 0 where
  pub first : Token
  pub others : List Token
  pub is : ts ≡ first ∷ others
  pub passes : test first.kind ≡ true

pub path-starts : (path : PathForm) (rest : List Token) → Starts begins_atom (path_before path rest)
path-starts (BarePath n) rest = record { first = _; others = _; is = refl; passes = refl }
path-starts (ThisPath q x n) rest = record { first = _; others = _; is = refl; passes = refl }
path-starts (ArgsPath q x n) rest = record { first = _; others = _; is = refl; passes = refl }

on-starts : (on : OnForm) (rest : List Token) → Starts begins_atom (on_before on rest)
on-starts (OnThis p) rest = record { first = _; others = _; is = refl; passes = refl }
on-starts (OnPath path) rest = path-starts path rest

pub atom-starts : (a : AtomForm) (rest : List Token) → Starts begins_atom (atom_before a rest)
atom-starts (ANumber n p) rest = record { first = _; others = _; is = refl; passes = refl }
atom-starts (AText n) rest = record { first = _; others = _; is = refl; passes = refl }
atom-starts (ABaseText p d n) rest = record { first = _; others = _; is = refl; passes = refl }
atom-starts (AnOk p) rest = record { first = _; others = _; is = refl; passes = refl }
atom-starts (ATrue p) rest = record { first = _; others = _; is = refl; passes = refl }
atom-starts (AFalse p) rest = record { first = _; others = _; is = refl; passes = refl }
atom-starts (APath path) rest = path-starts path _
atom-starts (Grouped l e r) rest = record { first = _; others = _; is = refl; passes = refl }
atom-starts (Indexed path l e r) rest = path-starts path _
atom-starts (Sliced path l i d j r) rest = path-starts path _
atom-starts (Called on d n mark l gs r) rest = on-starts on _

atom-expr : (t : Kind) → begins_atom t ≡ true → begins_expr t ≡ true
atom-expr kinds.Not h = refl
atom-expr _ h = h

widen : (ts : List Token) → Starts begins_atom ts → Starts begins_expr ts
widen ts s = record { first = s.first; others = s.others; is = s.is; passes = atom-expr s.first.kind s.passes }

pub operand-starts : (a : OperandForm) (rest : List Token) → Starts begins_expr (operand_before a rest)
operand-starts (Plain a) rest = widen (atom_before a rest) (atom-starts a rest)
operand-starts (Negated p a) rest = record { first = _; others = _; is = refl; passes = refl }

pub expr-starts : (e : ExprForm) (rest : List Token) → Starts begins_expr (expr_before e rest)
expr-starts (Alone a) rest = operand-starts a rest
expr-starts (Pair a op p b) rest = operand-starts a _
expr-starts (Chained a op p b ls) rest = operand-starts a _
expr-starts (Converted a p t) rest = operand-starts a _

-- two stacks that do the same with the first token
pub swapped : (test : Kind → Bool) (ts : List Token) → Starts test ts → (j k : List Sym) → ((t : Kind) → test t ≡ true → feed j t ≡ feed k t) → feeds ts j ≡ feeds ts k
swapped test ts s j k f = let P : List Token → Type 0 = λ us. feeds us j ≡ feeds us k in subst P (sym s.is) (over j k s.first s.others (f s.first.kind s.passes))

-- What is shown of an expression, for the steps that use it.
abbrev pub Reads : ExprForm → Type 0
Reads e = (rest : List Token) (k : List Sym) → feeds (expr_before e rest) (syms.Expr ∷ k) ≡ feeds rest (expr_tail e k)

-- an expression and then a token after which it is over
pub to-token : (e : ExprForm) → Reads e → (t : Token) (rest : List Token) (k : List Sym) → ends_expr t.kind ≡ true
    → feeds (expr_before e (t ∷ rest)) (syms.Expr ∷ k) ≡ feeds (t ∷ rest) k
to-token e r t rest k h = r (t ∷ rest) k ∙ over (expr_tail e k) k t rest (drop-expr e k t.kind h)

pub from : (w : Sym) (ys : List Sym) (e : ExprForm) → ((k : List Sym) (t : Kind) → begins_expr t ≡ true → feed (w ∷ k) t ≡ feed (syms.Expr ∷ (ys ++ k)) t)
    → (rest : List Token) (k : List Sym) → feeds (expr_before e rest) (w ∷ k) ≡ feeds (expr_before e rest) (syms.Expr ∷ (ys ++ k))
from w ys e f rest k = swapped begins_expr (expr_before e rest) (expr-starts e rest) (w ∷ k) (syms.Expr ∷ (ys ++ k)) (f k)

index-read : (e : ExprForm) → Reads e → (r : Place) (rest : List Token) (k : List Sym) → feeds (expr_before e (token kinds.CloseSquare r ∷ rest)) (syms.Cut ∷ k) ≡ feeds rest k
index-read e h r rest k = from syms.Cut (syms.CutTail ∷ []) e cut-expr _ k ∙ to-token e h (token kinds.CloseSquare r) rest (syms.CutTail ∷ k) refl

end-read : (e : ExprForm) → Reads e → (r : Place) (rest : List Token) (k : List Sym) → feeds (expr_before e (token kinds.CloseSquare r ∷ rest)) (syms.CutEnd ∷ k) ≡ feeds rest k
end-read e h r rest k = from syms.CutEnd (syms.RightSquare ∷ []) e cut_end-expr _ k ∙ to-token e h (token kinds.CloseSquare r) rest (syms.RightSquare ∷ k) refl

start-read : (e : ExprForm) → Reads e → (d : Place) (rest : List Token) (k : List Sym) → feeds (expr_before e (token kinds.Dots d ∷ rest)) (syms.Cut ∷ k) ≡ feeds rest (syms.CutEnd ∷ k)
start-read e h d rest k = from syms.Cut (syms.CutTail ∷ []) e cut-expr _ k ∙ to-token e h (token kinds.Dots d) rest (syms.CutTail ∷ k) refl

low-read : (e : ExprForm) → Reads e → (d : Place) (rest : List Token) (k : List Sym) → feeds (expr_before e (token kinds.DotsEquals d ∷ rest)) (syms.Low ∷ k) ≡ feeds rest (syms.Expr ∷ syms.RightSquare ∷ k)
low-read e h d rest k = from syms.Low (syms.ADotsEquals ∷ syms.Expr ∷ syms.RightSquare ∷ []) e low-expr _ k ∙ to-token e h (token kinds.DotsEquals d) rest (syms.ADotsEquals ∷ syms.Expr ∷ syms.RightSquare ∷ k) refl

same_op-self : (op : Op) → same_op op op ≡ true
same_op-self op = eq-self (op_number op)

link-read : (op : Op) (p : Place) (ts : List Token) (k : List Sym) → feeds (token (kinds.Chain op) p ∷ ts) (syms.Links op ∷ k) ≡ feeds ts (syms.Operand ∷ syms.Links op ∷ k)
link-read op p ts k = ap (λ b. go_on (fed (if b then Take (syms.Operand ∷ syms.Links op ∷ []) else m.wrong_mix) k (feed k (kinds.Chain op))) (λ wanted. feeds ts wanted)) (same_op-self op)

-- The callee after a path or `this`.
abbrev GivensRead : GivensForm → Type 0
GivensRead gs = (r : Place) (rest : List Token) (k : List Sym) → feeds (givens_before gs (token kinds.CloseRound r ∷ rest)) (syms.Givens ∷ k) ≡ feeds rest k

call-read : (on : OnForm) (d : Place) (n : Name) (mark : MarkPart) (l : Place) (gs : GivensForm) (r : Place) → GivensRead gs → (rest : List Token) (k : List Sym)
    → feeds (atom_before (Called on d n mark l gs r) rest) (syms.Atom ∷ k) ≡ feeds rest k
call-read (OnThis q) d n NoMark l gs r h rest k = h r rest k
call-read (OnThis q) d n (AMark (Exclaims z)) l gs r h rest k = h r rest k
call-read (OnThis q) d n (AMark (Asks z)) l gs r h rest k = h r rest k
call-read (OnPath (BarePath x)) d n NoMark l gs r h rest k = h r rest k
call-read (OnPath (BarePath x)) d n (AMark (Exclaims z)) l gs r h rest k = h r rest k
call-read (OnPath (BarePath x)) d n (AMark (Asks z)) l gs r h rest k = h r rest k
call-read (OnPath (ThisPath q y x)) d n NoMark l gs r h rest k = h r rest k
call-read (OnPath (ThisPath q y x)) d n (AMark (Exclaims z)) l gs r h rest k = h r rest k
call-read (OnPath (ThisPath q y x)) d n (AMark (Asks z)) l gs r h rest k = h r rest k
call-read (OnPath (ArgsPath q y x)) d n NoMark l gs r h rest k = h r rest k
call-read (OnPath (ArgsPath q y x)) d n (AMark (Exclaims z)) l gs r h rest k = h r rest k
call-read (OnPath (ArgsPath q y x)) d n (AMark (Asks z)) l gs r h rest k = h r rest k

mutual
  pub fw-expr : (e : ExprForm) (rest : List Token) (k : List Sym) → feeds (expr_before e rest) (syms.Expr ∷ k) ≡ feeds rest (expr_tail e k)
  fw-expr (Alone a) rest k = swapped begins_expr _ (operand-starts a rest) (syms.Expr ∷ k) (syms.Operand ∷ syms.Rest ∷ k) (expr-operand k) ∙ fw-operand a rest (syms.Rest ∷ k)
  fw-expr (Pair a op p b) rest k =
      let t = token (kinds.Binary op) p in let behind = operand_before b rest in
      swapped begins_expr _ (operand-starts a (t ∷ behind)) (syms.Expr ∷ k) (syms.Operand ∷ syms.Rest ∷ k) (expr-operand k)
      ∙ fw-operand a (t ∷ behind) (syms.Rest ∷ k)
      ∙ over (operand_tail a (syms.Rest ∷ k)) (syms.Rest ∷ k) t behind (drop-operand a (syms.Rest ∷ k) t.kind refl)
      ∙ fw-operand b rest (syms.End ∷ k)
  fw-expr (Chained a op p b ls) rest k =
      let t = token (kinds.Chain op) p in let behind = operand_before b (links_before ls op rest) in
      swapped begins_expr _ (operand-starts a (t ∷ behind)) (syms.Expr ∷ k) (syms.Operand ∷ syms.Rest ∷ k) (expr-operand k)
      ∙ fw-operand a (t ∷ behind) (syms.Rest ∷ k)
      ∙ over (operand_tail a (syms.Rest ∷ k)) (syms.Rest ∷ k) t behind (drop-operand a (syms.Rest ∷ k) t.kind refl)
      ∙ fw-operand b (links_before ls op rest) (syms.Links op ∷ k)
      ∙ fw-links ls b op rest k
  fw-expr (Converted a p ty) rest k =
      let t = token kinds.As p in let behind = type_before ty rest in
      swapped begins_expr _ (operand-starts a (t ∷ behind)) (syms.Expr ∷ k) (syms.Operand ∷ syms.Rest ∷ k) (expr-operand k)
      ∙ fw-operand a (t ∷ behind) (syms.Rest ∷ k)
      ∙ over (operand_tail a (syms.Rest ∷ k)) (syms.Rest ∷ k) t behind (drop-operand a (syms.Rest ∷ k) t.kind refl)
      ∙ fw-type ty rest (syms.End ∷ k)

  pub fw-links : (ls : LinksForm) (b : OperandForm) (op : Op) (rest : List Token) (k : List Sym)
      → feeds (links_before ls op rest) (operand_tail b (syms.Links op ∷ k)) ≡ feeds rest (links_tail b ls (syms.Links op ∷ k))
  fw-links NoLink b op rest k = refl
  fw-links (Link p c ls) b op rest k =
      let t = token (kinds.Chain op) p in let behind = operand_before c (links_before ls op rest) in
      over (operand_tail b (syms.Links op ∷ k)) (syms.Links op ∷ k) t behind (drop-operand b (syms.Links op ∷ k) t.kind refl)
      ∙ link-read op p behind k
      ∙ fw-operand c (links_before ls op rest) (syms.Links op ∷ k)
      ∙ fw-links ls c op rest k

  pub fw-operand : (a : OperandForm) (rest : List Token) (k : List Sym) → feeds (operand_before a rest) (syms.Operand ∷ k) ≡ feeds rest (operand_tail a k)
  fw-operand (Plain a) rest k = swapped begins_atom _ (atom-starts a rest) (syms.Operand ∷ k) (syms.Atom ∷ k) (operand-atom k) ∙ fw-atom a rest k
  fw-operand (Negated p a) rest k = fw-atom a rest k

  fw-atom : (a : AtomForm) (rest : List Token) (k : List Sym) → feeds (atom_before a rest) (syms.Atom ∷ k) ≡ feeds rest (atom_tail a k)
  fw-atom (ANumber n p) rest k = refl
  fw-atom (AText n) rest k = refl
  fw-atom (ABaseText p d n) rest k = refl
  fw-atom (AnOk p) rest k = refl
  fw-atom (ATrue p) rest k = refl
  fw-atom (AFalse p) rest k = refl
  fw-atom (APath (BarePath n)) rest k = refl
  fw-atom (APath (ThisPath q x n)) rest k = refl
  fw-atom (APath (ArgsPath q x n)) rest k = refl
  fw-atom (Grouped l e r) rest k = to-token e (λ us j. fw-expr e us j) (token kinds.CloseRound r) rest (syms.RightRound ∷ k) refl
  fw-atom (Indexed (BarePath n) l e r) rest k = index-read e (λ us j. fw-expr e us j) r rest k
  fw-atom (Indexed (ThisPath q x n) l e r) rest k = index-read e (λ us j. fw-expr e us j) r rest k
  fw-atom (Indexed (ArgsPath q x n) l e r) rest k = index-read e (λ us j. fw-expr e us j) r rest k
  fw-atom (Sliced (BarePath n) l NoPart d NoPart r) rest k = refl
  fw-atom (Sliced (BarePath n) l NoPart d (APart f) r) rest k = end-read f (λ us j. fw-expr f us j) r rest k
  fw-atom (Sliced (BarePath n) l (APart e) d NoPart r) rest k = start-read e (λ us j. fw-expr e us j) d _ k
  fw-atom (Sliced (BarePath n) l (APart e) d (APart f) r) rest k = start-read e (λ us j. fw-expr e us j) d _ k ∙ end-read f (λ us j. fw-expr f us j) r rest k
  fw-atom (Sliced (ThisPath q x n) l NoPart d NoPart r) rest k = refl
  fw-atom (Sliced (ThisPath q x n) l NoPart d (APart f) r) rest k = end-read f (λ us j. fw-expr f us j) r rest k
  fw-atom (Sliced (ThisPath q x n) l (APart e) d NoPart r) rest k = start-read e (λ us j. fw-expr e us j) d _ k
  fw-atom (Sliced (ThisPath q x n) l (APart e) d (APart f) r) rest k = start-read e (λ us j. fw-expr e us j) d _ k ∙ end-read f (λ us j. fw-expr f us j) r rest k
  fw-atom (Sliced (ArgsPath q x n) l NoPart d NoPart r) rest k = refl
  fw-atom (Sliced (ArgsPath q x n) l NoPart d (APart f) r) rest k = end-read f (λ us j. fw-expr f us j) r rest k
  fw-atom (Sliced (ArgsPath q x n) l (APart e) d NoPart r) rest k = start-read e (λ us j. fw-expr e us j) d _ k
  fw-atom (Sliced (ArgsPath q x n) l (APart e) d (APart f) r) rest k = start-read e (λ us j. fw-expr e us j) d _ k ∙ end-read f (λ us j. fw-expr f us j) r rest k
  fw-atom (Called on d n mark l gs r) rest k = call-read on d n mark l gs r (λ q us j. fw-givens gs q us j) rest k

  pub fw-givens : (gs : GivensForm) (r : Place) (rest : List Token) (k : List Sym) → feeds (givens_before gs (token kinds.CloseRound r ∷ rest)) (syms.Givens ∷ k) ≡ feeds rest k
  fw-givens NoGiven r rest k = refl
  fw-givens (FirstGiven n c e more) r rest k = fw-expr e (more_givens_before more (token kinds.CloseRound r ∷ rest)) (syms.MoreGivens ∷ k) ∙ fw-more_givens more e r rest k

  fw-more_givens : (more : MoreGivensForm) (e : ExprForm) (r : Place) (rest : List Token) (k : List Sym)
      → feeds (more_givens_before more (token kinds.CloseRound r ∷ rest)) (expr_tail e (syms.MoreGivens ∷ k)) ≡ feeds rest k
  fw-more_givens LastGiven e r rest k = over (expr_tail e (syms.MoreGivens ∷ k)) (syms.MoreGivens ∷ k) (token kinds.CloseRound r) rest (drop-expr e _ kinds.CloseRound refl)
  fw-more_givens (GivenComma p) e r rest k = over (expr_tail e (syms.MoreGivens ∷ k)) (syms.MoreGivens ∷ k) (token kinds.Comma p) (token kinds.CloseRound r ∷ rest) (drop-expr e _ kinds.Comma refl)
  fw-more_givens (NextGiven p n c f more) e r rest k =
      over (expr_tail e (syms.MoreGivens ∷ k)) (syms.MoreGivens ∷ k) (token kinds.Comma p) (name_token n ∷ token kinds.Colon c ∷ expr_before f (more_givens_before more (token kinds.CloseRound r ∷ rest))) (drop-expr e _ kinds.Comma refl)
      ∙ fw-expr f (more_givens_before more (token kinds.CloseRound r ∷ rest)) (syms.MoreGivens ∷ k) ∙ fw-more_givens more f r rest k

  pub fw-type : (t : TypeForm) (rest : List Token) (k : List Sym) → feeds (type_before t rest) (syms.WholeType ∷ k) ≡ feeds rest (type_tail t k)
  fw-type (BaseType p d n b) rest k = fw-bounds b rest k
  fw-type (StatusType p d w b) rest k = fw-bounds b rest k
  fw-type (SliceType p t) rest k = fw-type t rest k
  fw-type (ArrayType p l e r t) rest k = to-token e (λ us j. fw-expr e us j) (token kinds.CloseSquare r) (type_before t rest) (syms.RightSquare ∷ syms.WholeType ∷ k) refl ∙ fw-type t rest k
  fw-type (StructType n) rest k = refl

  fw-bounds : (b : BoundsForm) (rest : List Token) (k : List Sym) → feeds (bounds_before b rest) (syms.BoundsPart ∷ k) ≡ feeds rest (bounds_tail b k)
  fw-bounds NoBounds rest k = refl
  fw-bounds (Bounds l NoPart d high r) rest k = to-token high (λ us j. fw-expr high us j) (token kinds.CloseSquare r) rest (syms.RightSquare ∷ k) refl
  fw-bounds (Bounds l (APart e) d high r) rest k = low-read e (λ us j. fw-expr e us j) d _ k ∙ to-token high (λ us j. fw-expr high us j) (token kinds.CloseSquare r) rest (syms.RightSquare ∷ k) refl
