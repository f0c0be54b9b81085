-- What a symbol's move wants completes the symbol after the token that was read.
use Rattle.std.proofs.Common.{◌≡◌, sym, Bool, true, false, List, [], ◌∷◌, ◌++◌, refl, if◌then◌else◌}
use Rattle.std.specs.Bool.{⊤}
use Rattle.wf_text.specs.declared.place.Place.{Place}
use Rattle.wf_ast.specs.declared.operators.Op.{Op}
use Rattle.wf_ast.specs.declared.parsed.Name.{Name}
use Rattle.wf_parse_grammar.specs.declared.tokens.Kind.{Kind}
use Rattle.wf_parse_grammar.specs.declared.tokens.Kind.TheVariants as kinds
use Rattle.wf_parse_grammar.specs.declared.tokens.Token.{Token}
use Rattle.wf_parse_grammar.specs.Grammar.{token, BarePath, ThisPath, ArgsPath, OnThis, OnPath, Exclaims, Asks, NoMark, AMark}
use Rattle.wf_parse_grammar.specs.Grammar.{ExprForm, Pair, Chained, Converted, Link, Plain, Negated}
use Rattle.wf_parse_grammar.specs.Grammar.{ANumber, AText, ABaseText, AnOk, ATrue, AFalse, Grouped, Indexed, Sliced, Called, NoPart, APart}
use Rattle.wf_parse_grammar.specs.Grammar.{GivensForm, NoGiven, FirstGiven, MoreGivensForm, LastGiven, GivenComma, NextGiven, BaseType, StatusType, SliceType, ArrayType, StructType, Bounds}
use Rattle.wf_parse_grammar.specs.Grammar.{givens_before, more_givens_before}
use Rattle.wf_parse_grammar.specs.Machine as m
use Rattle.wf_parse_grammar.specs.declared.symbols.Sym.{Sym}
use Rattle.wf_parse_grammar.specs.declared.symbols.Sym.TheVariants as syms
use Rattle.wf_parse_grammar.specs.Machine.{Move, Take, Begin, Enter, Pass, Stop}
use Rattle.wf_ast.specs.Operators.{same_op}
use Rattle.wf_parse_grammar.specs.Words.{Word, Words}
use Rattle.wf_parse_grammar.proofs.OpLemmas.{same_op-true}

-- Of what is wanted where the move reads the token.
abbrev pub OnTaken : Move → (List Sym → Type 0) → Type 0
OnTaken (Take xs) P = P xs
OnTaken (Begin xs) P = P xs
OnTaken (Enter xs) P = P xs
OnTaken Pass P = ⊤
OnTaken (Stop r) P = ⊤

abbrev pub Back : Sym → Move → Token → Type 0
Back s w t = OnTaken w (λ xs. (ts rest : List Token) → Words xs ts rest → Word s (t ∷ ts) rest)

pub back-dot : (k : Kind) (p : Place) → Back syms.ADot (m.dot_move k) (token k p)
back-dot kinds.Dot p = λ ts rest d. (p, cc d)
back-dot _ p = tt

pub back-colon : (k : Kind) (p : Place) → Back syms.AColon (m.colon_move k) (token k p)
back-colon kinds.Colon p = λ ts rest d. (p, cc d)
back-colon _ p = tt

pub back-semicolon : (k : Kind) (p : Place) → Back syms.ASemicolon (m.semicolon_move k) (token k p)
back-semicolon kinds.Semicolon p = λ ts rest d. (p, cc d)
back-semicolon _ p = tt

pub back-equals : (k : Kind) (p : Place) → Back syms.AnEquals (m.equals_move k) (token k p)
back-equals kinds.Equals p = λ ts rest d. (p, cc d)
back-equals _ p = tt

pub back-question : (k : Kind) (p : Place) → Back syms.AQuestion (m.question_move k) (token k p)
back-question kinds.Question p = λ ts rest d. (p, cc d)
back-question _ p = tt

pub back-dots_equals : (k : Kind) (p : Place) → Back syms.ADotsEquals (m.dots_equals_move k) (token k p)
back-dots_equals kinds.DotsEquals p = λ ts rest d. (p, cc d)
back-dots_equals _ p = tt

pub back-right_round : (k : Kind) (p : Place) → Back syms.RightRound (m.right_round_move k) (token k p)
back-right_round kinds.CloseRound p = λ ts rest d. (p, cc d)
back-right_round _ p = tt

pub back-right_square : (k : Kind) (p : Place) → Back syms.RightSquare (m.right_square_move k) (token k p)
back-right_square kinds.CloseSquare p = λ ts rest d. (p, cc d)
back-right_square _ p = tt

pub back-name : (k : Kind) (p : Place) → Back syms.AName (m.name_move k) (token k p)
back-name (kinds.Name n) p = λ ts rest d. (record { text = n; at = p }, cc d)
back-name _ p = tt

pub back-text : (k : Kind) (p : Place) → Back syms.AText (m.text_move k) (token k p)
back-text (kinds.Text n) p = λ ts rest d. (record { text = n; at = p }, cc d)
back-text _ p = tt

pub back-atom : (k : Kind) (p : Place) → Back syms.Atom (m.atom_move k) (token k p)
back-atom (kinds.Number n) p = λ ts rest d. (ANumber n p, cc d)
back-atom (kinds.Text n) p = λ ts rest d. (AText (record { text = n; at = p }), cc d)
back-atom kinds.Ok p = λ ts rest d. (AnOk p, cc d)
back-atom kinds.True p = λ ts rest d. (ATrue p, cc d)
back-atom kinds.False p = λ ts rest d. (AFalse p, cc d)
back-atom kinds.Base p = λ ts rest d. (ABaseText p d.1.0 d.2.1.0, cc (d.1.1, d.2.1.1, d.2.2))
back-atom (kinds.Name n) p = λ ts rest d. let w = d.1 (BarePath (record { text = n; at = p })) in (w.0, cc (w.1, d.2))
back-atom kinds.This p = λ ts rest d. let w = d.2.2.1 p d.1.0 d.2.1.0 in (w.0, cc (w.1, d.1.1, d.2.1.1, d.2.2.2))
back-atom kinds.Args p = λ ts rest d. let w = d.2.2.1 (ArgsPath p d.1.0 d.2.1.0) in (w.0, cc (w.1, d.1.1, d.2.1.1, d.2.2.2))
back-atom kinds.OpenRound p = λ ts rest d. (Grouped p d.1.0 d.2.1.0, cc (d.1.1, d.2.1.1, d.2.2))
back-atom _ p = tt

pub back-operand : (k : Kind) (p : Place) → Back syms.Operand (m.operand_move k) (token k p)
back-operand kinds.Not p = λ ts rest d. (Negated p d.1.0, cc (d.1.1, d.2))
back-operand (kinds.Number n) p = λ ts rest d. let w = back-atom (kinds.Number n) p ts rest d in (Plain w.0, w.1)
back-operand (kinds.Text n) p = λ ts rest d. let w = back-atom (kinds.Text n) p ts rest d in (Plain w.0, w.1)
back-operand kinds.Ok p = λ ts rest d. let w = back-atom kinds.Ok p ts rest d in (Plain w.0, w.1)
back-operand kinds.True p = λ ts rest d. let w = back-atom kinds.True p ts rest d in (Plain w.0, w.1)
back-operand kinds.False p = λ ts rest d. let w = back-atom kinds.False p ts rest d in (Plain w.0, w.1)
back-operand kinds.Base p = λ ts rest d. let w = back-atom kinds.Base p ts rest d in (Plain w.0, w.1)
back-operand (kinds.Name n) p = λ ts rest d. let w = back-atom (kinds.Name n) p ts rest d in (Plain w.0, w.1)
back-operand kinds.This p = λ ts rest d. let w = back-atom kinds.This p ts rest d in (Plain w.0, w.1)
back-operand kinds.Args p = λ ts rest d. let w = back-atom kinds.Args p ts rest d in (Plain w.0, w.1)
back-operand kinds.OpenRound p = λ ts rest d. let w = back-atom kinds.OpenRound p ts rest d in (Plain w.0, w.1)
back-operand _ p = tt

-- words of more symbols, cut in two
pub cut-words : (xs k : List Sym) (ts rest : List Token) → Words (xs ++ k) ts rest → (mid : List Token) × Words xs ts mid × Words k mid rest
cut-words [] k ts rest d = (ts, refl, d)
cut-words (x ∷ xs) k ts rest d = let w = cut-words xs k d.0 rest d.2 in (w.0, (d.0, d.1, w.1), w.2)

-- a move with more after it
pub back-followed : (s : Sym) (w : Move) (t : Token) (ys : List Sym) (q : Sym)
    → Back s w t → ((ts mid rest : List Token) → Word s (t ∷ ts) mid → Words ys mid rest → Word q (t ∷ ts) rest) → Back q (m.followed w ys) t
back-followed s (Take xs) t ys q b f = λ ts rest d. let w = cut-words xs ys ts rest d in f ts w.0 rest (b ts w.0 w.1) w.2
back-followed s (Begin xs) t ys q b f = λ ts rest d. let w = cut-words xs ys ts rest d in f ts w.0 rest (b ts w.0 w.1) w.2
back-followed s (Enter xs) t ys q b f = λ ts rest d. let w = cut-words xs ys ts rest d in f ts w.0 rest (b ts w.0 w.1) w.2
back-followed s Pass t ys q b f = tt
back-followed s (Stop r) t ys q b f = tt

pub back-expr : (k : Kind) (p : Place) → Back syms.Expr (m.expr_move k) (token k p)
back-expr k p = back-followed syms.Operand (m.operand_move k) (token k p) (syms.Rest ∷ []) syms.Expr (back-operand k p)
    (λ ts mid rest w d. let e = d.1 w.0 in (e.0, cc (w.1, e.1, d.2)))

pub back-path_atom : (k : Kind) (p : Place) → Back syms.PathAtom (m.path_atom_move k) (token k p)
back-path_atom kinds.OpenSquare p = λ ts rest d. λ path. let w = d.1 path p in (w.0, cc (w.1, d.2))
back-path_atom kinds.Dot p = λ ts rest d. λ path. (Called (OnPath path) p d.1.0 d.2.1.0 d.2.1.1 d.2.1.2 d.2.1.3, cc (d.1.1, d.2.1.4, d.2.2))
back-path_atom _ p = tt

pub back-call_open : (k : Kind) (p : Place) → Back syms.CallOpen (m.call_open_move k) (token k p)
back-call_open kinds.Exclamation p = λ ts rest d. (AMark (Exclaims p), d.1.0, d.1.1, d.1.2, cc (d.1.3, d.2))
back-call_open kinds.Question p = λ ts rest d. (AMark (Asks p), d.1.0, d.1.1, d.1.2, cc (d.1.3, d.2))
back-call_open kinds.OpenRound p = λ ts rest d. (NoMark, p, d.1.0, d.1.1, cc (d.1.2, d.2))
back-call_open _ p = tt

pub back-this_atom : (k : Kind) (p : Place) → Back syms.ThisAtom (m.this_atom_move k) (token k p)
back-this_atom kinds.Exclamation p = λ ts rest d. λ q x n. (Called (OnThis q) x n (AMark (Exclaims p)) d.1.0 d.1.1 d.1.2, cc (d.1.3, d.2))
back-this_atom kinds.Question p = λ ts rest d. λ q x n. (Called (OnThis q) x n (AMark (Asks p)) d.1.0 d.1.1 d.1.2, cc (d.1.3, d.2))
back-this_atom kinds.OpenRound p = λ ts rest d. λ q x n. (Called (OnThis q) x n NoMark p d.1.0 d.1.1, cc (d.1.2, d.2))
back-this_atom kinds.OpenSquare p = λ ts rest d. λ q x n. back-path_atom kinds.OpenSquare p ts rest d (ThisPath q x n)
back-this_atom kinds.Dot p = λ ts rest d. λ q x n. back-path_atom kinds.Dot p ts rest d (ThisPath q x n)
back-this_atom _ p = tt

pub back-cut : (k : Kind) (p : Place) → Back syms.Cut (m.cut_move k) (token k p)
back-cut kinds.Dots p = λ ts rest d. λ path l. (Sliced path l NoPart p d.1.0 d.1.1, cc (d.1.2, d.2))
back-cut kinds.Not p = back-followed syms.Expr (m.expr_move kinds.Not) (token kinds.Not p) (syms.CutTail ∷ []) syms.Cut (back-expr kinds.Not p) (λ ts mid rest w d. λ path l. let v = d.1 path l w.0 in (v.0, cc (w.1, v.1, d.2)))
back-cut (kinds.Number n) p = back-followed syms.Expr (m.expr_move (kinds.Number n)) (token (kinds.Number n) p) (syms.CutTail ∷ []) syms.Cut (back-expr (kinds.Number n) p) (λ ts mid rest w d. λ path l. let v = d.1 path l w.0 in (v.0, cc (w.1, v.1, d.2)))
back-cut (kinds.Text n) p = back-followed syms.Expr (m.expr_move (kinds.Text n)) (token (kinds.Text n) p) (syms.CutTail ∷ []) syms.Cut (back-expr (kinds.Text n) p) (λ ts mid rest w d. λ path l. let v = d.1 path l w.0 in (v.0, cc (w.1, v.1, d.2)))
back-cut kinds.Ok p = back-followed syms.Expr (m.expr_move kinds.Ok) (token kinds.Ok p) (syms.CutTail ∷ []) syms.Cut (back-expr kinds.Ok p) (λ ts mid rest w d. λ path l. let v = d.1 path l w.0 in (v.0, cc (w.1, v.1, d.2)))
back-cut kinds.True p = back-followed syms.Expr (m.expr_move kinds.True) (token kinds.True p) (syms.CutTail ∷ []) syms.Cut (back-expr kinds.True p) (λ ts mid rest w d. λ path l. let v = d.1 path l w.0 in (v.0, cc (w.1, v.1, d.2)))
back-cut kinds.False p = back-followed syms.Expr (m.expr_move kinds.False) (token kinds.False p) (syms.CutTail ∷ []) syms.Cut (back-expr kinds.False p) (λ ts mid rest w d. λ path l. let v = d.1 path l w.0 in (v.0, cc (w.1, v.1, d.2)))
back-cut kinds.Base p = back-followed syms.Expr (m.expr_move kinds.Base) (token kinds.Base p) (syms.CutTail ∷ []) syms.Cut (back-expr kinds.Base p) (λ ts mid rest w d. λ path l. let v = d.1 path l w.0 in (v.0, cc (w.1, v.1, d.2)))
back-cut (kinds.Name n) p = back-followed syms.Expr (m.expr_move (kinds.Name n)) (token (kinds.Name n) p) (syms.CutTail ∷ []) syms.Cut (back-expr (kinds.Name n) p) (λ ts mid rest w d. λ path l. let v = d.1 path l w.0 in (v.0, cc (w.1, v.1, d.2)))
back-cut kinds.This p = back-followed syms.Expr (m.expr_move kinds.This) (token kinds.This p) (syms.CutTail ∷ []) syms.Cut (back-expr kinds.This p) (λ ts mid rest w d. λ path l. let v = d.1 path l w.0 in (v.0, cc (w.1, v.1, d.2)))
back-cut kinds.Args p = back-followed syms.Expr (m.expr_move kinds.Args) (token kinds.Args p) (syms.CutTail ∷ []) syms.Cut (back-expr kinds.Args p) (λ ts mid rest w d. λ path l. let v = d.1 path l w.0 in (v.0, cc (w.1, v.1, d.2)))
back-cut kinds.OpenRound p = back-followed syms.Expr (m.expr_move kinds.OpenRound) (token kinds.OpenRound p) (syms.CutTail ∷ []) syms.Cut (back-expr kinds.OpenRound p) (λ ts mid rest w d. λ path l. let v = d.1 path l w.0 in (v.0, cc (w.1, v.1, d.2)))
back-cut _ p = tt

pub back-cut_tail : (k : Kind) (p : Place) → Back syms.CutTail (m.cut_tail_move k) (token k p)
back-cut_tail kinds.CloseSquare p = λ ts rest d. λ path l e. (Indexed path l e p, cc d)
back-cut_tail kinds.Dots p = λ ts rest d. λ path l e. (Sliced path l (APart e) p d.1.0 d.1.1, cc (d.1.2, d.2))
back-cut_tail _ p = tt

pub back-cut_end : (k : Kind) (p : Place) → Back syms.CutEnd (m.cut_end_move k) (token k p)
back-cut_end kinds.CloseSquare p = λ ts rest d. (NoPart, p, cc d)
back-cut_end kinds.Not p = back-followed syms.Expr (m.expr_move kinds.Not) (token kinds.Not p) (syms.RightSquare ∷ []) syms.CutEnd (back-expr kinds.Not p) (λ ts mid rest w d. (APart w.0, d.1.0, cc (w.1, d.1.1, d.2)))
back-cut_end (kinds.Number n) p = back-followed syms.Expr (m.expr_move (kinds.Number n)) (token (kinds.Number n) p) (syms.RightSquare ∷ []) syms.CutEnd (back-expr (kinds.Number n) p) (λ ts mid rest w d. (APart w.0, d.1.0, cc (w.1, d.1.1, d.2)))
back-cut_end (kinds.Text n) p = back-followed syms.Expr (m.expr_move (kinds.Text n)) (token (kinds.Text n) p) (syms.RightSquare ∷ []) syms.CutEnd (back-expr (kinds.Text n) p) (λ ts mid rest w d. (APart w.0, d.1.0, cc (w.1, d.1.1, d.2)))
back-cut_end kinds.Ok p = back-followed syms.Expr (m.expr_move kinds.Ok) (token kinds.Ok p) (syms.RightSquare ∷ []) syms.CutEnd (back-expr kinds.Ok p) (λ ts mid rest w d. (APart w.0, d.1.0, cc (w.1, d.1.1, d.2)))
back-cut_end kinds.True p = back-followed syms.Expr (m.expr_move kinds.True) (token kinds.True p) (syms.RightSquare ∷ []) syms.CutEnd (back-expr kinds.True p) (λ ts mid rest w d. (APart w.0, d.1.0, cc (w.1, d.1.1, d.2)))
back-cut_end kinds.False p = back-followed syms.Expr (m.expr_move kinds.False) (token kinds.False p) (syms.RightSquare ∷ []) syms.CutEnd (back-expr kinds.False p) (λ ts mid rest w d. (APart w.0, d.1.0, cc (w.1, d.1.1, d.2)))
back-cut_end kinds.Base p = back-followed syms.Expr (m.expr_move kinds.Base) (token kinds.Base p) (syms.RightSquare ∷ []) syms.CutEnd (back-expr kinds.Base p) (λ ts mid rest w d. (APart w.0, d.1.0, cc (w.1, d.1.1, d.2)))
back-cut_end (kinds.Name n) p = back-followed syms.Expr (m.expr_move (kinds.Name n)) (token (kinds.Name n) p) (syms.RightSquare ∷ []) syms.CutEnd (back-expr (kinds.Name n) p) (λ ts mid rest w d. (APart w.0, d.1.0, cc (w.1, d.1.1, d.2)))
back-cut_end kinds.This p = back-followed syms.Expr (m.expr_move kinds.This) (token kinds.This p) (syms.RightSquare ∷ []) syms.CutEnd (back-expr kinds.This p) (λ ts mid rest w d. (APart w.0, d.1.0, cc (w.1, d.1.1, d.2)))
back-cut_end kinds.Args p = back-followed syms.Expr (m.expr_move kinds.Args) (token kinds.Args p) (syms.RightSquare ∷ []) syms.CutEnd (back-expr kinds.Args p) (λ ts mid rest w d. (APart w.0, d.1.0, cc (w.1, d.1.1, d.2)))
back-cut_end kinds.OpenRound p = back-followed syms.Expr (m.expr_move kinds.OpenRound) (token kinds.OpenRound p) (syms.RightSquare ∷ []) syms.CutEnd (back-expr kinds.OpenRound p) (λ ts mid rest w d. (APart w.0, d.1.0, cc (w.1, d.1.1, d.2)))
back-cut_end _ p = tt

pub back-rest : (k : Kind) (p : Place) → Back syms.Rest (m.rest_move k) (token k p)
back-rest (kinds.Chain op) p = λ ts rest d. λ a. (Chained a op p d.1.0 d.2.1.0, cc (d.1.1, d.2.1.1, d.2.2))
back-rest (kinds.Binary op) p = λ ts rest d. λ a. (Pair a op p d.1.0, cc (d.1.1, d.2.1, d.2.2))
back-rest kinds.As p = λ ts rest d. λ a. (Converted a p d.1.0, cc (d.1.1, d.2.1, d.2.2))
back-rest _ p = tt

pub back-link : (op next : Op) (p : Place) (b : Bool) → same_op op next ≡ b
    → Back (syms.Links op) (if b then Take (syms.Operand ∷ syms.Links op ∷ []) else m.wrong_mix) (token (kinds.Chain next) p)
back-link op next p true e = λ ts rest d. let q : next ≡ op = sym (same_op-true op next e) in
    (Link p d.1.0 d.2.1.0, cc (q, d.1.1, d.2.1.1, d.2.2))
back-link op next p false e = tt

pub back-links : (op : Op) (k : Kind) (p : Place) → Back (syms.Links op) (m.links_move op k) (token k p)
back-links op (kinds.Chain next) p = back-link op next p (same_op op next) refl
back-links op _ p = tt

pub back-end : (k : Kind) (p : Place) → Back syms.End (m.end_move k) (token k p)
back-end (kinds.Chain op) p = tt
back-end (kinds.Binary op) p = tt
back-end kinds.As p = tt
back-end _ p = tt

pub back-givens_open : (k : Kind) (p : Place) → Back syms.GivensOpen (m.givens_open_move k) (token k p)
back-givens_open kinds.OpenRound p = λ ts rest d. (p, d.1.0, d.1.1, cc (d.1.2, d.2))
back-givens_open _ p = tt

abbrev given_then : Name → (colon : Place) → ExprForm → MoreGivensForm → GivensForm
given_then n c e more = FirstGiven n c e more

-- after a comma the same may stand as after the "("
abbrev givens_more : Place → GivensForm → MoreGivensForm
givens_more p NoGiven = GivenComma p
givens_more p (FirstGiven n c e more) = NextGiven p n c e more

givens_more-before : (p : Place) (gs : GivensForm) (rest : List Token) → token kinds.Comma p ∷ givens_before gs rest ≡ more_givens_before (givens_more p gs) rest
givens_more-before p NoGiven rest = refl
givens_more-before p (FirstGiven n c e more) rest = refl

pub back-givens : (k : Kind) (p : Place) → Back syms.Givens (m.givens_move k) (token k p)
back-givens (kinds.Name n) p = λ ts rest d. (FirstGiven (record { text = n; at = p }) d.1.0 d.2.1.0 d.2.2.1.0, d.2.2.1.1, cc (d.1.1, d.2.1.1, d.2.2.1.2, d.2.2.2))
back-givens kinds.CloseRound p = λ ts rest d. (NoGiven, p, cc d)
back-givens _ p = tt

pub back-more_givens : (k : Kind) (p : Place) → Back syms.MoreGivens (m.more_givens_move k) (token k p)
back-more_givens kinds.Comma p = λ ts rest d. (givens_more p d.1.0, d.1.1, cc (givens_more-before p d.1.0 (token kinds.CloseRound d.1.1 ∷ d.0), d.1.2, d.2))
back-more_givens kinds.CloseRound p = λ ts rest d. (LastGiven, p, cc d)
back-more_givens _ p = tt

pub back-type : (k : Kind) (p : Place) → Back syms.WholeType (m.type_move k) (token k p)
back-type kinds.Base p = λ ts rest d. let w = d.2.1 p d.1.0 in (w.0, cc (w.1, d.1.1, d.2.2))
back-type kinds.Slice p = λ ts rest d. (SliceType p d.1.0, cc (d.1.1, d.2))
back-type kinds.Array p = λ ts rest d. (ArrayType p d.1.0 d.1.1 d.1.2 d.2.1.0, cc (d.1.3, d.2.1.1, d.2.2))
back-type (kinds.Name n) p = λ ts rest d. (StructType (record { text = n; at = p }), cc d)
back-type _ p = tt

pub back-array_length : (k : Kind) (p : Place) → Back syms.ArrayLength (m.array_length_move k) (token k p)
back-array_length kinds.OpenSquare p = λ ts rest d. (p, d.1.0, d.2.1.0, cc (d.1.1, d.2.1.1, d.2.2))
back-array_length _ p = tt

pub back-base_name : (k : Kind) (p : Place) → Back syms.BaseName (m.base_name_move k) (token k p)
back-base_name (kinds.Name n) p = λ ts rest d. λ q x. (BaseType q x (record { text = n; at = p }) d.1.0, cc (d.1.1, d.2))
back-base_name kinds.Status p = λ ts rest d. λ q x. (StatusType q x p d.1.0, cc (d.1.1, d.2))
back-base_name _ p = tt

pub back-bounds : (k : Kind) (p : Place) → Back syms.BoundsPart (m.bounds_move k) (token k p)
back-bounds kinds.OpenSquare p = λ ts rest d. (Bounds p d.1.0 d.1.1 d.1.2 d.1.3, cc (d.1.4, d.2))
back-bounds _ p = tt

pub back-low : (k : Kind) (p : Place) → Back syms.Low (m.low_move k) (token k p)
back-low kinds.DotsEquals p = λ ts rest d. (NoPart, p, d.1.0, d.2.1.0, cc (d.1.1, d.2.1.1, d.2.2))
back-low kinds.Not p = back-followed syms.Expr (m.expr_move kinds.Not) (token kinds.Not p) (syms.ADotsEquals ∷ syms.Expr ∷ syms.RightSquare ∷ []) syms.Low (back-expr kinds.Not p) (λ ts mid rest w d. (APart w.0, d.1.0, d.2.1.0, d.2.2.1.0, cc (w.1, d.1.1, d.2.1.1, d.2.2.1.1, d.2.2.2)))
back-low (kinds.Number n) p = back-followed syms.Expr (m.expr_move (kinds.Number n)) (token (kinds.Number n) p) (syms.ADotsEquals ∷ syms.Expr ∷ syms.RightSquare ∷ []) syms.Low (back-expr (kinds.Number n) p) (λ ts mid rest w d. (APart w.0, d.1.0, d.2.1.0, d.2.2.1.0, cc (w.1, d.1.1, d.2.1.1, d.2.2.1.1, d.2.2.2)))
back-low (kinds.Text n) p = back-followed syms.Expr (m.expr_move (kinds.Text n)) (token (kinds.Text n) p) (syms.ADotsEquals ∷ syms.Expr ∷ syms.RightSquare ∷ []) syms.Low (back-expr (kinds.Text n) p) (λ ts mid rest w d. (APart w.0, d.1.0, d.2.1.0, d.2.2.1.0, cc (w.1, d.1.1, d.2.1.1, d.2.2.1.1, d.2.2.2)))
back-low kinds.Ok p = back-followed syms.Expr (m.expr_move kinds.Ok) (token kinds.Ok p) (syms.ADotsEquals ∷ syms.Expr ∷ syms.RightSquare ∷ []) syms.Low (back-expr kinds.Ok p) (λ ts mid rest w d. (APart w.0, d.1.0, d.2.1.0, d.2.2.1.0, cc (w.1, d.1.1, d.2.1.1, d.2.2.1.1, d.2.2.2)))
back-low kinds.True p = back-followed syms.Expr (m.expr_move kinds.True) (token kinds.True p) (syms.ADotsEquals ∷ syms.Expr ∷ syms.RightSquare ∷ []) syms.Low (back-expr kinds.True p) (λ ts mid rest w d. (APart w.0, d.1.0, d.2.1.0, d.2.2.1.0, cc (w.1, d.1.1, d.2.1.1, d.2.2.1.1, d.2.2.2)))
back-low kinds.False p = back-followed syms.Expr (m.expr_move kinds.False) (token kinds.False p) (syms.ADotsEquals ∷ syms.Expr ∷ syms.RightSquare ∷ []) syms.Low (back-expr kinds.False p) (λ ts mid rest w d. (APart w.0, d.1.0, d.2.1.0, d.2.2.1.0, cc (w.1, d.1.1, d.2.1.1, d.2.2.1.1, d.2.2.2)))
back-low kinds.Base p = back-followed syms.Expr (m.expr_move kinds.Base) (token kinds.Base p) (syms.ADotsEquals ∷ syms.Expr ∷ syms.RightSquare ∷ []) syms.Low (back-expr kinds.Base p) (λ ts mid rest w d. (APart w.0, d.1.0, d.2.1.0, d.2.2.1.0, cc (w.1, d.1.1, d.2.1.1, d.2.2.1.1, d.2.2.2)))
back-low (kinds.Name n) p = back-followed syms.Expr (m.expr_move (kinds.Name n)) (token (kinds.Name n) p) (syms.ADotsEquals ∷ syms.Expr ∷ syms.RightSquare ∷ []) syms.Low (back-expr (kinds.Name n) p) (λ ts mid rest w d. (APart w.0, d.1.0, d.2.1.0, d.2.2.1.0, cc (w.1, d.1.1, d.2.1.1, d.2.2.1.1, d.2.2.2)))
back-low kinds.This p = back-followed syms.Expr (m.expr_move kinds.This) (token kinds.This p) (syms.ADotsEquals ∷ syms.Expr ∷ syms.RightSquare ∷ []) syms.Low (back-expr kinds.This p) (λ ts mid rest w d. (APart w.0, d.1.0, d.2.1.0, d.2.2.1.0, cc (w.1, d.1.1, d.2.1.1, d.2.2.1.1, d.2.2.2)))
back-low kinds.Args p = back-followed syms.Expr (m.expr_move kinds.Args) (token kinds.Args p) (syms.ADotsEquals ∷ syms.Expr ∷ syms.RightSquare ∷ []) syms.Low (back-expr kinds.Args p) (λ ts mid rest w d. (APart w.0, d.1.0, d.2.1.0, d.2.2.1.0, cc (w.1, d.1.1, d.2.1.1, d.2.2.1.1, d.2.2.2)))
back-low kinds.OpenRound p = back-followed syms.Expr (m.expr_move kinds.OpenRound) (token kinds.OpenRound p) (syms.ADotsEquals ∷ syms.Expr ∷ syms.RightSquare ∷ []) syms.Low (back-expr kinds.OpenRound p) (λ ts mid rest w d. (APart w.0, d.1.0, d.2.1.0, d.2.2.1.0, cc (w.1, d.1.1, d.2.1.1, d.2.2.1.1, d.2.2.2)))
back-low _ p = tt
