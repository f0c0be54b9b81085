-- The same for statements and declarations.
use Rattle.std.proofs.Common.{◌≡◌, ap, ℕ, Bool, true, false, List, [], ◌∷◌, refl, nat_eq, if◌then◌else◌}
use Rattle.wf_text.specs.declared.place.Place.{Place}
use Rattle.wf_ast.specs.declared.numbers.TextId.{TextId}
use Rattle.wf_ast.specs.declared.operators.Op.{Op}
use Rattle.wf_ast.specs.declared.operators.Op.TheVariants as ops
use Rattle.wf_ast.specs.declared.parsed.Clause.TheVariants as clauses
use Rattle.wf_parse_grammar.specs.declared.tokens.Kind.{Kind}
use Rattle.wf_parse_grammar.specs.declared.tokens.Kind.TheVariants as kinds
use Rattle.wf_parse_grammar.specs.declared.tokens.Token.{Token}
use Rattle.wf_parse_grammar.specs.Grammar.{token, BarePath, ThisPath, ArgsPath, OnThis, OnPath, Exclaims, Asks, NoMark, AMark}
use Rattle.wf_parse_grammar.specs.Grammar.{ToPath, ToElement, Becomes, Updates, MarkedCall, ALabel, NothingResult, AResult, AVia, NoClause, ClauseComma, NextClause, AnEnd, AVar}
use Rattle.wf_parse_grammar.specs.Grammar.{StmtForm, Assignment, Keeping, Calling, Branching, Looping, Labelled, Breaking, Continuing, Returning, Yielding, Asserting, ElseIf, Else, ABlock, ItemsForm, NoItem, FirstItem, MoreItemsForm, LastItem, ItemSemicolon, NextItem}
use Rattle.wf_parse_grammar.specs.Grammar.{VarsForm, NoVars, FirstVar, FirstStmt, MoreVarsForm, LastVar, VarSemicolon, NextVar, ThenStmt, FieldsForm, NoField, FirstField, MoreFieldsForm, LastField, FieldComma, NextField, OtherFields, NoType, AType, IsPub, IsPri, AStatus, AConst, AStruct, AFunc, ADecl}
use Rattle.wf_parse_grammar.specs.Grammar.{stmt_before, items_before, more_items_before, more_vars_before, vars_before, more_fields_before, fields_before, public_before}
use Rattle.wf_parse_grammar.specs.Machine as m
use Rattle.wf_parse_grammar.specs.declared.symbols.Sym.{Sym}
use Rattle.wf_parse_grammar.specs.declared.symbols.Sym.TheVariants as syms
use Rattle.wf_parse_grammar.specs.Machine.{Move, Take, Begin, Enter, Pass, Stop}
use Rattle.wf_parse_grammar.specs.Words.{Word, Words}
use Rattle.wf_parse_grammar.proofs.OpLemmas.{eq-true}
use Rattle.wf_parse_grammar.proofs.Back.{OnTaken, Back, back-followed, back-expr, back-type, cut-words}

-- A statement after its first token.
abbrev Stmt : List Token → List Token → Type 0
Stmt ts rest = (s : StmtForm) × (ts ≡ stmt_before s rest)

abbrev BackStmt : Move → Token → Type 0
BackStmt w t = OnTaken w (λ xs. (ts rest : List Token) → Words xs ts rest → Stmt (t ∷ ts) rest)

pub back-stmt : (k : Kind) (p : Place) → BackStmt (m.stmt_move k) (token k p)
back-stmt (kinds.Name n) p = λ ts rest d. let w = d.1 (BarePath (record { text = n; at = p })) in (w.0, cc (w.1, d.2))
back-stmt kinds.This p = λ ts rest d. let w = d.2.2.1 p d.1.0 d.2.1.0 in (w.0, cc (w.1, d.1.1, d.2.1.1, d.2.2.2))
back-stmt kinds.Args p = λ ts rest d. let w = d.2.2.1 (ArgsPath p d.1.0 d.2.1.0) in (w.0, cc (w.1, d.1.1, d.2.1.1, d.2.2.2))
back-stmt kinds.If p = λ ts rest d. (Branching p d.1.0 d.2.1.0 d.2.2.1.0, cc (d.1.1, d.2.1.1, d.2.2.1.1, d.2.2.2))
back-stmt kinds.While p = λ ts rest d. let w = d.1 p in (w.0, cc (w.1, d.2))
back-stmt kinds.Break p = λ ts rest d. (Breaking p d.1.0, cc (d.1.1, d.2))
back-stmt kinds.Continue p = λ ts rest d. (Continuing p d.1.0, cc (d.1.1, d.2))
back-stmt kinds.Return p = λ ts rest d. (Returning p d.1.0, cc (d.1.1, d.2))
back-stmt kinds.Yield p = λ ts rest d. (Yielding p d.1.0 d.2.1.0, cc (d.1.1, d.2.1.1, d.2.2))
back-stmt kinds.Assert p = λ ts rest d. (Asserting p d.1.0 d.2.1.0, cc (d.1.1, d.2.1.1, d.2.2))
back-stmt _ p = tt

-- a statement's move with more after it
pub followed-stmt : (w : Move) (t : Token) (ys : List Sym) (q : Sym)
    → BackStmt w t → ((ts mid rest : List Token) → Stmt (t ∷ ts) mid → Words ys mid rest → Word q (t ∷ ts) rest) → Back q (m.followed w ys) t
followed-stmt (Take xs) t ys q b f = λ ts rest d. let w = cut-words xs ys ts rest d in f ts w.0 rest (b ts w.0 w.1) w.2
followed-stmt (Begin xs) t ys q b f = λ ts rest d. let w = cut-words xs ys ts rest d in f ts w.0 rest (b ts w.0 w.1) w.2
followed-stmt (Enter xs) t ys q b f = λ ts rest d. let w = cut-words xs ys ts rest d in f ts w.0 rest (b ts w.0 w.1) w.2
followed-stmt Pass t ys q b f = tt
followed-stmt (Stop r) t ys q b f = tt

pub back-items : (k : Kind) (p : Place) → Back syms.Items (m.items_move k) (token k p)
back-items kinds.CloseCurly p = λ ts rest d. (NoItem, p, cc d)
back-items (kinds.Name n) p = followed-stmt (m.stmt_move (kinds.Name n)) (token (kinds.Name n) p) (syms.MoreItems ∷ []) syms.Items (back-stmt (kinds.Name n) p) (λ ts mid rest w d. (FirstItem w.0 d.1.0, d.1.1, cc (w.1, d.1.2, d.2)))
back-items kinds.This p = followed-stmt (m.stmt_move kinds.This) (token kinds.This p) (syms.MoreItems ∷ []) syms.Items (back-stmt kinds.This p) (λ ts mid rest w d. (FirstItem w.0 d.1.0, d.1.1, cc (w.1, d.1.2, d.2)))
back-items kinds.Args p = followed-stmt (m.stmt_move kinds.Args) (token kinds.Args p) (syms.MoreItems ∷ []) syms.Items (back-stmt kinds.Args p) (λ ts mid rest w d. (FirstItem w.0 d.1.0, d.1.1, cc (w.1, d.1.2, d.2)))
back-items kinds.If p = followed-stmt (m.stmt_move kinds.If) (token kinds.If p) (syms.MoreItems ∷ []) syms.Items (back-stmt kinds.If p) (λ ts mid rest w d. (FirstItem w.0 d.1.0, d.1.1, cc (w.1, d.1.2, d.2)))
back-items kinds.While p = followed-stmt (m.stmt_move kinds.While) (token kinds.While p) (syms.MoreItems ∷ []) syms.Items (back-stmt kinds.While p) (λ ts mid rest w d. (FirstItem w.0 d.1.0, d.1.1, cc (w.1, d.1.2, d.2)))
back-items kinds.Break p = followed-stmt (m.stmt_move kinds.Break) (token kinds.Break p) (syms.MoreItems ∷ []) syms.Items (back-stmt kinds.Break p) (λ ts mid rest w d. (FirstItem w.0 d.1.0, d.1.1, cc (w.1, d.1.2, d.2)))
back-items kinds.Continue p = followed-stmt (m.stmt_move kinds.Continue) (token kinds.Continue p) (syms.MoreItems ∷ []) syms.Items (back-stmt kinds.Continue p) (λ ts mid rest w d. (FirstItem w.0 d.1.0, d.1.1, cc (w.1, d.1.2, d.2)))
back-items kinds.Return p = followed-stmt (m.stmt_move kinds.Return) (token kinds.Return p) (syms.MoreItems ∷ []) syms.Items (back-stmt kinds.Return p) (λ ts mid rest w d. (FirstItem w.0 d.1.0, d.1.1, cc (w.1, d.1.2, d.2)))
back-items kinds.Yield p = followed-stmt (m.stmt_move kinds.Yield) (token kinds.Yield p) (syms.MoreItems ∷ []) syms.Items (back-stmt kinds.Yield p) (λ ts mid rest w d. (FirstItem w.0 d.1.0, d.1.1, cc (w.1, d.1.2, d.2)))
back-items kinds.Assert p = followed-stmt (m.stmt_move kinds.Assert) (token kinds.Assert p) (syms.MoreItems ∷ []) syms.Items (back-stmt kinds.Assert p) (λ ts mid rest w d. (FirstItem w.0 d.1.0, d.1.1, cc (w.1, d.1.2, d.2)))
back-items _ p = tt

pub back-vars : (k : Kind) (p : Place) → Back syms.Vars (m.vars_move k) (token k p)
back-vars kinds.CloseCurly p = λ ts rest d. (NoVars, p, cc d)
back-vars kinds.Var p = λ ts rest d. (FirstVar (AVar p d.1.0 d.2.1.0 d.2.2.1.0) d.2.2.2.1.0, d.2.2.2.1.1, cc (d.1.1, d.2.1.1, d.2.2.1.1, d.2.2.2.1.2, d.2.2.2.2))
back-vars (kinds.Name n) p = followed-stmt (m.stmt_move (kinds.Name n)) (token (kinds.Name n) p) (syms.MoreItems ∷ []) syms.Vars (back-stmt (kinds.Name n) p) (λ ts mid rest w d. (FirstStmt w.0 d.1.0, d.1.1, cc (w.1, d.1.2, d.2)))
back-vars kinds.This p = followed-stmt (m.stmt_move kinds.This) (token kinds.This p) (syms.MoreItems ∷ []) syms.Vars (back-stmt kinds.This p) (λ ts mid rest w d. (FirstStmt w.0 d.1.0, d.1.1, cc (w.1, d.1.2, d.2)))
back-vars kinds.Args p = followed-stmt (m.stmt_move kinds.Args) (token kinds.Args p) (syms.MoreItems ∷ []) syms.Vars (back-stmt kinds.Args p) (λ ts mid rest w d. (FirstStmt w.0 d.1.0, d.1.1, cc (w.1, d.1.2, d.2)))
back-vars kinds.If p = followed-stmt (m.stmt_move kinds.If) (token kinds.If p) (syms.MoreItems ∷ []) syms.Vars (back-stmt kinds.If p) (λ ts mid rest w d. (FirstStmt w.0 d.1.0, d.1.1, cc (w.1, d.1.2, d.2)))
back-vars kinds.While p = followed-stmt (m.stmt_move kinds.While) (token kinds.While p) (syms.MoreItems ∷ []) syms.Vars (back-stmt kinds.While p) (λ ts mid rest w d. (FirstStmt w.0 d.1.0, d.1.1, cc (w.1, d.1.2, d.2)))
back-vars kinds.Break p = followed-stmt (m.stmt_move kinds.Break) (token kinds.Break p) (syms.MoreItems ∷ []) syms.Vars (back-stmt kinds.Break p) (λ ts mid rest w d. (FirstStmt w.0 d.1.0, d.1.1, cc (w.1, d.1.2, d.2)))
back-vars kinds.Continue p = followed-stmt (m.stmt_move kinds.Continue) (token kinds.Continue p) (syms.MoreItems ∷ []) syms.Vars (back-stmt kinds.Continue p) (λ ts mid rest w d. (FirstStmt w.0 d.1.0, d.1.1, cc (w.1, d.1.2, d.2)))
back-vars kinds.Return p = followed-stmt (m.stmt_move kinds.Return) (token kinds.Return p) (syms.MoreItems ∷ []) syms.Vars (back-stmt kinds.Return p) (λ ts mid rest w d. (FirstStmt w.0 d.1.0, d.1.1, cc (w.1, d.1.2, d.2)))
back-vars kinds.Yield p = followed-stmt (m.stmt_move kinds.Yield) (token kinds.Yield p) (syms.MoreItems ∷ []) syms.Vars (back-stmt kinds.Yield p) (λ ts mid rest w d. (FirstStmt w.0 d.1.0, d.1.1, cc (w.1, d.1.2, d.2)))
back-vars kinds.Assert p = followed-stmt (m.stmt_move kinds.Assert) (token kinds.Assert p) (syms.MoreItems ∷ []) syms.Vars (back-stmt kinds.Assert p) (λ ts mid rest w d. (FirstStmt w.0 d.1.0, d.1.1, cc (w.1, d.1.2, d.2)))
back-vars _ p = tt

-- after a semicolon the same may stand as after the "{"
abbrev items_more : Place → ItemsForm → MoreItemsForm
items_more p NoItem = ItemSemicolon p
items_more p (FirstItem s more) = NextItem p s more

items_more-before : (p : Place) (is : ItemsForm) (rest : List Token) → token kinds.Semicolon p ∷ items_before is rest ≡ more_items_before (items_more p is) rest
items_more-before p NoItem rest = refl
items_more-before p (FirstItem s more) rest = refl

abbrev vars_more : Place → VarsForm → MoreVarsForm
vars_more p NoVars = VarSemicolon p
vars_more p (FirstVar v more) = NextVar p v more
vars_more p (FirstStmt s more) = ThenStmt p s more

vars_more-before : (p : Place) (vs : VarsForm) (rest : List Token) → token kinds.Semicolon p ∷ vars_before vs rest ≡ more_vars_before (vars_more p vs) rest
vars_more-before p NoVars rest = refl
vars_more-before p (FirstVar v more) rest = refl
vars_more-before p (FirstStmt s more) rest = refl

abbrev fields_more : Place → FieldsForm → MoreFieldsForm
fields_more p NoField = FieldComma p
fields_more p (FirstField n c t more) = NextField p n c t more

fields_more-before : (p : Place) (fs : FieldsForm) (rest : List Token) → token kinds.Comma p ∷ fields_before fs rest ≡ more_fields_before (fields_more p fs) rest
fields_more-before p NoField rest = refl
fields_more-before p (FirstField n c t more) rest = refl

pub back-more_items : (k : Kind) (p : Place) → Back syms.MoreItems (m.more_items_move k) (token k p)
back-more_items kinds.Semicolon p = λ ts rest d. (items_more p d.1.0, d.1.1, cc (items_more-before p d.1.0 (token kinds.CloseCurly d.1.1 ∷ d.0), d.1.2, d.2))
back-more_items kinds.CloseCurly p = λ ts rest d. (LastItem, p, cc d)
back-more_items _ p = tt

pub back-more_vars : (k : Kind) (p : Place) → Back syms.MoreVars (m.more_vars_move k) (token k p)
back-more_vars kinds.Semicolon p = λ ts rest d. (vars_more p d.1.0, d.1.1, cc (vars_more-before p d.1.0 (token kinds.CloseCurly d.1.1 ∷ d.0), d.1.2, d.2))
back-more_vars kinds.CloseCurly p = λ ts rest d. (LastVar, p, cc d)
back-more_vars _ p = tt

pub back-block : (k : Kind) (p : Place) → Back syms.Block (m.block_move k) (token k p)
back-block kinds.OpenCurly p = λ ts rest d. (ABlock p d.1.0 d.1.1, cc (d.1.2, d.2))
back-block _ p = tt

pub back-target_stmt : (k : Kind) (p : Place) → Back syms.TargetStmt (m.target_stmt_move k) (token k p)
back-target_stmt kinds.Equals p = λ ts rest d. λ t. (Assignment t (Becomes p) d.1.0, cc (d.1.1, d.2))
back-target_stmt (kinds.Update op) p = λ ts rest d. λ t. (Assignment t (Updates op p) d.1.0, cc (d.1.1, d.2))
back-target_stmt kinds.KeepEquals p = λ ts rest d. λ t. (Keeping t p d.1.0, cc (d.1.1, d.2))
back-target_stmt _ p = tt

pub back-path_stmt : (k : Kind) (p : Place) → Back syms.PathStmt (m.path_stmt_move k) (token k p)
back-path_stmt kinds.OpenSquare p = λ ts rest d. λ path. let w = d.2.2.1 (ToElement path p d.1.0 d.2.1.0) in (w.0, cc (w.1, d.1.1, d.2.1.1, d.2.2.2))
back-path_stmt kinds.Dot p = λ ts rest d. λ path. (Calling (MarkedCall (OnPath path) p d.1.0 d.2.1.0 d.2.1.1 d.2.1.2 d.2.1.3), cc (d.1.1, d.2.1.4, d.2.2))
back-path_stmt kinds.Equals p = λ ts rest d. λ path. back-target_stmt kinds.Equals p ts rest d (ToPath path)
back-path_stmt (kinds.Update op) p = λ ts rest d. λ path. back-target_stmt (kinds.Update op) p ts rest d (ToPath path)
back-path_stmt kinds.KeepEquals p = λ ts rest d. λ path. back-target_stmt kinds.KeepEquals p ts rest d (ToPath path)
back-path_stmt _ p = tt

pub back-this_stmt : (k : Kind) (p : Place) → Back syms.ThisStmt (m.this_stmt_move k) (token k p)
back-this_stmt kinds.Exclamation p = λ ts rest d. λ q x n. (Calling (MarkedCall (OnThis q) x n (Exclaims p) d.1.0 d.1.1 d.1.2), cc (d.1.3, d.2))
back-this_stmt kinds.Question p = λ ts rest d. λ q x n. (Calling (MarkedCall (OnThis q) x n (Asks p) d.1.0 d.1.1 d.1.2), cc (d.1.3, d.2))
back-this_stmt kinds.OpenSquare p = λ ts rest d. λ q x n. back-path_stmt kinds.OpenSquare p ts rest d (ThisPath q x n)
back-this_stmt kinds.Dot p = λ ts rest d. λ q x n. back-path_stmt kinds.Dot p ts rest d (ThisPath q x n)
back-this_stmt kinds.Equals p = λ ts rest d. λ q x n. back-path_stmt kinds.Equals p ts rest d (ThisPath q x n)
back-this_stmt (kinds.Update op) p = λ ts rest d. λ q x n. back-path_stmt (kinds.Update op) p ts rest d (ThisPath q x n)
back-this_stmt kinds.KeepEquals p = λ ts rest d. λ q x n. back-path_stmt kinds.KeepEquals p ts rest d (ThisPath q x n)
back-this_stmt _ p = tt

pub back-call_mark : (k : Kind) (p : Place) → Back syms.CallMark (m.call_mark_move k) (token k p)
back-call_mark kinds.Exclamation p = λ ts rest d. (Exclaims p, d.1.0, d.1.1, d.1.2, cc (d.1.3, d.2))
back-call_mark kinds.Question p = λ ts rest d. (Asks p, d.1.0, d.1.1, d.1.2, cc (d.1.3, d.2))
back-call_mark _ p = tt

pub back-call : (k : Kind) (p : Place) → Back syms.Call (m.call_move k) (token k p)
back-call (kinds.Name n) p = λ ts rest d. (MarkedCall (OnPath (BarePath (record { text = n; at = p }))) d.1.0 d.2.1.0 d.2.2.1.0 d.2.2.1.1 d.2.2.1.2 d.2.2.1.3, cc (d.1.1, d.2.1.1, d.2.2.1.4, d.2.2.2))
back-call kinds.This p = λ ts rest d. let w = d.2.2.1 p d.1.0 d.2.1.0 in (w.0, cc (w.1, d.1.1, d.2.1.1, d.2.2.2))
back-call kinds.Args p = λ ts rest d. (MarkedCall (OnPath (ArgsPath p d.1.0 d.2.1.0)) d.2.2.1.0 d.2.2.2.1.0 d.2.2.2.2.1.0 d.2.2.2.2.1.1 d.2.2.2.2.1.2 d.2.2.2.2.1.3, cc (d.1.1, d.2.1.1, d.2.2.1.1, d.2.2.2.1.1, d.2.2.2.2.1.4, d.2.2.2.2.2))
back-call _ p = tt

pub back-call_this : (k : Kind) (p : Place) → Back syms.CallThis (m.call_this_move k) (token k p)
back-call_this kinds.Dot p = λ ts rest d. λ q x n. (MarkedCall (OnPath (ThisPath q x n)) p d.1.0 d.2.1.0 d.2.1.1 d.2.1.2 d.2.1.3, cc (d.1.1, d.2.1.4, d.2.2))
back-call_this kinds.Exclamation p = λ ts rest d. λ q x n. (MarkedCall (OnThis q) x n (Exclaims p) d.1.0 d.1.1 d.1.2, cc (d.1.3, d.2))
back-call_this kinds.Question p = λ ts rest d. λ q x n. (MarkedCall (OnThis q) x n (Asks p) d.1.0 d.1.1 d.1.2, cc (d.1.3, d.2))
back-call_this _ p = tt

pub back-else : (k : Kind) (p : Place) → Back syms.Else (m.else_move k) (token k p)
back-else kinds.Else p = λ ts rest d. let w = d.1 p in (w.0, cc (w.1, d.2))
back-else _ p = tt

pub back-else_tail : (k : Kind) (p : Place) → Back syms.ElseTail (m.else_tail_move k) (token k p)
back-else_tail kinds.If p = λ ts rest d. λ q. (ElseIf q p d.1.0 d.2.1.0 d.2.2.1.0, cc (d.1.1, d.2.1.1, d.2.2.1.1, d.2.2.2))
back-else_tail kinds.OpenCurly p = λ ts rest d. λ q. (Else q (ABlock p d.1.0 d.1.1), cc (d.1.2, d.2))
back-else_tail _ p = tt

pub back-while : (k : Kind) (p : Place) → Back syms.WhileHead (m.while_move k) (token k p)
back-while kinds.Dot p = λ ts rest d. λ q. let w = d.1 q p in (w.0, cc (w.1, d.2))
back-while kinds.Not p = back-followed syms.Expr (m.expr_move kinds.Not) (token kinds.Not p) (syms.Clauses ∷ syms.EndPart ∷ []) syms.WhileHead (back-expr kinds.Not p) (λ ts mid rest w d. λ q. (Looping q w.0 d.1.0 d.1.1 d.2.1.0, cc (w.1, d.1.2, d.2.1.1, d.2.2)))
back-while (kinds.Number n) p = back-followed syms.Expr (m.expr_move (kinds.Number n)) (token (kinds.Number n) p) (syms.Clauses ∷ syms.EndPart ∷ []) syms.WhileHead (back-expr (kinds.Number n) p) (λ ts mid rest w d. λ q. (Looping q w.0 d.1.0 d.1.1 d.2.1.0, cc (w.1, d.1.2, d.2.1.1, d.2.2)))
back-while (kinds.Text n) p = back-followed syms.Expr (m.expr_move (kinds.Text n)) (token (kinds.Text n) p) (syms.Clauses ∷ syms.EndPart ∷ []) syms.WhileHead (back-expr (kinds.Text n) p) (λ ts mid rest w d. λ q. (Looping q w.0 d.1.0 d.1.1 d.2.1.0, cc (w.1, d.1.2, d.2.1.1, d.2.2)))
back-while kinds.Ok p = back-followed syms.Expr (m.expr_move kinds.Ok) (token kinds.Ok p) (syms.Clauses ∷ syms.EndPart ∷ []) syms.WhileHead (back-expr kinds.Ok p) (λ ts mid rest w d. λ q. (Looping q w.0 d.1.0 d.1.1 d.2.1.0, cc (w.1, d.1.2, d.2.1.1, d.2.2)))
back-while kinds.True p = back-followed syms.Expr (m.expr_move kinds.True) (token kinds.True p) (syms.Clauses ∷ syms.EndPart ∷ []) syms.WhileHead (back-expr kinds.True p) (λ ts mid rest w d. λ q. (Looping q w.0 d.1.0 d.1.1 d.2.1.0, cc (w.1, d.1.2, d.2.1.1, d.2.2)))
back-while kinds.False p = back-followed syms.Expr (m.expr_move kinds.False) (token kinds.False p) (syms.Clauses ∷ syms.EndPart ∷ []) syms.WhileHead (back-expr kinds.False p) (λ ts mid rest w d. λ q. (Looping q w.0 d.1.0 d.1.1 d.2.1.0, cc (w.1, d.1.2, d.2.1.1, d.2.2)))
back-while kinds.Base p = back-followed syms.Expr (m.expr_move kinds.Base) (token kinds.Base p) (syms.Clauses ∷ syms.EndPart ∷ []) syms.WhileHead (back-expr kinds.Base p) (λ ts mid rest w d. λ q. (Looping q w.0 d.1.0 d.1.1 d.2.1.0, cc (w.1, d.1.2, d.2.1.1, d.2.2)))
back-while (kinds.Name n) p = back-followed syms.Expr (m.expr_move (kinds.Name n)) (token (kinds.Name n) p) (syms.Clauses ∷ syms.EndPart ∷ []) syms.WhileHead (back-expr (kinds.Name n) p) (λ ts mid rest w d. λ q. (Looping q w.0 d.1.0 d.1.1 d.2.1.0, cc (w.1, d.1.2, d.2.1.1, d.2.2)))
back-while kinds.This p = back-followed syms.Expr (m.expr_move kinds.This) (token kinds.This p) (syms.Clauses ∷ syms.EndPart ∷ []) syms.WhileHead (back-expr kinds.This p) (λ ts mid rest w d. λ q. (Looping q w.0 d.1.0 d.1.1 d.2.1.0, cc (w.1, d.1.2, d.2.1.1, d.2.2)))
back-while kinds.Args p = back-followed syms.Expr (m.expr_move kinds.Args) (token kinds.Args p) (syms.Clauses ∷ syms.EndPart ∷ []) syms.WhileHead (back-expr kinds.Args p) (λ ts mid rest w d. λ q. (Looping q w.0 d.1.0 d.1.1 d.2.1.0, cc (w.1, d.1.2, d.2.1.1, d.2.2)))
back-while kinds.OpenRound p = back-followed syms.Expr (m.expr_move kinds.OpenRound) (token kinds.OpenRound p) (syms.Clauses ∷ syms.EndPart ∷ []) syms.WhileHead (back-expr kinds.OpenRound p) (λ ts mid rest w d. λ q. (Looping q w.0 d.1.0 d.1.1 d.2.1.0, cc (w.1, d.1.2, d.2.1.1, d.2.2)))
back-while _ p = tt

pub back-label_head : (k : Kind) (p : Place) → Back syms.LabelHead (m.label_head_move k) (token k p)
back-label_head (kinds.Name n) p = λ ts rest d. λ q x. (Labelled q x (record { text = n; at = p }) d.1.0 d.2.1.0 d.2.1.1 d.2.2.1.0 d.2.2.1.1 d.2.2.1.2, cc (d.1.1, d.2.1.2, d.2.2.1.3, d.2.2.2))
back-label_head _ p = tt

pub back-clauses : (k : Kind) (p : Place) → Back syms.Clauses (m.clauses_move k) (token k p)
back-clauses kinds.Comma p = λ ts rest d. let w = d.1 p in (w.0, w.1, cc (w.2, d.2))
back-clauses kinds.OpenCurly p = λ ts rest d. (NoClause, ABlock p d.1.0 d.1.1, cc (d.1.2, d.2))
back-clauses _ p = tt

pub back-clause_tail : (k : Kind) (p : Place) → Back syms.ClauseTail (m.clause_tail_move k) (token k p)
back-clause_tail kinds.Pre p = λ ts rest d. λ q. (NextClause q clauses.Pre p d.1.0 d.2.1.0, d.2.1.1, cc (d.1.1, d.2.1.2, d.2.2))
back-clause_tail kinds.Inv p = λ ts rest d. λ q. (NextClause q clauses.Inv p d.1.0 d.2.1.0, d.2.1.1, cc (d.1.1, d.2.1.2, d.2.2))
back-clause_tail kinds.Post p = λ ts rest d. λ q. (NextClause q clauses.Post p d.1.0 d.2.1.0, d.2.1.1, cc (d.1.1, d.2.1.2, d.2.2))
back-clause_tail kinds.OpenCurly p = λ ts rest d. λ q. (ClauseComma q, ABlock p d.1.0 d.1.1, cc (d.1.2, d.2))
back-clause_tail _ p = tt

pub back-end_part : (k : Kind) (p : Place) → Back syms.EndPart (m.end_part_move k) (token k p)
back-end_part kinds.Endwhile p = λ ts rest d. (AnEnd p, cc d)
back-end_part _ p = tt

pub back-end_label : (label : TextId) (k : Kind) (p : Place) → Back (syms.EndLabel label) (m.end_label_move label k) (token k p)
back-end_label label kinds.Endwhile p = λ ts rest d. (p, d.1.0, d.2.1.0, cc (d.1.1, d.2.1.1, d.2.2))
back-end_label label _ p = tt

-- a text is its number
same_text : (a b : TextId) → a.0 ≡ b.0 → a ≡ b
same_text a b e = let make : ℕ → TextId = λ l. record { 0 = l } in ap make e

back-this_label : (label : TextId) (n : TextId) (p : Place) (b : Bool) → nat_eq label.0 n.0 ≡ b
    → Back (syms.Label label) (if b then Take [] else m.wrong) (token (kinds.Name n) p)
back-this_label label n p true e = λ ts rest d. let q : label ≡ n = same_text label n (eq-true label.0 n.0 e) in
    (p, cc (q, d))
back-this_label label n p false e = tt

pub back-label : (label : TextId) (k : Kind) (p : Place) → Back (syms.Label label) (m.label_move label k) (token k p)
back-label label (kinds.Name n) p = back-this_label label n p (nat_eq label.0 n.0) refl
back-label label _ p = tt

pub back-label_part : (k : Kind) (p : Place) → Back syms.LabelPart (m.label_part_move k) (token k p)
back-label_part kinds.Dot p = λ ts rest d. (ALabel p d.1.0, cc (d.1.1, d.2))
back-label_part _ p = tt

pub back-result : (k : Kind) (p : Place) → Back syms.Result (m.result_move k) (token k p)
back-result kinds.Nothing p = λ ts rest d. (NothingResult p, cc d)
back-result kinds.Not p = λ ts rest d. let w = back-expr kinds.Not p ts rest d in (AResult w.0, w.1)
back-result (kinds.Number n) p = λ ts rest d. let w = back-expr (kinds.Number n) p ts rest d in (AResult w.0, w.1)
back-result (kinds.Text n) p = λ ts rest d. let w = back-expr (kinds.Text n) p ts rest d in (AResult w.0, w.1)
back-result kinds.Ok p = λ ts rest d. let w = back-expr kinds.Ok p ts rest d in (AResult w.0, w.1)
back-result kinds.True p = λ ts rest d. let w = back-expr kinds.True p ts rest d in (AResult w.0, w.1)
back-result kinds.False p = λ ts rest d. let w = back-expr kinds.False p ts rest d in (AResult w.0, w.1)
back-result kinds.Base p = λ ts rest d. let w = back-expr kinds.Base p ts rest d in (AResult w.0, w.1)
back-result (kinds.Name n) p = λ ts rest d. let w = back-expr (kinds.Name n) p ts rest d in (AResult w.0, w.1)
back-result kinds.This p = λ ts rest d. let w = back-expr kinds.This p ts rest d in (AResult w.0, w.1)
back-result kinds.Args p = λ ts rest d. let w = back-expr kinds.Args p ts rest d in (AResult w.0, w.1)
back-result kinds.OpenRound p = λ ts rest d. let w = back-expr kinds.OpenRound p ts rest d in (AResult w.0, w.1)
back-result _ p = tt

pub back-via : (k : Kind) (p : Place) → Back syms.Via (m.via_move k) (token k p)
back-via kinds.Via p = λ ts rest d. (AVia p d.1.0 d.2.1.0 d.2.1.1 d.2.1.2, cc (d.1.1, d.2.1.3, d.2.2))
back-via _ p = tt

pub back-file : (k : Kind) (p : Place) → Back syms.File (m.file_move k) (token k p)
back-file kinds.Pub p = λ ts rest d. let w = d.1 (IsPub p) in (ADecl w.0 d.2.1.0 d.2.2.1.0, cc (w.1, d.2.1.1, d.2.2.1.1, d.2.2.2))
back-file kinds.Pri p = λ ts rest d. let w = d.1 (IsPri p) in (ADecl w.0 d.2.1.0 d.2.2.1.0, cc (w.1, d.2.1.1, d.2.2.1.1, d.2.2.2))
back-file _ p = tt

pub back-decl : (k : Kind) (p : Place) → Back syms.Decl (m.decl_move k) (token k p)
back-decl kinds.Status p = λ ts rest d. λ pu. (AStatus pu p d.1.0, ap (public_before pu) (cc (d.1.1, d.2)))
back-decl kinds.Const p = λ ts rest d. λ pu. (AConst pu p d.1.0 d.2.1.0 d.2.2.1.0 d.2.2.2.1.0 d.2.2.2.2.1.0, ap (public_before pu) (cc (d.1.1, d.2.1.1, d.2.2.1.1, d.2.2.2.1.1, d.2.2.2.2.1.1, d.2.2.2.2.2)))
back-decl kinds.Struct p = λ ts rest d. λ pu. (AStruct pu p d.1.0 d.2.1.0 d.2.1.1 d.2.1.2 d.2.1.3 d.2.2.1.0, ap (public_before pu) (cc (d.1.1, d.2.1.4, d.2.2.1.1, d.2.2.2)))
back-decl kinds.Func p = λ ts rest d. λ pu. (AFunc pu p d.1.0 d.2.1.0 d.2.2.1.0 d.2.2.2.1.0 d.2.2.2.1.1 d.2.2.2.1.2 d.2.2.2.1.3 d.2.2.2.2.1.0 d.2.2.2.2.1.1 d.2.2.2.2.1.2 d.2.2.2.2.1.3, ap (public_before pu) (cc (d.1.1, d.2.1.1, d.2.2.1.1, d.2.2.2.1.4, d.2.2.2.2.1.4, d.2.2.2.2.2)))
back-decl _ p = tt

pub back-fields_open : (k : Kind) (p : Place) → Back syms.FieldsOpen (m.fields_open_move k) (token k p)
back-fields_open kinds.OpenRound p = λ ts rest d. (p, d.1.0, d.1.1, cc (d.1.2, d.2))
back-fields_open _ p = tt

pub back-fields_mark : (k : Kind) (p : Place) → Back syms.FieldsMark (m.fields_mark_move k) (token k p)
back-fields_mark kinds.Exclamation p = λ ts rest d. (AMark (Exclaims p), d.1.0, d.1.1, d.1.2, cc (d.1.3, d.2))
back-fields_mark kinds.Question p = λ ts rest d. (AMark (Asks p), d.1.0, d.1.1, d.1.2, cc (d.1.3, d.2))
back-fields_mark kinds.OpenRound p = λ ts rest d. (NoMark, p, d.1.0, d.1.1, cc (d.1.2, d.2))
back-fields_mark _ p = tt

pub back-fields : (k : Kind) (p : Place) → Back syms.Fields (m.fields_move k) (token k p)
back-fields (kinds.Name n) p = λ ts rest d. (FirstField (record { text = n; at = p }) d.1.0 d.2.1.0 d.2.2.1.0, d.2.2.1.1, cc (d.1.1, d.2.1.1, d.2.2.1.2, d.2.2.2))
back-fields kinds.CloseRound p = λ ts rest d. (NoField, p, cc d)
back-fields _ p = tt

pub back-more_fields : (k : Kind) (p : Place) → Back syms.MoreFields (m.more_fields_move k) (token k p)
back-more_fields kinds.Comma p = λ ts rest d. (fields_more p d.1.0, d.1.1, cc (fields_more-before p d.1.0 (token kinds.CloseRound d.1.1 ∷ d.0), d.1.2, d.2))
back-more_fields kinds.CloseRound p = λ ts rest d. (LastField, p, cc d)
back-more_fields _ p = tt

back-plus : (op : Op) (p : Place) → Back syms.OtherFields (m.plus_move op) (token (kinds.Chain op) p)
back-plus ops.Add p = λ ts rest d. (OtherFields p d.1.0 d.1.1 d.1.2, cc (d.1.3, d.2))
back-plus _ p = tt

pub back-other_fields : (k : Kind) (p : Place) → Back syms.OtherFields (m.other_fields_move k) (token k p)
back-other_fields (kinds.Chain op) p = back-plus op p
back-other_fields _ p = tt

pub back-body : (k : Kind) (p : Place) → Back syms.Body (m.body_move k) (token k p)
back-body kinds.OpenCurly p = λ ts rest d. (p, d.1.0, d.1.1, cc (d.1.2, d.2))
back-body _ p = tt

pub back-method_tail : (k : Kind) (p : Place) → Back syms.MethodTail (m.method_tail_move k) (token k p)
back-method_tail kinds.OpenCurly p = λ ts rest d. (NoType, p, d.1.0, d.1.1, cc (d.1.2, d.2))
back-method_tail kinds.Base p = back-followed syms.WholeType (m.type_move kinds.Base) (token kinds.Base p) (syms.Body ∷ []) syms.MethodTail (back-type kinds.Base p) (λ ts mid rest w d. (AType w.0, d.1.0, d.1.1, d.1.2, cc (w.1, d.1.3, d.2)))
back-method_tail kinds.Slice p = back-followed syms.WholeType (m.type_move kinds.Slice) (token kinds.Slice p) (syms.Body ∷ []) syms.MethodTail (back-type kinds.Slice p) (λ ts mid rest w d. (AType w.0, d.1.0, d.1.1, d.1.2, cc (w.1, d.1.3, d.2)))
back-method_tail kinds.Array p = back-followed syms.WholeType (m.type_move kinds.Array) (token kinds.Array p) (syms.Body ∷ []) syms.MethodTail (back-type kinds.Array p) (λ ts mid rest w d. (AType w.0, d.1.0, d.1.1, d.1.2, cc (w.1, d.1.3, d.2)))
back-method_tail (kinds.Name n) p = back-followed syms.WholeType (m.type_move (kinds.Name n)) (token (kinds.Name n) p) (syms.Body ∷ []) syms.MethodTail (back-type (kinds.Name n) p) (λ ts mid rest w d. (AType w.0, d.1.0, d.1.1, d.1.2, cc (w.1, d.1.3, d.2)))
back-method_tail _ p = tt
