-- Every block of the grammar is read to its tree.
use Rattle.std.proofs.Common.{◌≡◌, ◌∙◌, ap, sym, ℕ, Bool, true, false, ◌&&◌, ◌||◌, None, Some, List, [], ◌∷◌, ◌++◌, refl, if◌then◌else◌}
use Rattle.std.specs.Bool.{⊤}
use Rattle.c_text.specs.declared.kinds.CUnary.TheVariants as unary_op
use Rattle.c_text.specs.declared.kinds.Otherwise.{Otherwise}
use Rattle.c_text.specs.declared.kinds.Otherwise.TheVariants as else_is
use Rattle.c_text.specs.declared.tokens.CWord.TheVariants as word
use Rattle.c_text.specs.declared.tokens.CMark.TheVariants as mark
use Rattle.c_text.specs.CSpelling.{CToken, keyword, named, operator, marked}
use Rattle.c_text.specs.CGrammar.{expr_tokens, operands_tokens, args_tokens, is_literal, is_lvalue, is_finish, IsExpr, IsArgs, IsTarget, IsCode, FitsElse, code_tokens, else_tokens}
use Rattle.c_text.specs.CTree.{ExprTree, number, variable, member, element, pointed, operation, unary, cast, choice, called, Args, Code, finish, nested, empty, assign, call, jump, branch, repeat, select, leave, case_label, default_label, name_label}
use Rattle.c_read_grammar.specs.declared.symbols.ExprSym.TheVariants.{Expr, Tail, FirstTail, Paren, Args as ArgsOf}
use Rattle.c_read_grammar.specs.declared.symbols.StmtSym.TheVariants.{Stmts, Stmt, StmtName, StmtParen, Becomes, Value, ValueName, Returned, Else}
use Rattle.c_read_grammar.specs.declared.actions.Action.TheVariants as acts
use Rattle.c_read_grammar.specs.declared.actions.ExprAction.TheVariants.{MakeVariable, MakeMember, MakeElement, MakePointed, StartArgs}
use Rattle.c_read_grammar.specs.declared.actions.StmtAction.TheVariants.{StartBlock, EndBlock, MakeNested, MakeEmpty, MakeAssign, MakeCall, MakeCallInto, MakeGoto, AddArm, MakeIf, MakeWhile, MakeSwitch, MakeReturn, MakeReturnValue, MakeCase, MakeDefault, MakeLabel}
use Rattle.c_read_grammar.specs.declared.actions.Want.{Want}
use Rattle.c_read_grammar.specs.Machine.{expr, stmt, do_expr, do_stmt, test_wants}
use Rattle.c_read_grammar.specs.Values.{Val, a_name, an_expr, a_number, some_args, a_block, a_code, a_statement, an_arm, kept_if, collect, chain, is_label}
use Rattle.c_read_grammar.proofs.Spine.{run, performs, inside, spine-post}
use Rattle.c_read_grammar.proofs.ReadsExpr.{open_paren, close_paren, close_bracket, awaits, kept-post, reads-to, reads-expr, reads-args, reads-inside}

abbrev pub open_brace : CToken
open_brace = marked mark.OpenBrace

abbrev pub close_brace : CToken
close_brace = marked mark.CloseBrace

abbrev pub semicolon : CToken
semicolon = marked mark.Semicolon

-- What goes on after a pointer.
abbrev pub goes_on_tail : CToken → Bool
goes_on_tail (marked mark.Arrow) = true
goes_on_tail (marked mark.OpenBracket) = true
goes_on_tail _ = false

abbrev pub is_assign : CToken → Bool
is_assign (marked mark.Assign) = true
is_assign _ = false

-- What may follow the expression at the head of a statement.
abbrev pub fits_front : ExprTree → CToken → Bool
fits_front e t = goes_on_tail t || (is_lvalue e && is_assign t)

name-front : (t : CToken) → fits_front (variable []) t ≡ true → (n : List ℕ) (ts : List CToken) (k : List Want) (vs : List Val)
    → run (t ∷ ts) (stmt StmtName ∷ k) (a_name n ∷ vs) ≡ run (t ∷ ts) (expr Tail ∷ stmt Becomes ∷ k) (an_expr (variable n) ∷ vs)
name-front (marked mark.Arrow) h n ts k vs = performs ts (acts.Expr MakeVariable) _ _
name-front (marked mark.OpenBracket) h n ts k vs = performs ts (acts.Expr MakeVariable) _ _
name-front (marked mark.Assign) h n ts k vs = performs ts (acts.Expr MakeVariable) _ _
name-front _ h n ts k vs = absurd (cc h)

first-tail : (t : CToken) → goes_on_tail t ≡ true → (ts : List CToken) (k : List Want) (vs : List Val)
    → run (t ∷ ts) (expr FirstTail ∷ k) vs ≡ run (t ∷ ts) (expr Tail ∷ k) vs
first-tail (marked mark.Arrow) h ts k vs = refl
first-tail (marked mark.OpenBracket) h ts k vs = refl
first-tail _ h ts k vs = absurd (cc h)

-- the first operand after `(`, at the head of a statement
spine-stmt_paren : (e : ExprTree) (ts : List CToken) (k : List Want) (vs : List Val)
    → run (expr_tokens e ts) (stmt StmtParen ∷ k) vs ≡ run (expr_tokens e ts) (expr Paren ∷ expr FirstTail ∷ stmt Becomes ∷ k) vs
spine-stmt_paren (member p f) ts k vs = spine-stmt_paren p (marked mark.Arrow ∷ named f ∷ ts) k vs
spine-stmt_paren (element p i) ts k vs = spine-stmt_paren p (marked mark.OpenBracket ∷ expr_tokens i (close_bracket ∷ ts)) k vs
spine-stmt_paren _ ts k vs = refl

-- expressions in parentheses that are no lvalues
abbrev pub in_plain_parens : ExprTree → Bool
in_plain_parens (operation o first second others) = true
in_plain_parens (unary o of) = true
in_plain_parens (cast to of) = true
in_plain_parens (choice test met unmet) = true
in_plain_parens (called function given) = true
in_plain_parens _ = false

inside-stmt : (e : ExprTree) → in_plain_parens e ≡ true → (ts : List CToken) (k : List Want) (vs : List Val)
    → run (inside e ts) (stmt StmtParen ∷ k) vs ≡ run (inside e ts) (expr Paren ∷ expr FirstTail ∷ stmt Becomes ∷ k) vs
inside-stmt (operation o a b os) h ts k vs = spine-stmt_paren a (operator o ∷ expr_tokens b (operands_tokens os o (close_paren ∷ ts))) k vs
inside-stmt (unary unary_op.Not e) h ts k vs = refl
inside-stmt (unary unary_op.Complement e) h ts k vs = refl
inside-stmt (unary unary_op.Address e) h ts k vs = refl
inside-stmt (cast t e) h ts k vs = refl
inside-stmt (choice a b c) h ts k vs = spine-stmt_paren a (marked mark.Question ∷ expr_tokens b (marked mark.Colon ∷ expr_tokens c (close_paren ∷ ts))) k vs
inside-stmt (called f args) h ts k vs = refl
inside-stmt _ h ts k vs = absurd (cc h)

tail-only : (t : CToken) → (goes_on_tail t || (false && is_assign t)) ≡ true → goes_on_tail t ≡ true
tail-only (marked mark.Arrow) h = refl
tail-only (marked mark.OpenBracket) h = refl
tail-only _ h = absurd (cc h)

-- An expression at the head of a statement.
abbrev Fronts : ExprTree → Type 0
Fronts e = (t : CToken) → fits_front e t ≡ true → (ts : List CToken) (k : List Want) (vs : List Val)
    → run (expr_tokens e (t ∷ ts)) (stmt Stmt ∷ k) vs ≡ run (t ∷ ts) (expr Tail ∷ stmt Becomes ∷ k) (an_expr e ∷ vs)

fronts-member : (p : ExprTree) (f : List ℕ) → is_literal p ≡ false → Fronts p → Fronts (member p f)
fronts-member p f h fp t w ts k vs =
    fp (marked mark.Arrow) refl (named f ∷ t ∷ ts) k vs
    ∙ performs (t ∷ ts) (acts.Expr MakeMember) (expr Tail ∷ stmt Becomes ∷ k) (a_name f ∷ an_expr p ∷ vs)
    ∙ kept-post p h (an_expr (member p f)) (t ∷ ts) (expr Tail ∷ stmt Becomes ∷ k) vs

fronts-element : (p i : ExprTree) → is_literal p ≡ false → IsExpr i → Fronts p → Fronts (element p i)
fronts-element p i h li fp t w ts k vs =
    fp (marked mark.OpenBracket) refl (expr_tokens i (close_bracket ∷ t ∷ ts)) k vs
    ∙ reads-to i (reads-expr i li) close_bracket refl (t ∷ ts) (awaits mark.CloseBracket ∷ do_expr MakeElement ∷ expr Tail ∷ stmt Becomes ∷ k) (an_expr p ∷ vs)
    ∙ performs (t ∷ ts) (acts.Expr MakeElement) (expr Tail ∷ stmt Becomes ∷ k) (an_expr i ∷ an_expr p ∷ vs)
    ∙ kept-post p h (an_expr (element p i)) (t ∷ ts) (expr Tail ∷ stmt Becomes ∷ k) vs

fronts-pointed : (p : ExprTree) → is_literal p ≡ false → IsExpr p → Fronts (pointed p)
fronts-pointed p h l t w ts k vs =
    let more = awaits mark.CloseParen ∷ do_expr MakePointed ∷ expr Tail ∷ stmt Becomes ∷ k in
    spine-post p h l (close_paren ∷ t ∷ ts) more vs
    ∙ reads-to p (reads-expr p l) close_paren refl (t ∷ ts) more vs
    ∙ performs (t ∷ ts) (acts.Expr MakePointed) (expr Tail ∷ stmt Becomes ∷ k) (an_expr p ∷ vs)
    ∙ kept-post p h (an_expr (pointed p)) (t ∷ ts) (expr Tail ∷ stmt Becomes ∷ k) vs

fronts-plain : (e : ExprTree) (h : in_plain_parens e ≡ true) → ((ts : List CToken) (k : List Want) (vs : List Val) → run (inside e ts) (expr Paren ∷ k) vs ≡ run ts k (an_expr e ∷ vs))
    → (t : CToken) → goes_on_tail t ≡ true → (ts : List CToken) (k : List Want) (vs : List Val)
    → run (inside e (t ∷ ts)) (stmt StmtParen ∷ k) vs ≡ run (t ∷ ts) (expr Tail ∷ stmt Becomes ∷ k) (an_expr e ∷ vs)
fronts-plain e h fe t w ts k vs =
    inside-stmt e h (t ∷ ts) k vs
    ∙ fe (t ∷ ts) (expr FirstTail ∷ stmt Becomes ∷ k) vs
    ∙ first-tail t w ts (stmt Becomes ∷ k) (an_expr e ∷ vs)

fronts : (e : ExprTree) → is_literal e ≡ false → IsExpr e → Fronts e
fronts (number n) h l = absurd (cc h)
fronts (variable n) h l = λ t w ts k vs. name-front t w n ts k vs
fronts (member p f) h l = fronts-member p f l.0 (fronts p l.0 l.1)
fronts (element p i) h l = fronts-element p i l.0 l.2 (fronts p l.0 l.1)
fronts (pointed p) h l = fronts-pointed p l.0 l.1
fronts (operation o a b os) h l = λ t w ts k vs. fronts-plain (operation o a b os) refl (reads-inside (operation o a b os) refl l) t (tail-only t w) ts k vs
fronts (unary o e) h l = λ t w ts k vs. fronts-plain (unary o e) refl (reads-inside (unary o e) refl l) t (tail-only t w) ts k vs
fronts (cast to e) h l = λ t w ts k vs. fronts-plain (cast to e) refl (reads-inside (cast to e) refl l) t (tail-only t w) ts k vs
fronts (choice a b c) h l = λ t w ts k vs. fronts-plain (choice a b c) refl (reads-inside (choice a b c) refl l) t (tail-only t w) ts k vs
fronts (called f args) h l = λ t w ts k vs. fronts-plain (called f args) refl (reads-inside (called f args) refl l) t (tail-only t w) ts k vs

lvalue-no_literal : (e : ExprTree) → is_lvalue e ≡ true → is_literal e ≡ false
lvalue-no_literal (number n) h = absurd (cc h)
lvalue-no_literal _ h = refl

fits-assign : (e : ExprTree) → is_lvalue e ≡ true → fits_front e (marked mark.Assign) ≡ true
fits-assign e h = ap (λ b. b && true) h

-- A target and its `=`.
reads-target : (e : ExprTree) → IsTarget e → (ts : List CToken) (k : List Want) (vs : List Val)
    → run (expr_tokens e (marked mark.Assign ∷ ts)) (stmt Stmt ∷ k) vs ≡ run ts (stmt Value ∷ k) (an_expr e ∷ vs)
reads-target e l ts k vs = fronts e (lvalue-no_literal e l.0) l.1 (marked mark.Assign) (fits-assign e l.0) ts k vs

-- What is assigned.
abbrev ends_value : CToken → Bool
ends_value (marked mark.Semicolon) = true
ends_value t = goes_on_tail t

name-value : (t : CToken) → ends_value t ≡ true → (n : List ℕ) (ts : List CToken) (k : List Want) (vs : List Val)
    → run (t ∷ ts) (stmt ValueName ∷ k) (a_name n ∷ vs) ≡ run (t ∷ ts) (do_expr MakeVariable ∷ expr Tail ∷ awaits mark.Semicolon ∷ do_stmt MakeAssign ∷ k) (a_name n ∷ vs)
name-value (marked mark.Arrow) h n ts k vs = performs ts (acts.Expr MakeVariable) _ _
name-value (marked mark.OpenBracket) h n ts k vs = performs ts (acts.Expr MakeVariable) _ _
name-value (marked mark.Semicolon) h n ts k vs = performs ts (acts.Expr MakeVariable) _ _
name-value _ h n ts k vs = absurd (cc h)

spine-value : (e : ExprTree) (t : CToken) → ends_value t ≡ true → (ts : List CToken) (k : List Want) (vs : List Val)
    → run (expr_tokens e (t ∷ ts)) (stmt Value ∷ k) vs ≡ run (expr_tokens e (t ∷ ts)) (expr Expr ∷ awaits mark.Semicolon ∷ do_stmt MakeAssign ∷ k) vs
spine-value (variable n) t h ts k vs = name-value t h n ts k vs
spine-value (member p f) t h ts k vs = spine-value p (marked mark.Arrow) refl (named f ∷ t ∷ ts) k vs
spine-value (element p i) t h ts k vs = spine-value p (marked mark.OpenBracket) refl (expr_tokens i (close_bracket ∷ t ∷ ts)) k vs
spine-value _ t h ts k vs = refl

kept-target : (e : ExprTree) → is_lvalue e ≡ true → (made : Val) (ts : List CToken) (k : List Want) (vs : List Val) → run ts k (kept_if (is_lvalue e) made vs) ≡ run ts k (made ∷ vs)
kept-target e h made ts k vs = ap (λ b. run ts k (kept_if b made vs)) h

reads-value : (target e : ExprTree) → is_lvalue target ≡ true → IsExpr e → (ts : List CToken) (k : List Want) (vs : List Val)
    → run (expr_tokens e (semicolon ∷ ts)) (stmt Value ∷ k) (an_expr target ∷ vs) ≡ run ts k (a_statement (assign target e finish) ∷ vs)
reads-value target e h l ts k vs =
    spine-value e semicolon refl ts k (an_expr target ∷ vs)
    ∙ reads-to e (reads-expr e l) semicolon refl ts (awaits mark.Semicolon ∷ do_stmt MakeAssign ∷ k) (an_expr target ∷ vs)
    ∙ performs ts (acts.Stmt MakeAssign) k (an_expr e ∷ an_expr target ∷ vs)
    ∙ kept-target target h (a_statement (assign target e finish)) ts k vs

reads-call_into : (target : ExprTree) (f : List ℕ) (args : Args) → is_lvalue target ≡ true → IsArgs args → (ts : List CToken) (k : List Want) (vs : List Val)
    → run (named f ∷ open_paren ∷ args_tokens args (close_paren ∷ semicolon ∷ ts)) (stmt Value ∷ k) (an_expr target ∷ vs) ≡ run ts k (a_statement (call (Some target) f args finish) ∷ vs)
reads-call_into target f args h l ts k vs =
    let more = awaits mark.Semicolon ∷ do_stmt MakeCallInto ∷ k in
    performs (args_tokens args (close_paren ∷ semicolon ∷ ts)) (acts.Expr StartArgs) (expr ArgsOf ∷ more) (a_name f ∷ an_expr target ∷ vs)
    ∙ reads-args args l (semicolon ∷ ts) more (a_name f ∷ an_expr target ∷ vs)
    ∙ performs ts (acts.Stmt MakeCallInto) k (some_args args ∷ a_name f ∷ an_expr target ∷ vs)
    ∙ kept-target target h (a_statement (call (Some target) f args finish)) ts k vs

reads-call : (f : List ℕ) (args : Args) → IsArgs args → (ts : List CToken) (k : List Want) (vs : List Val)
    → run (named f ∷ open_paren ∷ args_tokens args (close_paren ∷ semicolon ∷ ts)) (stmt Stmt ∷ k) vs ≡ run ts k (a_statement (call None f args finish) ∷ vs)
reads-call f args l ts k vs =
    let more = awaits mark.Semicolon ∷ do_stmt MakeCall ∷ k in
    performs (args_tokens args (close_paren ∷ semicolon ∷ ts)) (acts.Expr StartArgs) (expr ArgsOf ∷ more) (a_name f ∷ vs)
    ∙ reads-args args l (semicolon ∷ ts) more (a_name f ∷ vs)
    ∙ performs ts (acts.Stmt MakeCall) k (some_args args ∷ a_name f ∷ vs)

-- What is returned.
spine-returned : (e : ExprTree) (ts : List CToken) (k : List Want) (vs : List Val)
    → run (expr_tokens e ts) (stmt Returned ∷ k) vs ≡ run (expr_tokens e ts) (expr Expr ∷ awaits mark.Semicolon ∷ do_stmt MakeReturnValue ∷ k) vs
spine-returned (member p f) ts k vs = spine-returned p (marked mark.Arrow ∷ named f ∷ ts) k vs
spine-returned (element p i) ts k vs = spine-returned p (marked mark.OpenBracket ∷ expr_tokens i (close_bracket ∷ ts)) k vs
spine-returned _ ts k vs = refl

reads-returned : (e : ExprTree) → IsExpr e → (ts : List CToken) (k : List Want) (vs : List Val)
    → run (expr_tokens e (semicolon ∷ ts)) (stmt Returned ∷ k) vs ≡ run ts k (a_statement (leave (Some e) finish) ∷ vs)
reads-returned e l ts k vs =
    spine-returned e (semicolon ∷ ts) k vs
    ∙ reads-to e (reads-expr e l) semicolon refl ts (awaits mark.Semicolon ∷ do_stmt MakeReturnValue ∷ k) vs
    ∙ performs ts (acts.Stmt MakeReturnValue) k (an_expr e ∷ vs)

-- The first statement of a block.
spine-stmts : (e : ExprTree) → is_literal e ≡ false → IsExpr e → (ts : List CToken) (k : List Want) (vs : List Val)
    → run (expr_tokens e ts) (stmt Stmts ∷ k) vs ≡ run (expr_tokens e ts) (stmt Stmt ∷ stmt Stmts ∷ k) vs
spine-stmts (number n) h l ts k vs = absurd (cc h)
spine-stmts (member p f) h l ts k vs = spine-stmts p l.0 l.1 (marked mark.Arrow ∷ named f ∷ ts) k vs
spine-stmts (element p i) h l ts k vs = spine-stmts p l.0 l.1 (marked mark.OpenBracket ∷ expr_tokens i (close_bracket ∷ ts)) k vs
spine-stmts _ h l ts k vs = refl

pub first-stmt : (c : Code) → is_finish c ≡ false → IsCode c → (ts : List CToken) (k : List Want) (vs : List Val)
    → run (code_tokens c ts) (stmt Stmts ∷ k) vs ≡ run (code_tokens c ts) (stmt Stmt ∷ stmt Stmts ∷ k) vs
first-stmt finish h l ts k vs = absurd (cc h)
first-stmt (assign target e rest) h l ts k vs = spine-stmts target (lvalue-no_literal target l.0.0) l.0.1 (marked mark.Assign ∷ expr_tokens e (semicolon ∷ code_tokens rest ts)) k vs
first-stmt (call (Some target) f args rest) h l ts k vs = spine-stmts target (lvalue-no_literal target l.0.0) l.0.1 (marked mark.Assign ∷ named f ∷ open_paren ∷ args_tokens args (close_paren ∷ semicolon ∷ code_tokens rest ts)) k vs
first-stmt _ h l ts k vs = refl

-- Blocks.
abbrev pub begins_arm : List Val → Bool
begins_arm (an_arm test body ∷ vs) = true
begins_arm _ = false

abbrev pub ReadsCode : Code → Type 0
ReadsCode c = (ts : List CToken) (k : List Want) (vs : List Val) → begins_arm vs ≡ false
    → run (code_tokens c (close_brace ∷ ts)) (stmt Stmts ∷ k) vs ≡ run ts k (collect c vs)

abbrev pub ends_else : List CToken → Bool
ends_else [] = false
ends_else (keyword word.Else ∷ ts) = false
ends_else (t ∷ ts) = true

-- The arms of an `if`, from the test of one on.
abbrev Chained : Code → Type 0
Chained (branch test body otherwise other _) = (ts : List CToken) (k : List Want) (vs : List Val) → ends_else ts ≡ true
    → run (open_paren ∷ expr_tokens test (close_paren ∷ open_brace ∷ code_tokens body (close_brace ∷ else_tokens otherwise (code_tokens other) ts))) (test_wants ++ do_stmt AddArm ∷ stmt Else ∷ do_stmt MakeIf ∷ k) vs
    ≡ run ts k (chain (branch test body otherwise other finish) vs)
Chained _ = ⊤

drop-else : (ts : List CToken) → ends_else ts ≡ true → (k : List Want) (vs : List Val) → run ts (stmt Else ∷ k) vs ≡ run ts k vs
drop-else [] h k vs = absurd (cc h)
drop-else (keyword word.Else ∷ ts) h k vs = absurd (cc h)
drop-else (_ ∷ ts) h k vs = refl

finished : (c : Code) → is_finish c ≡ true → c ≡ finish
finished finish h = refl
finished _ h = absurd (cc h)

-- a test in parentheses and a block
reads-test : (e : ExprTree) (body : Code) → IsExpr e → ReadsCode body → (ts : List CToken) (k : List Want) (vs : List Val)
    → run (open_paren ∷ expr_tokens e (close_paren ∷ open_brace ∷ code_tokens body (close_brace ∷ ts))) (test_wants ++ k) vs ≡ run ts k (a_code body ∷ an_expr e ∷ vs)
reads-test e body l fbody ts k vs =
    let block = code_tokens body (close_brace ∷ ts) in
    reads-to e (reads-expr e l) close_paren refl (open_brace ∷ block) (awaits mark.CloseParen ∷ awaits mark.OpenBrace ∷ do_stmt StartBlock ∷ stmt Stmts ∷ k) vs
    ∙ performs block (acts.Stmt StartBlock) (stmt Stmts ∷ k) (an_expr e ∷ vs)
    ∙ fbody ts k (a_block ∷ an_expr e ∷ vs) refl

reads-else : (otherwise : Otherwise) (other : Code) → FitsElse otherwise other → ReadsCode other → Chained other
    → (ts : List CToken) (k : List Want) (test : ExprTree) (body : Code) (vs : List Val) → ends_else ts ≡ true
    → run (else_tokens otherwise (code_tokens other) ts) (stmt Else ∷ do_stmt MakeIf ∷ k) (an_arm test body ∷ vs) ≡ run ts k (chain (branch test body otherwise other finish) vs)
reads-else else_is.Nothing other l fc ft ts k test body vs h =
    drop-else ts h (do_stmt MakeIf ∷ k) (an_arm test body ∷ vs)
    ∙ performs ts (acts.Stmt MakeIf) k (an_arm test body ∷ vs)
    ∙ ap (λ x. run ts k (chain (branch test body else_is.Nothing x finish) vs)) (sym (finished other l))
reads-else else_is.Block other l fc ft ts k test body vs h =
    performs (code_tokens other (close_brace ∷ ts)) (acts.Stmt StartBlock) (stmt Stmts ∷ do_stmt MakeIf ∷ k) (an_arm test body ∷ vs)
    ∙ fc ts (do_stmt MakeIf ∷ k) (a_block ∷ an_arm test body ∷ vs) refl
    ∙ performs ts (acts.Stmt MakeIf) k (a_code other ∷ an_arm test body ∷ vs)
reads-else else_is.If (branch t b o x r) l fc ft ts k test body vs h =
    ap (λ y. run (keyword word.Else ∷ code_tokens (branch t b o x y) ts) (stmt Else ∷ do_stmt MakeIf ∷ k) (an_arm test body ∷ vs)) (finished r l)
    ∙ ft ts k (an_arm test body ∷ vs) h
    ∙ ap (λ y. run ts k (chain (branch test body else_is.If (branch t b o x y) finish) vs)) (sym (finished r l))
reads-else else_is.If _ l fc ft ts k test body vs h = absurd l

reads-chain : (test : ExprTree) (body : Code) (otherwise : Otherwise) (other rest : Code) → IsExpr test → FitsElse otherwise other → ReadsCode body → ReadsCode other → Chained other → Chained (branch test body otherwise other rest)
reads-chain test body otherwise other rest l lo fbody fc ft ts k vs h =
    let behind = else_tokens otherwise (code_tokens other) ts in
    reads-test test body l fbody behind (do_stmt AddArm ∷ stmt Else ∷ do_stmt MakeIf ∷ k) vs
    ∙ performs behind (acts.Stmt AddArm) (stmt Else ∷ do_stmt MakeIf ∷ k) (a_code body ∷ an_expr test ∷ vs)
    ∙ reads-else otherwise other lo fc ft ts k test body vs h

-- no `else` begins a statement
ends-spine : (e : ExprTree) → (ts : List CToken) → ends_else (expr_tokens e ts) ≡ true
ends-spine (member p f) ts = ends-spine p (marked mark.Arrow ∷ named f ∷ ts)
ends-spine (element p i) ts = ends-spine p (marked mark.OpenBracket ∷ expr_tokens i (close_bracket ∷ ts))
ends-spine _ ts = refl

ends-code : (c : Code) (ts : List CToken) → ends_else (code_tokens c (close_brace ∷ ts)) ≡ true
ends-code (assign target e rest) ts = ends-spine target (marked mark.Assign ∷ expr_tokens e (semicolon ∷ code_tokens rest (close_brace ∷ ts)))
ends-code (call (Some target) f args rest) ts = ends-spine target (marked mark.Assign ∷ named f ∷ open_paren ∷ args_tokens args (close_paren ∷ semicolon ∷ code_tokens rest (close_brace ∷ ts)))
ends-code _ ts = refl

chain-whole : (s : Code) (vs : List Val) → begins_arm vs ≡ false → chain s vs ≡ a_statement s ∷ vs
chain-whole s [] h = refl
chain-whole s (an_arm test body ∷ vs) h = absurd (cc h)
chain-whole s (_ ∷ vs) h = refl

reads-branch : (test : ExprTree) (body : Code) (otherwise : Otherwise) (other rest : Code) → Chained (branch test body otherwise other rest) → ReadsCode rest → ReadsCode (branch test body otherwise other rest)
reads-branch test body otherwise other rest ft frest ts k vs h =
    let behind = code_tokens rest (close_brace ∷ ts) in
    ft behind (stmt Stmts ∷ k) vs (ends-code rest ts)
    ∙ ap (λ x. run behind (stmt Stmts ∷ k) x) (chain-whole (branch test body otherwise other finish) vs h)
    ∙ frest ts k (a_statement (branch test body otherwise other finish) ∷ vs) refl

-- a label, and the statement after it
reads-label : (s rest : Code) → is_label s ≡ true → is_finish rest ≡ false → IsCode rest → ReadsCode rest → (ts : List CToken) (k : List Want) (vs : List Val)
    → run (code_tokens rest (close_brace ∷ ts)) (stmt Stmt ∷ stmt Stmts ∷ k) (a_statement s ∷ vs) ≡ run ts k (collect rest (a_statement s ∷ vs))
reads-label s rest h m l frest ts k vs = sym (first-stmt rest m l (close_brace ∷ ts) k (a_statement s ∷ vs)) ∙ frest ts k (a_statement s ∷ vs) refl

collect-label : (b c : Bool) (whole : List Val) → b ≡ true → c ≡ false → (if b && c then [] else whole) ≡ whole
collect-label b c whole h m = ap (λ x. if x && c then [] else whole) h ∙ ap (λ y. if true && y then [] else whole) m

reads-code : (c : Code) → IsCode c → ReadsCode c × Chained c
reads-code finish l = (λ ts k vs h. performs ts (acts.Stmt EndBlock) k vs, tt)
reads-code (nested inner rest) l =
    let f = reads-code inner l.0 in
    let g = reads-code rest l.1 in (
      λ ts k vs h.
          let behind = code_tokens rest (close_brace ∷ ts) in
          performs (code_tokens inner (close_brace ∷ behind)) (acts.Stmt StartBlock) (stmt Stmts ∷ do_stmt MakeNested ∷ stmt Stmts ∷ k) vs
          ∙ f.0 behind (do_stmt MakeNested ∷ stmt Stmts ∷ k) (a_block ∷ vs) refl
          ∙ performs behind (acts.Stmt MakeNested) (stmt Stmts ∷ k) (a_code inner ∷ vs)
          ∙ g.0 ts k (a_statement (nested inner finish) ∷ vs) refl,
      tt,
    )
reads-code (empty rest) l =
    let g = reads-code rest l in (
      λ ts k vs h.
          performs (code_tokens rest (close_brace ∷ ts)) (acts.Stmt MakeEmpty) (stmt Stmts ∷ k) vs
          ∙ g.0 ts k (a_statement (empty finish) ∷ vs) refl,
      tt,
    )
reads-code (assign target e rest) l =
    let g = reads-code rest l.2 in (
      λ ts k vs h.
          let behind = code_tokens rest (close_brace ∷ ts) in
          first-stmt (assign target e rest) refl l (close_brace ∷ ts) k vs
          ∙ reads-target target l.0 (expr_tokens e (semicolon ∷ behind)) (stmt Stmts ∷ k) vs
          ∙ reads-value target e l.0.0 l.1 behind (stmt Stmts ∷ k) vs
          ∙ g.0 ts k (a_statement (assign target e finish) ∷ vs) refl,
      tt,
    )
reads-code (call None f args rest) l =
    let g = reads-code rest l.3 in (
      λ ts k vs h.
          reads-call f args l.2 (code_tokens rest (close_brace ∷ ts)) (stmt Stmts ∷ k) vs
          ∙ g.0 ts k (a_statement (call None f args finish) ∷ vs) refl,
      tt,
    )
reads-code (call (Some target) f args rest) l =
    let g = reads-code rest l.3 in (
      λ ts k vs h.
          let behind = code_tokens rest (close_brace ∷ ts) in
          first-stmt (call (Some target) f args rest) refl l (close_brace ∷ ts) k vs
          ∙ reads-target target l.0 (named f ∷ open_paren ∷ args_tokens args (close_paren ∷ semicolon ∷ behind)) (stmt Stmts ∷ k) vs
          ∙ reads-call_into target f args l.0.0 l.2 behind (stmt Stmts ∷ k) vs
          ∙ g.0 ts k (a_statement (call (Some target) f args finish) ∷ vs) refl,
      tt,
    )
reads-code (jump label rest) l =
    let g = reads-code rest l.1 in (
      λ ts k vs h.
          performs (code_tokens rest (close_brace ∷ ts)) (acts.Stmt MakeGoto) (stmt Stmts ∷ k) (a_name label ∷ vs)
          ∙ g.0 ts k (a_statement (jump label finish) ∷ vs) refl,
      tt,
    )
reads-code (branch test body otherwise other rest) l =
    let f = reads-code body l.1 in
    let x = reads-code other l.3 in
    let g = reads-code rest l.4 in
    let arms = reads-chain test body otherwise other rest l.0 l.2 f.0 x.0 x.1 in
    (reads-branch test body otherwise other rest arms g.0, arms)
reads-code (repeat test body rest) l =
    let f = reads-code body l.1 in
    let g = reads-code rest l.2 in (
      λ ts k vs h.
          let behind = code_tokens rest (close_brace ∷ ts) in
          reads-test test body l.0 f.0 behind (do_stmt MakeWhile ∷ stmt Stmts ∷ k) vs
          ∙ performs behind (acts.Stmt MakeWhile) (stmt Stmts ∷ k) (a_code body ∷ an_expr test ∷ vs)
          ∙ g.0 ts k (a_statement (repeat test body finish) ∷ vs) refl,
      tt,
    )
reads-code (select on body rest) l =
    let f = reads-code body l.1 in
    let g = reads-code rest l.2 in (
      λ ts k vs h.
          let behind = code_tokens rest (close_brace ∷ ts) in
          reads-test on body l.0 f.0 behind (do_stmt MakeSwitch ∷ stmt Stmts ∷ k) vs
          ∙ performs behind (acts.Stmt MakeSwitch) (stmt Stmts ∷ k) (a_code body ∷ an_expr on ∷ vs)
          ∙ g.0 ts k (a_statement (select on body finish) ∷ vs) refl,
      tt,
    )
reads-code (leave None rest) l =
    let g = reads-code rest l.1 in (
      λ ts k vs h.
          performs (code_tokens rest (close_brace ∷ ts)) (acts.Stmt MakeReturn) (stmt Stmts ∷ k) vs
          ∙ g.0 ts k (a_statement (leave None finish) ∷ vs) refl,
      tt,
    )
reads-code (leave (Some e) rest) l =
    let g = reads-code rest l.1 in (
      λ ts k vs h.
          reads-returned e l.0 (code_tokens rest (close_brace ∷ ts)) (stmt Stmts ∷ k) vs
          ∙ g.0 ts k (a_statement (leave (Some e) finish) ∷ vs) refl,
      tt,
    )
reads-code (case_label n rest) l =
    let g = reads-code rest l.2 in (
      λ ts k vs h.
          performs (code_tokens rest (close_brace ∷ ts)) (acts.Stmt MakeCase) (stmt Stmt ∷ stmt Stmts ∷ k) (a_number n ∷ vs)
          ∙ reads-label (case_label n finish) rest refl l.1 l.2 g.0 ts k vs
          ∙ ap (λ x. run ts k x) (collect-label true (is_finish rest) (collect (case_label n rest) vs) refl l.1),
      tt,
    )
reads-code (default_label rest) l =
    let g = reads-code rest l.1 in (
      λ ts k vs h.
          performs (code_tokens rest (close_brace ∷ ts)) (acts.Stmt MakeDefault) (stmt Stmt ∷ stmt Stmts ∷ k) vs
          ∙ reads-label (default_label finish) rest refl l.0 l.1 g.0 ts k vs
          ∙ ap (λ x. run ts k x) (collect-label true (is_finish rest) (collect (default_label rest) vs) refl l.0),
      tt,
    )
reads-code (name_label name rest) l =
    let g = reads-code rest l.2 in (
      λ ts k vs h.
          performs (code_tokens rest (close_brace ∷ ts)) (acts.Stmt MakeLabel) (stmt Stmt ∷ stmt Stmts ∷ k) (a_name name ∷ vs)
          ∙ reads-label (name_label name finish) rest refl l.1 l.2 g.0 ts k vs
          ∙ ap (λ x. run ts k x) (collect-label true (is_finish rest) (collect (name_label name rest) vs) refl l.1),
      tt,
    )

pub reads-block : (c : Code) → IsCode c → ReadsCode c
reads-block c l = let f = reads-code c l in f.0
