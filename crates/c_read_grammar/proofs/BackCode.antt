-- What a symbol's move wants completes the symbol after the token that was read: statements and blocks.
use Rattle.std.proofs.Common.{◌≡◌, None, Some, List, [], ◌∷◌, ◌++◌, refl}
use Rattle.c_text.specs.declared.kinds.COp.TheVariants as op
use Rattle.c_text.specs.declared.kinds.Otherwise.TheVariants as else_is
use Rattle.c_text.specs.declared.tokens.CWord.{CWord}
use Rattle.c_text.specs.declared.tokens.CWord.TheVariants as word
use Rattle.c_text.specs.declared.tokens.CMark.{CMark}
use Rattle.c_text.specs.declared.tokens.CMark.TheVariants as mark
use Rattle.c_text.specs.CSpelling.{CToken, keyword, named, operator, marked}
use Rattle.c_text.specs.CGrammar.{expr_tokens, code_tokens, IsExpr, IsCode}
use Rattle.c_text.specs.CTree.{ExprTree, variable, member, element, pointed, Code, finish, nested, empty, assign, call, jump, branch, repeat, select, leave, case_label, default_label, name_label}
use Rattle.c_read_grammar.specs.declared.symbols.ExprSym.TheVariants.{Expr, FirstTail, Paren}
use Rattle.c_read_grammar.specs.declared.symbols.StmtSym.TheVariants.{Stmts, StmtName, StmtParen, Becomes, Value, ValueName, Returned, Else, ElseTail}
use Rattle.c_read_grammar.specs.declared.symbols.TokenSym.TheVariants.{Mark}
use Rattle.c_read_grammar.specs.declared.actions.StmtAction.TheVariants.{MakeAssign, MakeReturnValue, AddArm, MakeIf, MakeWhile, MakeSwitch}
use Rattle.c_read_grammar.specs.declared.actions.Want.{Want}
use Rattle.c_read_grammar.specs.Machine as m
use Rattle.c_read_grammar.specs.Machine.{expr, stmt, token, do_stmt, test_wants}
use Rattle.c_read_grammar.specs.Texts.{IsToken}
use Rattle.c_read_grammar.proofs.ReadsExpr.{open_paren, close_paren}
use Rattle.c_read_grammar.proofs.ReadsCode.{open_brace, close_brace}
use Rattle.c_read_grammar.proofs.Words.{ExprWord, StmtWord, MakesStmt, Words}
use Rattle.c_read_grammar.proofs.BackExpr.{Back, back-followed, back-expr, back-paren}

-- A test in parentheses and a block, and what is wanted after them.
record Tested (ys : List Want) (ts rest : List CToken) : Type 0 where
  test : ExprTree
  test_is : IsExpr test
  body : Code
  body_is : IsCode body
  mid : List CToken
  cut : ts ≡ open_paren ∷ expr_tokens test (close_paren ∷ open_brace ∷ code_tokens body (close_brace ∷ mid))
  more : Words ys mid rest

tested : (ys : List Want) (ts rest : List CToken) → Words (test_wants ++ ys) ts rest → Tested ys ts rest
tested ys ts rest d = record {
  test = d.2.1.0;
  test_is = d.2.1.1;
  body = d.2.2.2.2.1.0;
  body_is = d.2.2.2.2.1.1;
  mid = d.2.2.2.2.0;
  cut = cc (d.1, d.2.1.2, d.2.2.1, d.2.2.2.1, d.2.2.2.2.1.2);
  more = d.2.2.2.2.2;
}

back-word_stmt : (w : CWord) → Back MakesStmt (m.word_stmt_move w) (keyword w)
back-word_stmt word.Goto = λ ts rest d. λ b lb z h. (jump d.1.0 b, (d.1.1, lb), refl, cc (d.1.2, d.2.1, d.2.2, h))
back-word_stmt word.If = λ ts rest d. λ b lb z h.
    let x = tested (do_stmt AddArm ∷ stmt Else ∷ do_stmt MakeIf ∷ []) ts rest d in
    let y = x.more.1 in
    (branch x.test x.body y.0 y.1 b, (x.test_is, x.body_is, y.2, y.3, lb), refl, cc (x.cut, y.4, x.more.2, h))
back-word_stmt word.While = λ ts rest d. λ b lb z h.
    let x = tested (do_stmt MakeWhile ∷ []) ts rest d in
    (repeat x.test x.body b, (x.test_is, x.body_is, lb), refl, cc (x.cut, x.more, h))
back-word_stmt word.Switch = λ ts rest d. λ b lb z h.
    let x = tested (do_stmt MakeSwitch ∷ []) ts rest d in
    (select x.test x.body b, (x.test_is, x.body_is, lb), refl, cc (x.cut, x.more, h))
back-word_stmt word.Return = λ ts rest d. λ b lb z h. let w = d.1 b lb z (cc (d.2, h)) in (w.0, w.1, w.2, w.3)
back-word_stmt word.Case = λ ts rest d. λ b lb z h.
    let w = d.2.2.1 b lb z (cc (d.2.2.2, h)) in
    (case_label d.1.0 w.0, (d.1.1, w.2, w.1), refl, cc (d.1.2, d.2.1, w.3))
back-word_stmt word.Default = λ ts rest d. λ b lb z h.
    let w = d.2.1 b lb z (cc (d.2.2, h)) in
    (default_label w.0, (w.2, w.1), refl, cc (d.1, w.3))
back-word_stmt _ = tt

back-mark_stmt : (x : CMark) → Back MakesStmt (m.mark_stmt_move x) (marked x)
back-mark_stmt mark.OpenBrace = λ ts rest d. λ b lb z h. (nested d.1.0 b, (d.1.1, lb), refl, cc (d.1.2, d.2, h))
back-mark_stmt mark.Semicolon = λ ts rest d. λ b lb z h. (empty b, lb, refl, cc (d, h))
back-mark_stmt mark.OpenParen = λ ts rest d. λ b lb z h. let w = d.1 b lb z (cc (d.2, h)) in (w.0, w.1, w.2, w.3)
back-mark_stmt _ = tt

pub back-stmt : (t : CToken) → IsToken t → Back MakesStmt (m.stmt_move t) t
back-stmt (keyword w) l = back-word_stmt w
back-stmt (marked x) l = back-mark_stmt x
back-stmt (named n) l = λ ts rest d. λ b lb z h. d.1 n l b lb z (cc (d.2, h))
back-stmt _ l = tt

-- a statement, and the rest of its block
pub then-stmts : (front : List CToken) (mid rest : List CToken) → MakesStmt front mid → Words (stmt Stmts ∷ []) mid rest → StmtWord Stmts front rest
then-stmts front mid rest w d = let x = w d.1.0 d.1.1 (close_brace ∷ d.0) d.1.2 in (x.0, x.1, cc (x.3, d.2))

pub back-stmts : (t : CToken) → IsToken t → Back (StmtWord Stmts) (m.stmts_move t) t
back-stmts (marked mark.CloseBrace) l = λ ts rest d. (finish, tt, cc d)
back-stmts t l = back-followed MakesStmt (StmtWord Stmts) (m.stmt_move t) t (stmt Stmts ∷ []) (back-stmt t l)
    (λ ts mid rest w d. then-stmts (t ∷ ts) mid rest w d)

pub back-stmt_name : (t : CToken) → Back (StmtWord StmtName) (m.stmt_name_move t) t
back-stmt_name (marked mark.Colon) = λ ts rest d. λ n ln b lb z h.
    let w = d.1 b lb z (cc (d.2, h)) in
    (name_label n w.0, (ln, w.2, w.1), refl, cc w.3)
back-stmt_name (marked mark.OpenParen) = λ ts rest d. λ n ln b lb z h. (call None n d.1.0 b, (tt, ln, d.1.1, lb), refl, cc (d.1.2, d.2.1, d.2.2, h))
back-stmt_name (marked mark.Assign) = λ ts rest d. λ n ln b lb z h. d.1 (variable n) (refl, ln) b lb z (cc (d.2, h))
back-stmt_name (marked mark.Arrow) = λ ts rest d. λ n ln b lb z h.
    let w = d.2.1 (member (variable n) d.1.0) (refl, (refl, ln, d.1.1)) in
    let x = d.2.2.1 w.0 (w.2 refl, w.1.1) b lb z (cc (d.2.2.2, h)) in
    (x.0, x.1, x.2, cc (d.1.2, w.3, x.3))
back-stmt_name (marked mark.OpenBracket) = λ ts rest d. λ n ln b lb z h.
    let w = d.2.2.1 (element (variable n) d.1.0) (refl, (refl, ln, d.1.1)) in
    let x = d.2.2.2.1 w.0 (w.2 refl, w.1.1) b lb z (cc (d.2.2.2.2, h)) in
    (x.0, x.1, x.2, cc (d.1.2, d.2.1, w.3, x.3))
back-stmt_name _ = tt

pub back-stmt_paren : (t : CToken) → IsToken t → Back (StmtWord StmtParen) (m.stmt_paren_move t) t
back-stmt_paren (operator op.Mul) l = λ ts rest d. λ b lb z h.
    let w = d.2.2.1 (pointed d.1.0) (refl, d.1.1) in
    let x = d.2.2.2.1 w.0 (w.2 refl, w.1.1) b lb z (cc (d.2.2.2.2, h)) in
    (x.0, x.1, x.2, cc (d.1.2, d.2.1, w.3, x.3))
back-stmt_paren t l = back-followed (ExprWord Paren) (StmtWord StmtParen) (m.paren_move t) t (expr FirstTail ∷ stmt Becomes ∷ []) (back-paren t l)
    (λ ts mid rest w d. λ b lb z h.
    let v = d.1 w.0 w.1 in
    let x = d.2.1 v.0 v.1 b lb z (cc (d.2.2, h)) in
    (x.0, x.1, x.2, cc (w.2, v.2, x.3)))

pub back-becomes : (t : CToken) → Back (StmtWord Becomes) (m.becomes_move t) t
back-becomes (marked mark.Assign) = λ ts rest d. λ x lx b lb z h. d.1 x lx b lb z (cc (d.2, h))
back-becomes _ = tt

pub back-value : (t : CToken) → IsToken t → Back (StmtWord Value) (m.value_move t) t
back-value (named n) l = λ ts rest d. λ x lx b lb z h. d.1 x lx n l b lb z (cc (d.2, h))
back-value t l = back-followed (ExprWord Expr) (StmtWord Value) (m.expr_move t) t (token (Mark mark.Semicolon) ∷ do_stmt MakeAssign ∷ []) (back-expr t l)
    (λ ts mid rest w d. λ x lx b lb z h. (assign x w.0 b, (lx, w.1, lb), refl, cc (w.2, d.1, d.2, h)))

pub back-value_name : (t : CToken) → Back (StmtWord ValueName) (m.value_name_move t) t
back-value_name (marked mark.OpenParen) = λ ts rest d. λ x lx n ln b lb z h. (call (Some x) n d.1.0 b, (lx, ln, d.1.1, lb), refl, cc (d.1.2, d.2.1, d.2.2, h))
back-value_name (marked mark.Semicolon) = λ ts rest d. λ x lx n ln b lb z h. (assign x (variable n) b, (lx, ln, lb), refl, cc (d, h))
back-value_name (marked mark.Arrow) = λ ts rest d. λ x lx n ln b lb z h.
    let w = d.2.1 (member (variable n) d.1.0) (refl, (refl, ln, d.1.1)) in
    (assign x w.0 b, (lx, w.1.1, lb), refl, cc (d.1.2, w.3, d.2.2.1, d.2.2.2, h))
back-value_name (marked mark.OpenBracket) = λ ts rest d. λ x lx n ln b lb z h.
    let w = d.2.2.1 (element (variable n) d.1.0) (refl, (refl, ln, d.1.1)) in
    (assign x w.0 b, (lx, w.1.1, lb), refl, cc (d.1.2, d.2.1, w.3, d.2.2.2.1, d.2.2.2.2, h))
back-value_name _ = tt

pub back-returned : (t : CToken) → IsToken t → Back (StmtWord Returned) (m.returned_move t) t
back-returned (marked mark.Semicolon) l = λ ts rest d. λ b lb z h. (leave None b, (tt, lb), refl, cc (d, h))
back-returned t l = back-followed (ExprWord Expr) (StmtWord Returned) (m.expr_move t) t (token (Mark mark.Semicolon) ∷ do_stmt MakeReturnValue ∷ []) (back-expr t l)
    (λ ts mid rest w d. λ b lb z h. (leave (Some w.0) b, (w.1, lb), refl, cc (w.2, d.1, d.2, h)))

pub back-else_tail : (t : CToken) → Back (StmtWord ElseTail) (m.else_tail_move t) t
back-else_tail (keyword word.If) = λ ts rest d.
    let x = tested (do_stmt AddArm ∷ stmt Else ∷ []) ts rest d in
    let y = x.more.1 in
    (else_is.If, branch x.test x.body y.0 y.1 finish, refl, (x.test_is, x.body_is, y.2, y.3, tt), cc (x.cut, y.4, x.more.2))
back-else_tail (marked mark.OpenBrace) = λ ts rest d. (else_is.Block, d.1.0, tt, d.1.1, cc (d.1.2, d.2))
back-else_tail _ = tt
