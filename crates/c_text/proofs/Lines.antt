-- The text of an `if` by what stands after its block.
use Rattle.std.proofs.Common.{◌≡◌, ℕ, List, true, ◌++◌, IsTrue, refl, sym, ◌∙◌, ap, subst, append_assoc, codes}
use Rattle.c_text.specs.declared.ids.CExprId.{CExprId}
use Rattle.c_text.specs.declared.ids.CStmtId.{CStmtId}
use Rattle.c_text.specs.declared.kinds.Otherwise.{Otherwise}
use Rattle.c_text.specs.declared.kinds.Otherwise.TheVariants as else_is
use Rattle.c_text.specs.CTree.{Code, finish, nested, empty, assign, call, jump, branch, repeat, select, leave, case_label, default_label, name_label}
use Rattle.c_text.specs.CNodes.{Nodes, expr_of, code_of}
use Rattle.c_text.specs.CGrammar.{FitsElse}
use Rattle.c_text.specs.CLayout.{code_text, tested, braced, else_text}
use Rattle.c_text.specs.CLines.{IsIfAt, is_branch}

if_text : (nodes : Nodes) (s : ℕ) (parts : CExprId × CStmtId × Otherwise × CStmtId) (depth : ℕ) (k : Otherwise) → IsIfAt nodes s parts → parts.2 ≡ k → code_text (code_of nodes s) true depth ≡ tested (codes "if (") (expr_of nodes parts.0.0) (code_text (code_of nodes parts.1.0)) depth ++ else_text k (code_text (code_of nodes parts.3.0)) depth
if_text nodes s parts depth k h e =
    ap (λ (c : Code). code_text c true depth) h.is
    ∙ ap (λ (o : Otherwise). tested (codes "if (") (expr_of nodes parts.0.0) (code_text (code_of nodes parts.1.0)) depth ++ else_text o (code_text (code_of nodes parts.3.0)) depth) e

pub block_text : (nodes : Nodes) (s : ℕ) (parts : CExprId × CStmtId × Otherwise × CStmtId) (depth : ℕ) → IsIfAt nodes s parts → parts.2 ≡ else_is.Block → code_text (code_of nodes s) true depth ≡ tested (codes "if (") (expr_of nodes parts.0.0) (code_text (code_of nodes parts.1.0)) depth ++ (codes " else " ++ braced (code_text (code_of nodes parts.3.0)) depth)
block_text nodes s parts depth h e = if_text nodes s parts depth else_is.Block h e

pub chained_text : (nodes : Nodes) (s : ℕ) (parts : CExprId × CStmtId × Otherwise × CStmtId) (depth : ℕ) → IsIfAt nodes s parts → parts.2 ≡ else_is.If → code_text (code_of nodes s) true depth ≡ (tested (codes "if (") (expr_of nodes parts.0.0) (code_text (code_of nodes parts.1.0)) depth ++ codes " else ") ++ code_text (code_of nodes parts.3.0) true depth
chained_text nodes s parts depth h e =
    if_text nodes s parts depth else_is.If h e ∙ sym (append_assoc (tested (codes "if (") (expr_of nodes parts.0.0) (code_text (code_of nodes parts.1.0)) depth) (codes " else ") (code_text (code_of nodes parts.3.0) true depth))

fits_branch : (c : Code) → FitsElse else_is.If c → IsTrue (is_branch c)
fits_branch finish h = absurd h
fits_branch (nested inner rest) h = absurd h
fits_branch (empty rest) h = absurd h
fits_branch (assign target value rest) h = absurd h
fits_branch (call target function given rest) h = absurd h
fits_branch (jump label rest) h = absurd h
fits_branch (branch test body otherwise other rest) h = refl
fits_branch (repeat test body rest) h = absurd h
fits_branch (select on body rest) h = absurd h
fits_branch (leave value rest) h = absurd h
fits_branch (case_label n rest) h = absurd h
fits_branch (default_label rest) h = absurd h
fits_branch (name_label name rest) h = absurd h

pub chained_branch : (nodes : Nodes) (s : ℕ) (parts : CExprId × CStmtId × Otherwise × CStmtId) → IsIfAt nodes s parts → parts.2 ≡ else_is.If → IsTrue (is_branch (code_of nodes parts.3.0))
chained_branch nodes s parts h e = fits_branch (code_of nodes parts.3.0) (subst (λ (o : Otherwise). FitsElse o (code_of nodes parts.3.0)) e h.fits)

-- What ends a statement and its line is one piece.
pub line_end : (front last : List ℕ) → front ++ (last ++ codes "\n") ≡ (front ++ last) ++ codes "\n"
line_end front last = sym (append_assoc front last (codes "\n"))
