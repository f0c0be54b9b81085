-- The texts of one argument and of one statement.
use Rattle.std.specs.Prelude.{◌≡◌, ℕ, ◌<◌, Bool, true, false, List, ◌++◌, length, codes}
use Rattle.c_text.specs.declared.nodes.CArg.{CArg}
use Rattle.c_text.specs.declared.nodes.CArg.TheVariants as arg
use Rattle.c_text.specs.declared.ids.CExprId.{CExprId}
use Rattle.c_text.specs.declared.ids.CStmtId.{CStmtId}
use Rattle.c_text.specs.declared.kinds.Otherwise.{Otherwise}
use Rattle.c_text.specs.CGrammar.{FitsElse}
use Rattle.c_text.specs.CNodes.{Nodes, bytes_at, expr_of, code_of}
use Rattle.c_text.specs.CTree.{ExprTree, Code, finish, branch}
use Rattle.c_text.specs.CLayout.{expr_text, code_text, indented}

abbrev pub is_branch : Code → Bool
is_branch (branch test body otherwise other rest) = true
is_branch _ = false

abbrev pub is_finish : Code → Bool
is_finish finish = true
is_finish _ = false

-- A block is laid out as its first statement on a line of its own, and then its rest.
abbrev pub IsRest : Code → Code → Type 0
IsRest code rest = (depth : ℕ) → code_text code false depth ≡ (indented depth ++ code_text code true depth ++ codes "\n") ++ code_text rest false depth

abbrev pub arg_text : List (List ℕ) → (ℕ → ExprTree) → CArg → List ℕ
arg_text names look (arg.Expr e) = expr_text (look e.0)
arg_text names look (arg.SizeOf n) = codes "sizeof(*" ++ bytes_at names n.0 ++ codes ")"

-- An `if` stands at this number, with this condition, block, kind of `else` and what the `else` holds.
pub record IsIfAt (nodes : Nodes) (s : ℕ) (parts : CExprId × CStmtId × Otherwise × CStmtId) : Type 0 where
  pub rest : Code
  pub is : code_of nodes s ≡ branch (expr_of nodes parts.0.0) (code_of nodes parts.1.0) parts.2 (code_of nodes parts.3.0) rest
  pub test : parts.0.0 < length nodes.exprs
  pub body : parts.1.0 < s
  pub other : parts.3.0 < s
  pub fits : FitsElse parts.2 (code_of nodes parts.3.0)
