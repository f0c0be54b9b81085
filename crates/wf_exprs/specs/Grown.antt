-- How a unit grows while code is put into it: what stood in it stays, under its numbers.
use Rattle.std.specs.Prelude.{◌≡◌, ◌<◌, ℕ, List, length}
use Rattle.c_text.specs.CNodes.{Nodes, bytes_at, expr_of, code_of}
use Rattle.c_text.specs.CTree.{ExprTree, Code}

-- Names, expressions and statements were added, and no string and no item.
pub record Grows (old new : Nodes) : Type 0 where
  pub more_names : (n : ℕ) → n < length old.names → n < length new.names
  pub more_exprs : (e : ℕ) → e < length old.exprs → e < length new.exprs
  pub more_stmts : (s : ℕ) → s < length old.stmts → s < length new.stmts
  pub names : (n : ℕ) → n < length old.names → bytes_at new.names n ≡ bytes_at old.names n
  pub exprs : (e : ℕ) → e < length old.exprs → expr_of new e ≡ expr_of old e
  pub stmts : (s : ℕ) → s < length old.stmts → code_of new s ≡ code_of old s
  pub strings : new.strings ≡ old.strings
  pub items : new.items ≡ old.items

-- The unit has this expression under this number, and likewise a name and a code.
pub record HasExpr (nodes : Nodes) (e : ℕ) (tree : ExprTree) : Type 0 where
  pub there : e < length nodes.exprs
  pub is : expr_of nodes e ≡ tree

pub record HasNamed (nodes : Nodes) (n : ℕ) (name : List ℕ) : Type 0 where
  pub there : n < length nodes.names
  pub is : bytes_at nodes.names n ≡ name

pub record HasCode (nodes : Nodes) (s : ℕ) (code : Code) : Type 0 where
  pub there : s < length nodes.stmts
  pub is : code_of nodes s ≡ code
