-- What holds of every unit, and how a unit grows.
use Rattle.std.specs.Prelude.{◌≡◌, ◌<◌, ℕ, List, [], ◌∷◌, ◌++◌, ◌⊎◌, length, slice_get, Some, IsTrue}
pub use Rattle.interner.specs.Interning.{AreDistinct}
use Rattle.c_text.specs.declared.nodes.CExpr.{CExpr}
use Rattle.c_text.specs.declared.nodes.CStmt.{CStmt}
use Rattle.c_text.specs.declared.nodes.CItem.{CItem}
use Rattle.c_text.specs.CNodes.{Nodes, bytes_at, expr_of, made_expr, code_of, made_code}
use Rattle.c_text.specs.CFits.{FitsExpr, FitsStmt, FitsItem}
use Rattle.c_text.specs.CSpelling.{is_name, is_string}

-- Names and strings are spelt as such, and each node fits.
pub record IsSound (nodes : Nodes) : Type 0 where
  pub names : (n : ℕ) (name : List ℕ) → slice_get nodes.names n ≡ Some name → IsTrue (is_name name)
  pub strings : (s : ℕ) (bytes : List ℕ) → slice_get nodes.strings s ≡ Some bytes → IsTrue (is_string bytes)
  pub exprs : (e : ℕ) (x : CExpr) → slice_get nodes.exprs e ≡ Some x → FitsExpr nodes e x
  pub stmts : (s : ℕ) (x : CStmt) → slice_get nodes.stmts s ≡ Some x → FitsStmt nodes s x
  pub items : (i : ℕ) (x : CItem) → slice_get nodes.items i ≡ Some x → FitsItem nodes x

-- Nodes were added after those that there were.
pub record Extends (old new : Nodes) : Type 0 where
  pub more : Nodes
  pub names : new.names ≡ old.names ++ more.names
  pub strings : new.strings ≡ old.strings ++ more.strings
  pub exprs : new.exprs ≡ old.exprs ++ more.exprs
  pub stmts : new.stmts ≡ old.stmts ++ more.stmts
  pub items : new.items ≡ old.items ++ more.items

-- The name has this number now, whether it is new or not.
pub record AddsName (old new : Nodes) (name : List ℕ) (n : ℕ) : Type 0 where
  pub added : List (List ℕ)
  pub grown : new ≡ record old { names = old.names ++ added }
  pub known : n < length new.names
  pub spelt : bytes_at new.names n ≡ name

-- The expression has this number now, whether it is new or not.
pub record SharesExpr (old new : Nodes) (x : CExpr) (e : ℕ) : Type 0 where
  pub grown : (new ≡ old) ⊎ (new ≡ record old { exprs = old.exprs ++ x ∷ [] })
  pub there : e < length new.exprs
  pub is : expr_of new e ≡ made_expr old.names (expr_of old) x

-- Likewise a statement.
pub record SharesStmt (old new : Nodes) (x : CStmt) (s : ℕ) : Type 0 where
  pub grown : (new ≡ old) ⊎ (new ≡ record old { stmts = old.stmts ++ x ∷ [] })
  pub there : s < length new.stmts
  pub is : code_of new s ≡ made_code old.names (expr_of old) (code_of old) x
