-- How a unit grows by items.
use Rattle.std.specs.Prelude.{◌≡◌, ◌<◌, ℕ, List, [], ◌∷◌, ◌++◌, Some, length, codes, ◌^◌, ◌-◌, if◌then◌else◌, nat_le}
use Rattle.c_text.specs.CNodes.{Nodes, bytes_at, expr_of, code_of, unit_tree}
use Rattle.c_text.specs.CTree.{ExprTree, variable, Code, ParamTree, ItemTree, function_item}
use Rattle.c_text.specs.declared.kinds.COp.TheVariants.{Add, Lt, Gt}
use Rattle.c_text.specs.declared.kinds.Linkage.TheVariants.{StaticInline}
use Rattle.wf_exprs.specs.Words.{num, two, uint_of}

-- Its text has these items after those that it had, and what stood in it stays, under its numbers.
pub record GrowsBy (added : List ItemTree) (old new : Nodes) : Type 0 where
  pub more_names : (n : ℕ) → n < length old.names → n < length new.names
  pub more_exprs : (e : ℕ) → e < length old.exprs → e < length new.exprs
  pub more_stmts : (s : ℕ) → s < length old.stmts → s < length new.stmts
  pub names : (n : ℕ) → n < length old.names → bytes_at new.names n ≡ bytes_at old.names n
  pub exprs : (e : ℕ) → e < length old.exprs → expr_of new e ≡ expr_of old e
  pub stmts : (s : ℕ) → s < length old.stmts → code_of new s ≡ code_of old s
  pub items : unit_tree new ≡ unit_tree old ++ added

-- Whether `a + b` leaves the width.
abbrev pub leaves_width : (bits : ℕ) → ExprTree
leaves_width bits = if nat_le bits 16 then two Gt (two Add (variable (codes "a")) (variable (codes "b"))) (num (2 ^ bits - 1)) else two Lt (two Add (variable (codes "a")) (variable (codes "b"))) (variable (codes "a"))

-- A helper by its parts, and the parameters of one.
abbrev pub helper_item : (bits : ℕ) → (name : List ℕ) → List ParamTree → Code → ItemTree
helper_item bits name params body = function_item StaticInline (Some (uint_of bits)) name params [] body

abbrev pub parameters_of : (bits : ℕ) → List ParamTree
parameters_of bits = record { kind = uint_of bits; name = codes "a" } ∷ record { kind = uint_of bits; name = codes "b" } ∷ []
