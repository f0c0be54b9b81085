-- A text of instructions, and what stands in it.
use Rattle.std.specs.Prelude.{◌≡◌, ℕ, if◌then◌else◌, nat_eq, List, [], ◌∷◌, slice_get, slice_range, Option, Some, None}
use Rattle.c_meaning.specs.declared.values.Number.{Number}
use Rattle.c_meaning.specs.CValues.{converted}
use Rattle.c_meaning.specs.CTypes.{CScope}
use Rattle.c_text.specs.CTree.{ExprTree}
use Rattle.c_step_exprs.specs.declared.instrs.Instr.{Instr}
use Rattle.c_step_exprs.specs.Resolving.{value_code}
pub use Rattle.c_step_text.specs.declared.text.Span.{Span}
pub use Rattle.c_step_text.specs.declared.text.Arm.{Arm}
pub use Rattle.c_step_text.specs.declared.text.StmtInstr.{StmtInstr}
pub use Rattle.c_step_text.specs.declared.text.StmtInstr.TheVariants.{Assign, Call, Move, Zero, Goto, Test, Back, Switch, Return, Finish, Stuck}

pub record FlatText : Type 0 where
  pub statements : List StmtInstr
  pub exprs : List Instr
  pub arms : List Arm

abbrev pub flat_text : List StmtInstr → List Instr → List Arm → FlatText
flat_text statements exprs arms = record { statements = statements; exprs = exprs; arms = arms }

-- The instruction of a statement with this number.
abbrev pub Has : FlatText → (number : ℕ) → StmtInstr → Type 0
Has t n i = slice_get t.statements n ≡ Some i

-- The instructions of an expression.
abbrev pub code_in : FlatText → Span → List Instr
code_in t span = slice_range t.exprs span.from span.to

abbrev pub arms_in : FlatText → Span → List Arm
arms_in t span = slice_range t.arms span.from span.to

-- The target of the first case with a number, which is converted to the type of what is switched on.
abbrev pub arm_of : Number → List Arm → Option ℕ
arm_of n [] = None
arm_of n (a ∷ others) = if nat_eq n.bits (converted n.ty a.number).bits then Some a.target else arm_of n others

-- An instruction of the value of an expression stands there.
pub record HasOf (t : FlatText) (scope : CScope) (n : ℕ) (e : ExprTree) (instr : Span → StmtInstr) : Type 0 where
  pub span : Span
  pub code : code_in t span ≡ value_code scope e
  pub has : Has t n (instr span)
