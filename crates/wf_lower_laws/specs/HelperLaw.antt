-- The functions of saturating operators that a text has.
use Rattle.std.specs.Prelude.{◌≡◌, ℕ, Bool, true, false, List, Some}
use Rattle.wf_ast.specs.TypedPackage.{PackageTree}
use Rattle.wf_ast.specs.WellTyped.{is_width}
use Rattle.c_meaning.specs.CMemory.{Memory}
use Rattle.c_meaning.specs.CExprs.{Surroundings}
use Rattle.c_meaning.specs.CStep.{Meaning, surroundings}
use Rattle.c_meaning.specs.CCall.{program_of, expression_call, running}
use Rattle.c_meaning.specs.CTypes.{Function, functions_of, function_named}
use Rattle.wf_exprs.specs.Exprs.{saturating_name}
use Rattle.wf_exprs_laws.specs.ExprLaw.{IsSum, IsDifference}
use Rattle.wf_exprs_laws.specs.HelperLaw.{helper}
use Rattle.wf_lower.specs.Unit.{all_functions, is_used, lowered_unit}
use Rattle.wf_lower_laws.specs.ItemLaw.{HasItemNames}

-- The operator stands for what it is in an expression.
abbrev pub Operates : (is_sum : Bool) → Surroundings → (bits : ℕ) → Type 0
Operates true x bits = IsSum x bits
Operates false x bits = IsDifference x bits

-- It is what is found under its name, in the text and in a program that runs the text.
pub record HasHelper (p : PackageTree) (is_sum : Bool) (bits : ℕ) : Type 0 where
  pub declared : function_named (functions_of (lowered_unit p)) (saturating_name is_sum bits) ≡ Some (helper is_sum bits)
  pub runs : function_named (program_of (lowered_unit p)).functions (saturating_name is_sum bits) ≡ Some (helper is_sum bits)
  -- and in a function of the text that stands after it, as `earlier` tells, a call of it in an expression is the operator
  pub operates : (f : Function) (earlier : List Function) (callee : List ℕ → Meaning) (frame : ℕ) (memory : Memory) → function_named earlier (saturating_name is_sum bits) ≡ Some (helper is_sum bits)
      → Operates is_sum (surroundings (running (program_of (lowered_unit p)) f (expression_call (program_of (lowered_unit p)) earlier) callee frame) memory) bits

-- So it is with each that a function of the text reads, where the names of items differ.
abbrev pub TextsHaveHelpers : Type 0
TextsHaveHelpers =
    (p : PackageTree) (is_sum : Bool) (bits : ℕ) → HasItemNames p → is_width bits ≡ true → is_used (all_functions p) (saturating_name is_sum bits) ≡ true → HasHelper p is_sum bits
