-- The functions of the saturating operators do as they say, and so a call of one stands for the operator.
use Rattle.std.specs.Prelude.{ℕ, ◌≡◌, ◌<◌, ◌+◌, ◌-◌, ◌^◌, min, Bool, if◌then◌else◌, Some, List, [], ◌∷◌, codes, pos, true}
use Rattle.wf_num.specs.declared.c_arithmetic.CTy.{CTy}
use Rattle.wf_num.specs.CArithmetic.{IsIn}
use Rattle.wf_ast.specs.WellTyped.{is_width}
use Rattle.c_text.specs.declared.kinds.Linkage.TheVariants.{StaticInline}
use Rattle.c_text.specs.CTree.{ExprTree, finish, leave}
use Rattle.c_meaning.specs.declared.values.CValue.{CValue}
use Rattle.c_meaning.specs.declared.values.CValue.TheVariants.{Numeric as numeric}
use Rattle.c_meaning.specs.CValues.{number}
use Rattle.c_meaning.specs.CMemory.{Memory}
use Rattle.c_meaning.specs.CTypes.{Function, functions_of, function_named}
use Rattle.c_meaning.specs.CExprs.{Surroundings}
use Rattle.c_meaning.specs.CCall.{Program, ExprMeaning, expression_meaning}
use Rattle.wf_exprs.specs.Words.{uint_of}
use Rattle.wf_exprs.specs.Exprs.{calculated, saturating_name, saturated}
use Rattle.wf_exprs.specs.Helpers.{saturating, saturating_value}
use Rattle.wf_exprs_laws.specs.ExprLaw.{GivesNumber, IsTheNumber}

-- The function that a saturating operator's item declares.
abbrev pub helper : (is_sum : Bool) → (bits : ℕ) → Function
helper is_sum bits = record {
  linkage = StaticInline;
  result_type = Some (uint_of bits);
  name = saturating_name is_sum bits;
  params = record { kind = uint_of bits; name = codes "a" } ∷ record { kind = uint_of bits; name = codes "b" } ∷ [];
  locals = [];
  body = leave (Some (saturating_value is_sum bits)) finish;
}

-- A sum stops at the greatest number of the width, and a difference at 0.
abbrev pub saturation : (is_sum : Bool) → (bits m n : ℕ) → ℕ
saturation is_sum bits m n = if is_sum then min (m + n) (2 ^ bits - 1) else m - n

pub record IsHelperLaw : Type 0 where
  pub declared : (is_sum : Bool) (bits : ℕ) → functions_of (saturating is_sum bits ∷ []) ≡ helper is_sum bits ∷ []
  pub gives : (p : Program) (is_sum : Bool) (bits : ℕ) (callee : List ℕ → ExprMeaning) (memory : Memory) (ty uy : CTy) (m n : ℕ) → is_width bits ≡ true
      → IsIn ty (pos m) → IsIn uy (pos n) → m < 2 ^ bits → n < 2 ^ bits
      → expression_meaning p (helper is_sum bits) callee memory (numeric (number ty m) ∷ numeric (number uy n) ∷ []) ≡ Some (numeric (number (calculated bits) (saturation is_sum bits m n)))
  pub in_expressions : (p : Program) (is_sum : Bool) (bits : ℕ) (callee : List ℕ → ExprMeaning) (x : Surroundings) → is_width bits ≡ true
      → function_named x.scope.functions (saturating_name is_sum bits) ≡ Some (helper is_sum bits)
      → ((given : List CValue) → x.called (saturating_name is_sum bits) given ≡ expression_meaning p (helper is_sum bits) callee x.memory given)
      → (e f : ExprTree) (ty uy : CTy) (m n : ℕ) → m < 2 ^ bits → n < 2 ^ bits → IsTheNumber x e ty m → IsTheNumber x f uy n
      → GivesNumber x (saturated is_sum bits e f) (calculated bits) (saturation is_sum bits m n)
