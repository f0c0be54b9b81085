-- The functions of the saturating operators. They stand in expressions, so that no operand is written twice.
use Rattle.std.specs.Prelude.{ℕ, ◌-◌, ◌^◌, Bool, true, false, if◌then◌else◌, nat_le, List, [], ◌∷◌, Some, codes}
use Rattle.c_text.specs.declared.kinds.COp.TheVariants.{Add, Sub, Lt, Gt}
use Rattle.c_text.specs.declared.kinds.Linkage.TheVariants.{StaticInline}
use Rattle.c_text.specs.CTree.{ExprTree, variable, choice, finish, leave, ParamTree, ItemTree, function_item}
use Rattle.wf_exprs.specs.Words.{num, uint_of, two}
use Rattle.wf_exprs.specs.Exprs.{saturating_name}

abbrev a_code : ExprTree
a_code = variable (codes "a")

abbrev b_code : ExprTree
b_code = variable (codes "b")

-- `a + b`, and whether it leaves the width: in `int` by its value, else by having come round.
abbrev sum : ExprTree
sum = two Add a_code b_code

abbrev too_much : (bits : ℕ) → ExprTree
too_much bits = if nat_le bits 16 then two Gt sum (num (2 ^ bits - 1)) else two Lt sum a_code

abbrev pub saturating_value : (is_sum : Bool) → (bits : ℕ) → ExprTree
saturating_value true bits = choice (too_much bits) (num (2 ^ bits - 1)) sum
saturating_value false bits = choice (two Lt a_code b_code) (num 0) (two Sub a_code b_code)

abbrev operand : (bits : ℕ) → List ℕ → ParamTree
operand bits name = record { kind = uint_of bits; name = name }

-- `static inline uintN_t sat_plus_uN(uintN_t a, uintN_t b) { return ..; }`
abbrev pub saturating : (is_sum : Bool) → (bits : ℕ) → ItemTree
saturating is_sum bits =
    function_item StaticInline (Some (uint_of bits)) (saturating_name is_sum bits) (operand bits (codes "a") ∷ operand bits (codes "b") ∷ []) [] (leave (Some (saturating_value is_sum bits)) finish)

abbrev pub all_saturating : List ItemTree
all_saturating =
    saturating true 8 ∷ saturating true 16 ∷ saturating true 32 ∷ saturating true 64 ∷ saturating false 8 ∷ saturating false 16 ∷ saturating false 32 ∷ saturating false 64 ∷ []
