-- The instructions of parts of expressions.
use Rattle.std.specs.Prelude.{◌≡◌, ℕ, suc, Bool, false, List, [], ◌∷◌, ◌++◌, length, Option, Some, None}
use Rattle.c_text.specs.declared.nodes.CArg.{CArg}
use Rattle.c_text.specs.declared.nodes.CArg.TheVariants as arg
use Rattle.c_text.specs.CTree.{ExprTree, number, variable, member, element, pointed, operation, unary, cast, choice, called, ParamTree}
use Rattle.c_text.specs.CNodes.{Nodes, expr_of}
use Rattle.c_meaning.specs.CTypes.{CScope, ExprType, type_of, member_held, element_held}
use Rattle.c_meaning.specs.CExprs.{field_number}
use Rattle.c_step_exprs.specs.declared.instrs.Instr.{Instr}
use Rattle.c_step_exprs.specs.declared.instrs.Instr.TheVariants as does
use Rattle.c_step_exprs.specs.declared.instrs.Join.TheVariants as join
use Rattle.c_step_exprs.specs.declared.instrs.Test.{Test}
use Rattle.c_step_exprs.specs.declared.instrs.Turn.TheVariants as turn
use Rattle.c_step_exprs.specs.Resolving.{value_code, field_code, held_code, as_type_code, arms_code}
use Rattle.c_form_exprs.specs.Spines.{fits_type}

-- `->field`, by the type of what stands before it; `[index]`, by both types.
abbrev pub member_code : CScope → (field : List ℕ) → Option ExprType → List Instr
member_code scope field type = field_code (field_number scope field type) ++ held_code (member_held scope field type)

abbrev pub element_code : CScope → ExprTree → Option ExprType → List Instr
element_code scope index type = value_code scope index ++ does.Join join.Element ∷ held_code (element_held type (type_of scope index))

-- What stands after the first part of `of->field` and of `of[index]`.
abbrev pub link_code : CScope → ExprTree → List Instr
link_code scope (member of field) = member_code scope field (type_of scope of)
link_code scope (element of index) = element_code scope index (type_of scope of)
link_code scope (number n) = []
link_code scope (variable name) = []
link_code scope (pointed of) = []
link_code scope (operation op first second others) = []
link_code scope (unary op of) = []
link_code scope (cast to of) = []
link_code scope (choice test met unmet) = []
link_code scope (called function given) = []

-- An argument.
abbrev pub arg_code : Nodes → CScope → CArg → List Instr
arg_code nodes scope (arg.Expr e) = value_code scope (expr_of nodes e.0)
arg_code nodes scope (arg.SizeOf n) = does.Stuck ∷ []

-- A second operand after a test that may pass over it.
abbrev pub tested_code : Test → List Instr → List Instr
tested_code test second = does.Test test (suc (length second)) ∷ (second ++ does.Turn turn.Truth ∷ [])

-- Both arms of `?:`, while their common type isn't known: three instructions are still to be told.
abbrev pub open_arms : (met unmet : List Instr) → List Instr
open_arms met unmet = does.Stuck ∷ (met ++ does.Stuck ∷ does.Stuck ∷ unmet)

-- The arms of `?:` stand after what was there, where they have a common type; else something does.
abbrev pub PutsArms : (old now met unmet : List Instr) → Option ExprType → Type 0
PutsArms old now met unmet None = (more : List Instr) × (now ≡ old ++ more)
PutsArms old now met unmet (Some t) = now ≡ old ++ arms_code (met ++ as_type_code t) (unmet ++ as_type_code t)

-- A value of a type may be passed to the first of these parameters.
abbrev pub fits_first : List ParamTree → Option ExprType → Bool
fits_first [] type = false
fits_first (p ∷ ps) type = fits_type p type
