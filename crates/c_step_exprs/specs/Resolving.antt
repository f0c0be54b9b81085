-- The instructions of an expression, once its names are resolved. An operand's instructions stand before those of
-- the operator.
use Rattle.std.specs.Prelude.{ℕ, suc, Bool, if◌then◌else◌, List, [], ◌∷◌, ◌++◌, length, position, Option, Some, None, bytes_eq}
use Rattle.c_text.specs.declared.kinds.COp.{COp}
use Rattle.c_text.specs.declared.kinds.CUnary.{CUnary}
use Rattle.c_text.specs.declared.kinds.CUnary.TheVariants.{Not, Complement, Address}
use Rattle.c_text.specs.CTree.{ExprTree, number, variable, member, element, pointed, operation, unary, cast, choice, called, Operands, no_operand, operand, Args, no_arg, expr_arg, sizeof_arg}
use Rattle.c_meaning.specs.CValues.{literal_number}
use Rattle.c_meaning.specs.CTypes.{Function, CScope, ExprType, numbers, points_to, zero_literal, Held, one, fixed, many, inner, character, characters, type_of, held_of, variable_held, member_held, element_held, pointed_held, choice_type}
use Rattle.c_meaning.specs.CExprs.{cell_type, field_number, is_object_pointer, Combination, conjunction, disjunction, addition, other, combination_of}
use Rattle.c_step_exprs.specs.declared.instrs.Instr.{Instr}
use Rattle.c_step_exprs.specs.declared.instrs.Instr.TheVariants as does
use Rattle.c_step_exprs.specs.declared.instrs.Put.TheVariants as put
use Rattle.c_step_exprs.specs.declared.instrs.Turn.TheVariants as turn
use Rattle.c_step_exprs.specs.declared.instrs.Join.TheVariants as join
use Rattle.c_step_exprs.specs.declared.instrs.Test.TheVariants as tests

-- A function's number is its place in the text; `functions` are in the reverse order of the text.
abbrev pub function_number : List Function → List ℕ → Option ℕ
function_number [] name = None
function_number (f ∷ fs) name = if bytes_eq f.name name then Some (length fs) else function_number fs name

-- The place of a name.
abbrev pub named_code : (name string : Option ℕ) → List Instr
named_code (Some k) string = does.Put (put.Local k) ∷ []
named_code None (Some k) = does.Put (put.Text k) ∷ []
named_code None None = does.Stuck ∷ []

-- The value of an lvalue whose place is on the stack.
abbrev pub held_code : Option Held → List Instr
held_code (Some (one t)) = does.Turn turn.Load ∷ []
held_code (Some (fixed t)) = does.Turn turn.Load ∷ []
held_code (Some character) = does.Turn turn.Load ∷ []
held_code (Some (many t)) = does.Turn turn.Place ∷ []
held_code (Some characters) = does.Turn turn.Place ∷ []
held_code held = does.Stuck ∷ []

-- The value of a name: that of a parameter or local, else of a string.
abbrev pub variable_code : Option Held → (name string : Option ℕ) → List Instr
variable_code (Some (one t)) (Some k) string = does.Put (put.Fetch k) ∷ []
variable_code held name string = named_code name string ++ held_code held

-- The field of the object that a pointer on the stack points to.
abbrev pub field_code : Option ℕ → List Instr
field_code (Some k) = does.Turn (turn.Field k) ∷ []
field_code None = does.Stuck ∷ []

-- `&` of an lvalue whose place is on the stack.
abbrev pub address_code : Option Held → List Instr
address_code (Some (one t)) = does.Turn turn.Cell ∷ []
address_code (Some character) = does.Turn turn.Cell ∷ []
address_code (Some (inner name)) = does.Turn turn.Inside ∷ []
address_code held = does.Stuck ∷ []

-- An operator and its second operand, where the first one's value is on the stack.
abbrev pub operator_code : Combination → (whole_object : Bool) → COp → (second : List Instr) → List Instr
operator_code conjunction o op second = does.Test tests.And (suc (length second)) ∷ (second ++ does.Turn turn.Truth ∷ [])
operator_code disjunction o op second = does.Test tests.Or (suc (length second)) ∷ (second ++ does.Turn turn.Truth ∷ [])
operator_code addition o op second = second ++ does.Join (join.Add o) ∷ []
operator_code other o op second = second ++ does.Join (join.Operate op) ∷ []

-- A value as one of the type of both arms of `?:`.
abbrev pub as_type_code : ExprType → List Instr
as_type_code (numbers c) = does.Turn (turn.AsNumber c) ∷ []
as_type_code (points_to t) = does.Turn turn.AsPointer ∷ []
as_type_code zero_literal = []

-- `test ? met : unmet`
abbrev pub arms_code : (met unmet : List Instr) → List Instr
arms_code met unmet = does.Test tests.Unless (suc (length met)) ∷ (met ++ does.Skip (length unmet) ∷ unmet)

abbrev pub choice_code : Option ExprType → (test met unmet : List Instr) → List Instr
choice_code None test met unmet = does.Stuck ∷ []
choice_code (Some t) test met unmet = test ++ arms_code (met ++ as_type_code t) (unmet ++ as_type_code t)

-- A call, where the arguments are on the stack.
abbrev pub call_code : Option ℕ → (count : ℕ) → List Instr
call_code (Some k) count = does.Call k count ∷ []
call_code None count = does.Stuck ∷ []

abbrev pub arg_count : Args → ℕ
arg_count no_arg = 0
arg_count (expr_arg e others) = suc (arg_count others)
arg_count (sizeof_arg name others) = suc (arg_count others)

abbrev pub unary_code : CUnary → (value place : List Instr) → Option Held → List Instr
unary_code Not value place held = value ++ does.Turn turn.Not ∷ []
unary_code Complement value place held = value ++ does.Turn turn.Complement ∷ []
unary_code Address value place held = place ++ address_code held

abbrev mutual
  -- The instructions of an expression, which put its value.
  pub value_code : CScope → ExprTree → List Instr
  value_code scope (number n) = does.Put (put.Number (literal_number n)) ∷ []
  value_code scope (variable name) = variable_code (variable_held scope name) (position (λ it. bytes_eq it.name name) scope.names) (position (λ it. bytes_eq it.name name) scope.texts)
  value_code scope (member of field) = value_code scope of ++ (field_code (field_number scope field (type_of scope of)) ++ held_code (member_held scope field (type_of scope of)))
  value_code scope (element of index) = value_code scope of ++ (value_code scope index ++ does.Join join.Element ∷ held_code (element_held (type_of scope of) (type_of scope index)))
  value_code scope (pointed of) = value_code scope of ++ does.Turn turn.Place ∷ held_code (pointed_held (type_of scope of))
  value_code scope (operation op first second others) =
      value_code scope first ++ (operator_code (combination_of op) (is_object_pointer (type_of scope first)) op (value_code scope second) ++ operands_code scope (combination_of op) (is_object_pointer (type_of scope first)) op others)
  value_code scope (unary op of) = unary_code op (value_code scope of) (place_code scope of) (held_of scope of)
  value_code scope (cast to of) = value_code scope of ++ does.Turn (turn.Cast (cell_type to)) ∷ []
  value_code scope (choice test met unmet) = choice_code (choice_type (type_of scope met) (type_of scope unmet)) (value_code scope test) (value_code scope met) (value_code scope unmet)
  value_code scope (called function given) = args_code scope given ++ call_code (function_number scope.functions function) (arg_count given)

  -- The instructions of an lvalue, which put its place.
  pub place_code : CScope → ExprTree → List Instr
  place_code scope (variable name) = named_code (position (λ it. bytes_eq it.name name) scope.names) (position (λ it. bytes_eq it.name name) scope.texts)
  place_code scope (member of field) = value_code scope of ++ field_code (field_number scope field (type_of scope of))
  place_code scope (element of index) = value_code scope of ++ (value_code scope index ++ does.Join join.Element ∷ [])
  place_code scope (pointed of) = value_code scope of ++ does.Turn turn.Place ∷ []
  place_code scope (number n) = does.Stuck ∷ []
  place_code scope (operation op first second others) = does.Stuck ∷ []
  place_code scope (unary op of) = does.Stuck ∷ []
  place_code scope (cast to of) = does.Stuck ∷ []
  place_code scope (choice test met unmet) = does.Stuck ∷ []
  place_code scope (called function given) = does.Stuck ∷ []

  -- The operators and operands that repeat.
  pub operands_code : CScope → Combination → (whole_object : Bool) → COp → Operands → List Instr
  operands_code scope c o op no_operand = []
  operands_code scope c o op (operand e others) = operator_code c o op (value_code scope e) ++ operands_code scope c o op others

  -- The arguments of a call, in order.
  pub args_code : CScope → Args → List Instr
  args_code scope no_arg = []
  args_code scope (expr_arg e others) = value_code scope e ++ args_code scope others
  args_code scope (sizeof_arg name others) = does.Stuck ∷ args_code scope others
