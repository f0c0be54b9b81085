-- The value of an expression, and the place of an lvalue (ISO/IEC 9899:1999, 6.5). Where the behavior is undefined there
-- is none. An expression changes nothing.
use Rattle.std.specs.Prelude.{ℕ, Bool, true, false, if◌then◌else◌, nat_eq, List, [], ◌∷◌, position, Option, Some, None, option_map, option_and_then, bytes_eq, ℤ}
use Rattle.c_text.specs.declared.kinds.COp.{COp}
use Rattle.c_text.specs.declared.kinds.COp.TheVariants.{Add, Both, Either}
use Rattle.c_text.specs.declared.kinds.CUint.TheVariants as width
use Rattle.c_text.specs.declared.kinds.CUnary.TheVariants.{Not, Complement, Address}
use Rattle.c_text.specs.CTree.{TypeTree, uint, size, boolean, uint_pointer, struct_pointer, text, ExprTree, number, variable, member, element, pointed, operation, unary, cast, choice, called, Operands, no_operand, operand, Args, no_arg, expr_arg, sizeof_arg}
use Rattle.c_meaning.specs.CValues.{whole, Pointer, to_object, CValue, numeric, address, null_pointer, literal_number, converted, truth, holds, operated, complemented, negated, compared_places}
use Rattle.c_meaning.specs.CMemory.{CellType, u8, u16, u32, u64, flag, pointer, Memory, cell_of, value_of, cell_at, part_at, loaded, offset, offset_object}
use Rattle.c_meaning.specs.CTypes.{struct_named, CScope, object, ExprType, numbers, points_to, Held, one, fixed, many, inner, character, characters, type_of, held_of, variable_held, member_held, element_held, pointed_held, choice_type}

-- What an expression's value depends on: the names of the function that is run, the object that holds its parameters and
-- locals, one field each, memory, and the values of calls of the functions that an expression may call (6.2.1, 6.2.4).
pub record Surroundings : Type 0 where
  pub scope : CScope
  pub frame : ℕ
  pub memory : Memory
  pub called : List ℕ → List CValue → Option CValue

-- The cells of a type (6.2.5).
abbrev pub cell_type : TypeTree → CellType
cell_type (uint width.U8) = u8
cell_type (uint width.U16) = u16
cell_type (uint width.U32) = u32
cell_type (uint width.U64) = u64
cell_type size = u64
cell_type boolean = flag
cell_type (uint_pointer u) = pointer
cell_type (struct_pointer name) = pointer
cell_type text = pointer

-- A value converted to a type, as if by assignment, and promoted again (6.5.4, 6.5.16.1p2).
abbrev pub as_type : TypeTree → CValue → Option CValue
as_type t v = option_and_then (value_of (cell_type t)) (cell_of (cell_type t) v)

-- The places of the forms of lvalues. A parameter or local is a field of the frame, a string the first byte of its
-- object: the strings are the first objects, in order. `->` and `*` ask for a pointer that isn't null, `->` for one to
-- an object (6.5.1, 6.5.2.3, 6.5.3.2).
abbrev pub named_place : (frame : ℕ) → (name string : Option ℕ) → Option Pointer
named_place frame (Some k) string = Some (record { object = frame; field = k; index = 0 })
named_place frame None (Some k) = Some (to_object k)
named_place frame None None = None

-- The place of a name (6.5.1p2).
abbrev pub variable_place : Surroundings → List ℕ → Option Pointer
variable_place s name = named_place s.frame (position (λ it. bytes_eq it.name name) s.scope.names) (position (λ it. bytes_eq it.name name) s.scope.texts)

-- The place of a field of an object (6.5.2.3p4).
abbrev pub field_place : Option ℕ → Pointer → Option Pointer
field_place field p = if nat_eq p.index 0 then option_map (λ k. record p { field = k }) field else None

-- The number of a struct's field (6.5.2.3).
abbrev pub field_number : CScope → List ℕ → Option ExprType → Option ℕ
field_number scope field (Some (points_to (object name))) = option_and_then (λ it. position (λ f. bytes_eq f.name field) it.fields) (struct_named scope.structs name)
field_number scope field type = None

-- What a pointer points to (6.5.3.2p4).
abbrev pub pointed_place : Option CValue → Option Pointer
pointed_place (Some (address p)) = Some p
pointed_place v = None

-- The place of `p->field` (6.5.2.3p4).
abbrev pub member_place : CScope → List ℕ → Option ExprType → Option CValue → Option Pointer
member_place scope field type v = option_and_then (field_place (field_number scope field type)) (pointed_place v)

-- The place of `p[i]` (6.5.2.1p2).
abbrev pub element_place : Memory → Option CValue → Option CValue → Option Pointer
element_place memory (Some (address p)) (Some (numeric n)) = offset memory p (whole n)
element_place memory v index = None

-- The value of an lvalue: that of its cell, or the pointer to the first element of an array (6.3.2.1p2, 6.3.2.1p3).
abbrev pub held_value : Memory → Option Held → Option Pointer → Option CValue
held_value memory (Some (one t)) (Some p) = loaded memory p
held_value memory (Some (fixed t)) (Some p) = loaded memory p
held_value memory (Some character) (Some p) = loaded memory p
held_value memory (Some (many t)) (Some p) = Some (address p)
held_value memory (Some characters) (Some p) = Some (address p)
held_value memory held p = None

-- `&` of an lvalue: its place, which has to be there, or the object inside (6.5.3.2p3).
abbrev pub address_of : Memory → Option Held → Option Pointer → Option CValue
address_of memory (Some (one t)) (Some p) = option_map (λ _. address p) (cell_at memory p)
address_of memory (Some character) (Some p) = option_map (λ _. address p) (cell_at memory p)
address_of memory (Some (inner name)) (Some p) = option_map (λ k. address (to_object k)) (part_at memory p.object p.field)
address_of memory held p = None

-- `&&` and `||` don't look at the second operand where the first one decides (6.5.13p4, 6.5.14p4).
abbrev pub truth_value : Option Bool → Option CValue
truth_value b = option_map (λ t. numeric (truth t)) b

-- `&&` (6.5.13).
abbrev pub and_also : Bool → Option CValue → Option Bool
and_also true second = option_map holds second
and_also false second = Some false

-- `||` (6.5.14).
abbrev pub or_else : Bool → Option CValue → Option Bool
or_else true second = Some true
or_else false second = option_map holds second

-- An operator with two values. `whole_object` tells that a pointer is one to an object of a struct (6.5.6p7, 6.5.6p8).
abbrev pub moved_pointer : Memory → (whole_object : Bool) → Pointer → ℤ → Option Pointer
moved_pointer memory true p z = offset_object p z
moved_pointer memory false p z = offset memory p z

-- `+` takes numbers, or a pointer and a number; every other operator that pointers may stand with compares
-- them (6.5.6).
abbrev pub sum_value : Memory → (whole_object : Bool) → CValue → CValue → Option CValue
sum_value memory o (numeric a) (numeric b) = option_map numeric (operated Add a b)
sum_value memory o (address p) (numeric b) = option_map address (moved_pointer memory o p (whole b))
sum_value memory o a b = None

-- Every operator but `+`, `&&` and `||` (6.5.5 to 6.5.12).
abbrev pub other_value : COp → CValue → CValue → Option CValue
other_value op (numeric a) (numeric b) = option_map numeric (operated op a b)
other_value op a b = option_map numeric (compared_places op a b)

-- The kinds of operators by what their operands are (6.5.5 to 6.5.14).
pub data Combination : Type 0 where
  conjunction : Combination
  disjunction : Combination
  addition : Combination
  other : Combination

-- The kind of an operator (6.5.5 to 6.5.14).
abbrev pub combination_of : COp → Combination
combination_of Both = conjunction
combination_of Either = disjunction
combination_of Add = addition
combination_of op = other

-- What an operator gives, by its kind (6.5.5 to 6.5.14).
abbrev pub combined_by : Combination → Memory → (whole_object : Bool) → COp → Option CValue → Option CValue → Option CValue
combined_by conjunction memory o op (Some a) second = truth_value (and_also (holds a) second)
combined_by disjunction memory o op (Some a) second = truth_value (or_else (holds a) second)
combined_by addition memory o op (Some a) (Some b) = sum_value memory o a b
combined_by other memory o op (Some a) (Some b) = other_value op a b
combined_by by memory o op first second = None

-- What an operator gives (6.5.5 to 6.5.14).
abbrev pub combined : Memory → (whole_object : Bool) → COp → Option CValue → Option CValue → Option CValue
combined memory o op first second = combined_by (combination_of op) memory o op first second

-- From the left: an operator that repeats takes what it gave for the operands before it (6.5p3).
abbrev pub from_left : Memory → (whole_object : Bool) → COp → Option CValue → List (Option CValue) → Option CValue
from_left memory o op first [] = first
from_left memory o op first (next ∷ others) = from_left memory o op (combined memory o op first next) others

-- The type of a pointer to an object of a struct (6.5.6p7).
abbrev pub is_object_pointer : Option ExprType → Bool
is_object_pointer (Some (points_to (object name))) = true
is_object_pointer type = false

-- `~` (6.5.3.3p4).
abbrev pub complement_of : CValue → Option CValue
complement_of (numeric n) = Some (numeric (complemented n))
complement_of v = None

-- `c ? a : b` looks at one arm, and has the type of both (6.5.15).
abbrev pub chosen : Bool → Option CValue → Option CValue → Option CValue
chosen true met unmet = met
chosen false met unmet = unmet

-- A value as one of the type of both arms (6.5.15p5, 6.5.15p6).
abbrev pub as_expr_type : ExprType → CValue → CValue
as_expr_type (numbers c) (numeric n) = numeric (converted c n)
as_expr_type (points_to t) (numeric n) = null_pointer
as_expr_type type v = v

-- The value of the arm that was chosen (6.5.15).
abbrev pub choice_value : Option ExprType → Option CValue → Option CValue
choice_value type v = option_and_then (λ t. option_map (as_expr_type t) v) type

-- All values, where each is defined (6.5.2.2p4).
abbrev pub all_some : List (Option CValue) → Option (List CValue)
all_some [] = Some []
all_some (None ∷ others) = None
all_some (Some v ∷ others) = option_map (λ vs. v ∷ vs) (all_some others)

abbrev mutual
  -- The value of an expression (6.5).
  pub value : Surroundings → ExprTree → Option CValue
  value s (number n) = Some (numeric (literal_number n))
  value s (variable name) = held_value s.memory (variable_held s.scope name) (variable_place s name)
  value s (member of field) = held_value s.memory (member_held s.scope field (type_of s.scope of)) (member_place s.scope field (type_of s.scope of) (value s of))
  value s (element of index) = held_value s.memory (element_held (type_of s.scope of) (type_of s.scope index)) (element_place s.memory (value s of) (value s index))
  value s (pointed of) = held_value s.memory (pointed_held (type_of s.scope of)) (pointed_place (value s of))
  value s (operation op first second others) = from_left s.memory (is_object_pointer (type_of s.scope first)) op (value s first) (value s second ∷ operand_values s others)
  value s (unary Not of) = option_map (λ v. numeric (negated v)) (value s of)
  value s (unary Complement of) = option_and_then complement_of (value s of)
  value s (unary Address of) = address_of s.memory (held_of s.scope of) (place s of)
  value s (cast to of) = option_and_then (as_type to) (value s of)
  value s (choice test met unmet) = choice_value (choice_type (type_of s.scope met) (type_of s.scope unmet)) (option_and_then (λ t. chosen (holds t) (value s met) (value s unmet)) (value s test))
  value s (called function given) = option_and_then (s.called function) (all_some (arg_values s given))

  -- The place of an lvalue (6.3.2.1p1).
  pub place : Surroundings → ExprTree → Option Pointer
  place s (variable name) = variable_place s name
  place s (member of field) = member_place s.scope field (type_of s.scope of) (value s of)
  place s (element of index) = element_place s.memory (value s of) (value s index)
  place s (pointed of) = pointed_place (value s of)
  place s (number n) = None
  place s (operation op first second others) = None
  place s (unary op of) = None
  place s (cast to of) = None
  place s (choice test met unmet) = None
  place s (called function given) = None

  -- The values of further operands (6.5).
  pub operand_values : Surroundings → Operands → List (Option CValue)
  operand_values s no_operand = []
  operand_values s (operand e others) = value s e ∷ operand_values s others

  -- The values of arguments (6.5.2.2p4).
  pub arg_values : Surroundings → Args → List (Option CValue)
  arg_values s no_arg = []
  arg_values s (expr_arg e others) = value s e ∷ arg_values s others
  arg_values s (sizeof_arg name others) = None ∷ arg_values s others
