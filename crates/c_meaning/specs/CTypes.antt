-- The names of a C text and the types of its expressions (ISO/IEC 9899:1999, 6.2.1, 6.5). An expression that the subset
-- doesn't allow has no type.
use Rattle.std.specs.Prelude.{ℕ, Bool, true, false, ◌&&◌, if◌then◌else◌, nat_eq, List, [], ◌∷◌, ◌++◌, map, find, Option, Some, None, is_some, option_map, option_and_then, bytes_eq, codes}
use Rattle.std.specs.List.{list_all}
use Rattle.wf_num.specs.declared.c_arithmetic.CTy.{CTy}
use Rattle.wf_num.specs.declared.c_arithmetic.CTy.TheVariants.{Int, U32, U64}
use Rattle.c_text.specs.declared.kinds.CNumber.{CNumber}
use Rattle.c_text.specs.declared.kinds.CNumber.TheVariants as literal
use Rattle.c_text.specs.declared.kinds.COp.{COp}
use Rattle.c_text.specs.declared.kinds.COp.TheVariants.{Add, Shl, Shr, Lt, Le, Gt, Ge, Eq, Ne, Both, Either}
use Rattle.c_text.specs.declared.kinds.CUint.{CUint}
use Rattle.c_text.specs.declared.kinds.CUint.TheVariants as width
use Rattle.c_text.specs.declared.kinds.CUnary.{CUnary}
use Rattle.c_text.specs.declared.kinds.CUnary.TheVariants.{Not, Complement, Address}
use Rattle.c_text.specs.declared.kinds.Linkage.{Linkage}
use Rattle.c_text.specs.declared.kinds.Linkage.TheVariants.{StaticInline}
use Rattle.c_text.specs.CTree.{TypeTree, uint, size, boolean, uint_pointer, struct_pointer, text, ExprTree, number, variable, member, element, pointed, operation, unary, cast, choice, called, Operands, no_operand, operand, Args, no_arg, expr_arg, sizeof_arg, Code, finish, leave, FieldKind, plain, inside, FieldTree, ParamTree, LocalTree, ItemTree, struct_item, text_item, function_item}
use Rattle.c_meaning.specs.CValues.{common}

-- What a text declares: its structs, its strings and its functions (6.7.2.1, 6.7.8p14, 6.9.1).
pub record StructDecl : Type 0 where
  pub fields : List FieldTree
  pub name : List ℕ

-- A string by its name (6.7.8p14).
pub record TextDecl : Type 0 where
  pub name : List ℕ
  pub bytes : List ℕ

-- A function (6.9.1).
pub record Function : Type 0 where
  pub linkage : Linkage
  pub result_type : Option TypeTree
  pub name : List ℕ
  pub params : List ParamTree
  pub locals : List LocalTree
  pub body : Code

-- The structs of a text (6.7.2.1).
abbrev pub structs_of : List ItemTree → List StructDecl
structs_of [] = []
structs_of (struct_item fields name ∷ items) = record { fields = fields; name = name } ∷ structs_of items
structs_of (item ∷ items) = structs_of items

-- The strings of a text (6.7.8p14).
abbrev pub texts_of : List ItemTree → List TextDecl
texts_of [] = []
texts_of (text_item name bytes ∷ items) = record { name = name; bytes = bytes } ∷ texts_of items
texts_of (item ∷ items) = texts_of items

-- The functions of a text (6.9.1).
abbrev pub functions_of : List ItemTree → List Function
functions_of [] = []
functions_of (function_item linkage result_type name params locals body ∷ items) =
    record { linkage = linkage; result_type = result_type; name = name; params = params; locals = locals; body = body } ∷ functions_of items
functions_of (item ∷ items) = functions_of items

-- The names that an expression of a function may use: `names` are the function's parameters and locals (6.2.1).
pub record CScope : Type 0 where
  pub structs : List StructDecl
  pub texts : List TextDecl
  pub functions : List Function
  pub names : List ParamTree

-- A local by its type and name (6.2.1).
abbrev pub local_name : LocalTree → ParamTree
local_name l = record { kind = l.kind; name = l.name }

-- The parameters and locals of a function (6.2.1p4).
abbrev pub names_of : Function → List ParamTree
names_of f = f.params ++ map local_name f.locals

-- The names that these items declare, with further ones (6.2.1).
abbrev pub scope_of : List ItemTree → List ParamTree → CScope
scope_of items names = record { structs = structs_of items; texts = texts_of items; functions = functions_of items; names = names }

-- The struct of this name (6.2.3).
abbrev pub struct_named : List StructDecl → List ℕ → Option StructDecl
struct_named structs name = find (λ it. bytes_eq it.name name) structs

-- The function of this name (6.2.3).
abbrev pub function_named : List Function → List ℕ → Option Function
function_named functions name = find (λ it. bytes_eq it.name name) functions

-- The field of this name (6.2.3).
abbrev pub field_named : List FieldTree → List ℕ → Option FieldTree
field_named fields name = find (λ it. bytes_eq it.name name) fields

-- What a pointer points to: cells of a type, an object of a struct, or a string's bytes (6.2.5p20).
pub data Target : Type 0 where
  cell : TypeTree → Target
  object : (struct_name : List ℕ) → Target
  byte : Target

-- The type of an expression's value: a number after its promotion, a pointer, or the literal 0, which is a number and
-- a null pointer (6.3.2.3p3).
pub data ExprType : Type 0 where
  numbers : CTy → ExprType
  points_to : Target → ExprType
  zero_literal : ExprType

-- What an lvalue stands for: a cell, a cell that is neither assigned nor stands under `&`, the cells of an array field, an
-- object inside, a byte of a string, or a string (6.3.2.1).
pub data Held : Type 0 where
  one : TypeTree → Held
  fixed : TypeTree → Held
  many : TypeTree → Held
  inner : (struct_name : List ℕ) → Held
  character : Held
  characters : Held

-- The type of a number after its promotion (6.3.1.1p2).
abbrev pub promoted : CUint → CTy
promoted width.U8 = Int
promoted width.U16 = Int
promoted width.U32 = U32
promoted width.U64 = U64

-- The type of a value that is held (6.3.1.1p2, 6.3.2.1p2).
abbrev pub value_type : TypeTree → ExprType
value_type (uint u) = numbers (promoted u)
value_type size = numbers U64
value_type boolean = numbers Int
value_type (uint_pointer u) = points_to (cell (uint u))
value_type (struct_pointer name) = points_to (object name)
value_type text = points_to byte

-- Types of numbers, flags among them (6.2.5p18).
abbrev pub is_numeric : TypeTree → Bool
is_numeric (uint u) = true
is_numeric size = true
is_numeric boolean = true
is_numeric t = false

-- An array stands for the pointer to its first element (6.3.2.1p3); no value has a struct's type.
abbrev pub held_type : Held → Option ExprType
held_type (one t) = Some (value_type t)
held_type (fixed t) = Some (value_type t)
held_type (many t) = Some (points_to (cell t))
held_type (inner name) = None
held_type character = Some (numbers Int)
held_type characters = Some (points_to byte)

-- What a pointer's target stands for (6.5.3.2p4).
abbrev pub target_held : Target → Option Held
target_held (cell t) = Some (one t)
target_held (object name) = None
target_held byte = Some character

-- The struct of an io buffer, and its field that points to the bytes: no text moves that pointer.
abbrev pub io_buffer : List ℕ
io_buffer = codes "wuffs_base__io_buffer"

-- The field of an io buffer that points to the bytes (6.5.2.3).
abbrev pub is_bytes_field : (struct_name field : List ℕ) → Bool
is_bytes_field name field = bytes_eq name io_buffer && bytes_eq field (codes "ptr")

-- What a cell is (6.3.2.1p1).
abbrev pub cell_held : (fixed_cell : Bool) → TypeTree → Held
cell_held true t = fixed t
cell_held false t = one t

-- What a field is (6.5.2.3, 6.3.2.1).
abbrev pub field_held : (struct_name : List ℕ) → FieldTree → Held
field_held name f = held_by f.kind f.count
  where
    held_by : FieldKind → Option CNumber → Held
    held_by (plain t) None = cell_held (is_bytes_field name f.name) t
    held_by (plain t) (Some n) = many t
    held_by (inside inner_name) count = inner inner_name

-- Types are alike where they are spelt alike (6.2.7).
abbrev pub same_uint : CUint → CUint → Bool
same_uint width.U8 width.U8 = true
same_uint width.U16 width.U16 = true
same_uint width.U32 width.U32 = true
same_uint width.U64 width.U64 = true
same_uint a b = false

-- The same of all types (6.2.7).
abbrev pub same_type : TypeTree → TypeTree → Bool
same_type (uint a) (uint b) = same_uint a b
same_type size size = true
same_type boolean boolean = true
same_type (uint_pointer a) (uint_pointer b) = same_uint a b
same_type (struct_pointer a) (struct_pointer b) = bytes_eq a b
same_type text text = true
same_type a b = false

-- The same of what pointers point to (6.7.5.1p2).
abbrev pub same_target : Target → Target → Bool
same_target (cell a) (cell b) = same_type a b
same_target (object a) (object b) = bytes_eq a b
same_target byte byte = true
same_target a b = false

-- The literal 0 is a number of type `int` (6.4.4.1p5).
abbrev pub as_number : ExprType → Option CTy
as_number (numbers c) = Some c
as_number (points_to t) = None
as_number zero_literal = Some Int

-- Operators, by the types of their operands (6.3.1.8).
abbrev pub arithmetic_type : Option CTy → Option CTy → Option ExprType
arithmetic_type (Some a) (Some b) = Some (numbers (common a b))
arithmetic_type a b = None

-- The type of a shift is that of its left operand (6.5.7p3).
abbrev pub left_type : Option CTy → Option CTy → Option ExprType
left_type (Some a) (Some b) = Some (numbers a)
left_type a b = None

-- The type of `+` (6.5.6).
abbrev pub sum_type : ExprType → ExprType → Option ExprType
sum_type (points_to t) b = option_map (λ _. points_to t) (as_number b)
sum_type a b = arithmetic_type (as_number a) (as_number b)

-- Two numbers, or two pointers of one type; where `zero` says so, also a pointer and the literal
-- 0 (6.5.8, 6.5.9, 6.5.15).
abbrev pub one_type : (zero : Bool) → ExprType → ExprType → Option ExprType
one_type z (points_to a) (points_to b) = if same_target a b then Some (points_to a) else None
one_type z (points_to a) zero_literal = if z then Some (points_to a) else None
one_type z zero_literal (points_to b) = if z then Some (points_to b) else None
one_type z a b = arithmetic_type (as_number a) (as_number b)

-- What tells whether something holds is an `int` (6.5.8p6, 6.5.9p3).
abbrev pub test_type : Option ExprType → Option ExprType
test_type t = option_map (λ _. numbers Int) t

-- The type that an operator gives (6.5.5 to 6.5.14).
abbrev pub operation_type : COp → ExprType → ExprType → Option ExprType
operation_type Add a b = sum_type a b
operation_type Shl a b = left_type (as_number a) (as_number b)
operation_type Shr a b = left_type (as_number a) (as_number b)
operation_type Lt a b = test_type (one_type false a b)
operation_type Le a b = test_type (one_type false a b)
operation_type Gt a b = test_type (one_type false a b)
operation_type Ge a b = test_type (one_type false a b)
operation_type Eq a b = test_type (one_type true a b)
operation_type Ne a b = test_type (one_type true a b)
operation_type Both a b = Some (numbers Int)
operation_type Either a b = Some (numbers Int)
operation_type op a b = arithmetic_type (as_number a) (as_number b)

-- The same of an operator that repeats, from the left (6.5p3).
abbrev pub operations_type : COp → Option ExprType → List (Option ExprType) → Option ExprType
operations_type op first [] = first
operations_type op first (next ∷ others) = operations_type op (option_and_then (λ a. option_and_then (operation_type op a) next) first) others

-- The pointer to what an lvalue stands for (6.5.3.2). There is none to an array.
abbrev pub address_type : Held → Option ExprType
address_type (one t) = Some (points_to (cell t))
address_type (fixed t) = None
address_type (many t) = None
address_type (inner name) = Some (points_to (object name))
address_type character = Some (points_to byte)
address_type characters = None

-- The type of `!`, `~` and `&` (6.5.3.2, 6.5.3.3).
abbrev pub unary_type : CUnary → Option ExprType → Option Held → Option ExprType
unary_type Not type held = test_type type
unary_type Complement type held = option_map numbers (option_and_then as_number type)
unary_type Address type held = option_and_then address_type held

-- A struct is declared before it is named (6.2.1p7).
abbrev pub is_known : List StructDecl → TypeTree → Bool
is_known structs (struct_pointer name) = is_some (struct_named structs name)
is_known structs t = true

-- A cast goes between number types, or from the literal 0 to a pointer type (6.5.4).
abbrev pub cast_from : List StructDecl → TypeTree → ExprType → Option ExprType
cast_from structs t zero_literal = if is_known structs t then Some (value_type t) else None
cast_from structs t (numbers c) = if is_numeric t then Some (value_type t) else None
cast_from structs t (points_to p) = None

-- The type of `c ? a : b` (6.5.15).
abbrev pub choice_type : Option ExprType → Option ExprType → Option ExprType
choice_type a b = option_and_then (λ left. option_and_then (one_type true left) b) a

-- What is assigned, passed, returned or initial: a number for a numeric target, else the target's pointer or the
-- literal 0 (6.5.16.1).
abbrev pub assignable : TypeTree → ExprType → Bool
assignable t zero_literal = true
assignable t (numbers c) = is_numeric t
assignable t (points_to p) = is_pointer_to p (value_type t)
  where
    is_pointer_to : Target → ExprType → Bool
    is_pointer_to p (points_to q) = same_target p q
    is_pointer_to p type = false

-- The arguments fit the parameters (6.5.2.2p2).
abbrev pub passable : List ParamTree → List (Option ExprType) → Bool
passable [] [] = true
passable (p ∷ ps) (Some t ∷ ts) = assignable p.kind t && passable ps ts
passable ps ts = false

-- A function that an expression may call: `static inline`, of numbers alone, and one `return` (6.7.4, 6.8.6.4).
abbrev pub returned : Code → Option ExprTree
returned (leave value finish) = value
returned code = None

-- There are no locals (6.9.1).
abbrev pub no_locals : List LocalTree → Bool
no_locals [] = true
no_locals (l ∷ ls) = false

-- The function is `static inline` (6.7.4).
abbrev pub is_inline : Linkage → Bool
is_inline StaticInline = true
is_inline linkage = false

-- The result is a number (6.9.1p3).
abbrev pub gives_number : Option TypeTree → Bool
gives_number None = false
gives_number (Some t) = is_numeric t

-- The function may stand in an expression (6.5.2.2).
abbrev pub is_expression : Function → Bool
is_expression f = is_inline f.linkage && (gives_number f.result_type && (list_all (λ p. is_numeric p.kind) f.params && (no_locals f.locals && is_some (returned f.body))))

-- The type of a call (6.5.2.2p5).
abbrev pub result_of : Function → Option ExprType
result_of f = option_map value_type f.result_type

-- The type of a call in an expression, with these arguments (6.5.2.2).
abbrev pub called_type : Option Function → List (Option ExprType) → Option ExprType
called_type None given = None
called_type (Some f) given = if is_expression f && passable f.params given then result_of f else None

-- What a name, a field, an element and what a pointer points to stand for (6.5.1p2).
abbrev pub variable_held : CScope → List ℕ → Option Held
variable_held scope name = found (find (λ it. bytes_eq it.name name) scope.names) (find (λ it. bytes_eq it.name name) scope.texts)
  where
    found : Option ParamTree → Option TextDecl → Option Held
    found (Some p) t = Some (one p.kind)
    found None (Some t) = Some characters
    found None None = None

-- The field of a struct (6.5.2.3).
abbrev pub field_of : CScope → (struct_name field : List ℕ) → Option FieldTree
field_of scope name field = option_and_then (λ it. field_named it.fields field) (struct_named scope.structs name)

-- What `p->field` stands for (6.5.2.3p4).
abbrev pub member_held : CScope → List ℕ → Option ExprType → Option Held
member_held scope field (Some (points_to (object name))) = option_map (field_held name) (field_of scope name field)
member_held scope field type = None

-- What `*p` stands for (6.5.3.2p4).
abbrev pub pointed_held : Option ExprType → Option Held
pointed_held (Some (points_to target)) = target_held target
pointed_held type = None

-- What `p[i]` stands for (6.5.2.1).
abbrev pub element_held : Option ExprType → Option ExprType → Option Held
element_held pointer index = option_and_then (λ _. pointed_held pointer) (option_and_then as_number index)

-- The type of a literal (6.4.4.1p5).
abbrev pub literal_type : CNumber → ExprType
literal_type (literal.Int n) = if nat_eq n 0 then zero_literal else numbers Int
literal_type (literal.Unsigned n) = numbers U32
literal_type (literal.Long n) = numbers U64

abbrev mutual
  -- The type of an expression (6.5).
  pub type_of : CScope → ExprTree → Option ExprType
  type_of scope (number n) = Some (literal_type n)
  type_of scope (variable name) = option_and_then held_type (variable_held scope name)
  type_of scope (member pointer field) = option_and_then held_type (member_held scope field (type_of scope pointer))
  type_of scope (element pointer index) = option_and_then held_type (element_held (type_of scope pointer) (type_of scope index))
  type_of scope (pointed pointer) = option_and_then held_type (pointed_held (type_of scope pointer))
  type_of scope (operation op first second others) = operations_type op (type_of scope first) (type_of scope second ∷ operand_types scope others)
  type_of scope (unary op of) = unary_type op (type_of scope of) (held_of scope of)
  type_of scope (cast to of) = option_and_then (cast_from scope.structs to) (type_of scope of)
  type_of scope (choice test met unmet) = option_and_then (λ _. choice_type (type_of scope met) (type_of scope unmet)) (type_of scope test)
  type_of scope (called function given) = called_type (function_named scope.functions function) (arg_types scope given)

  -- What an lvalue stands for (6.3.2.1p1).
  pub held_of : CScope → ExprTree → Option Held
  held_of scope (variable name) = variable_held scope name
  held_of scope (member pointer field) = member_held scope field (type_of scope pointer)
  held_of scope (element pointer index) = element_held (type_of scope pointer) (type_of scope index)
  held_of scope (pointed pointer) = pointed_held (type_of scope pointer)
  held_of scope (number n) = None
  held_of scope (operation op first second others) = None
  held_of scope (unary op of) = None
  held_of scope (cast to of) = None
  held_of scope (choice test met unmet) = None
  held_of scope (called function given) = None

  -- The types of further operands (6.5).
  pub operand_types : CScope → Operands → List (Option ExprType)
  operand_types scope no_operand = []
  operand_types scope (operand e others) = type_of scope e ∷ operand_types scope others

  -- `sizeof` is no argument of a function of the text (6.5.2.2p2).
  pub arg_types : CScope → Args → List (Option ExprType)
  arg_types scope no_arg = []
  arg_types scope (expr_arg e others) = type_of scope e ∷ arg_types scope others
  arg_types scope (sizeof_arg name others) = None ∷ arg_types scope others
