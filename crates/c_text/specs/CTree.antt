-- The C tree: expressions, blocks of statements, and items. Names and strings are their bytes. Each constructor
-- is one alternative of the C subset; a block's constructors hold the rest of their block, so that a meaning of
-- blocks is an ordinary recursion.
use Rattle.std.specs.Prelude.{ℕ, List, Option}
use Rattle.c_text.specs.declared.kinds.CNumber.{CNumber}
use Rattle.c_text.specs.declared.kinds.COp.{COp}
use Rattle.c_text.specs.declared.kinds.CUint.{CUint}
use Rattle.c_text.specs.declared.kinds.CUnary.{CUnary}
use Rattle.c_text.specs.declared.kinds.Linkage.{Linkage}
use Rattle.c_text.specs.declared.kinds.Otherwise.{Otherwise}

-- A type of a value: `uint8_t` to `uint64_t`, `size_t`, `_Bool`, a pointer to numbers, a pointer to a struct,
-- `const char*`.
pub data TypeTree : Type 0 where
  uint : CUint → TypeTree
  size : TypeTree
  boolean : TypeTree
  uint_pointer : CUint → TypeTree
  struct_pointer : (name : List ℕ) → TypeTree
  text : TypeTree

-- An operation has two operands, and others after them where its operator repeats.
mutual
  pub data ExprTree : Type 0 where
    number : CNumber → ExprTree
    variable : (name : List ℕ) → ExprTree
    member : (pointer : ExprTree) → (field : List ℕ) → ExprTree
    element : (pointer index : ExprTree) → ExprTree
    pointed : (pointer : ExprTree) → ExprTree
    operation : COp → (first second : ExprTree) → (others : Operands) → ExprTree
    unary : CUnary → (operand : ExprTree) → ExprTree
    cast : TypeTree → (operand : ExprTree) → ExprTree
    choice : (test met unmet : ExprTree) → ExprTree
    called : (function : List ℕ) → (given : Args) → ExprTree

  pub data Operands : Type 0 where
    no_operand : Operands
    operand : ExprTree → (others : Operands) → Operands

  -- `sizeof_arg` is `sizeof(*name)`.
  pub data Args : Type 0 where
    no_arg : Args
    expr_arg : ExprTree → (others : Args) → Args
    sizeof_arg : (name : List ℕ) → (others : Args) → Args

-- A block: a statement and the ones that follow it, or the end. What a label labels is the first statement of
-- its rest. `other` holds the statements of an `else`: none without one, those of its block, or the one `if` of
-- an `else if`.
pub data Code : Type 0 where
  finish : Code
  nested : (inner rest : Code) → Code
  empty : (rest : Code) → Code
  assign : (target value : ExprTree) → (rest : Code) → Code
  call : (target : Option ExprTree) → (function : List ℕ) → (given : Args) → (rest : Code) → Code
  jump : (label : List ℕ) → (rest : Code) → Code
  branch : (test : ExprTree) → (body : Code) → (otherwise : Otherwise) → (other rest : Code) → Code
  repeat : (test : ExprTree) → (body rest : Code) → Code
  select : (on : ExprTree) → (body rest : Code) → Code
  leave : (value : Option ExprTree) → (rest : Code) → Code
  case_label : CNumber → (rest : Code) → Code
  default_label : (rest : Code) → Code
  name_label : (name : List ℕ) → (rest : Code) → Code

-- A field holds a value, or values where it has a count, or an object of a struct.
pub data FieldKind : Type 0 where
  plain : TypeTree → FieldKind
  inside : (struct_name : List ℕ) → FieldKind

pub record FieldTree : Type 0 where
  pub kind : FieldKind
  pub name : List ℕ
  pub count : Option CNumber

pub record ParamTree : Type 0 where
  pub kind : TypeTree
  pub name : List ℕ

pub record LocalTree : Type 0 where
  pub kind : TypeTree
  pub name : List ℕ
  pub initial : Option ExprTree

-- A typedef of a struct, a string object, or a function; a function without a result type is `void`.
pub data ItemTree : Type 0 where
  struct_item : (fields : List FieldTree) → (name : List ℕ) → ItemTree
  text_item : (name bytes : List ℕ) → ItemTree
  function_item : Linkage → (result_type : Option TypeTree) → (name : List ℕ) → (params : List ParamTree) → (locals : List LocalTree) → (body : Code) → ItemTree
