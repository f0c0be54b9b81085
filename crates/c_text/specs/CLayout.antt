-- The layout of a printed text: one statement a line, two spaces a level, one space between tokens where C style
-- has one.
use Rattle.std.specs.Prelude.{ℕ, ◌+◌, zero, suc, Bool, true, false, List, [], ◌∷◌, ◌++◌, Option, Some, None, codes}
use Rattle.c_text.specs.declared.kinds.COp.{COp}
use Rattle.c_text.specs.declared.kinds.CUint.{CUint}
use Rattle.c_text.specs.declared.kinds.CUint.TheVariants.{U8, U16, U32, U64}
use Rattle.c_text.specs.declared.kinds.CUnary.{CUnary}
use Rattle.c_text.specs.declared.kinds.CUnary.TheVariants as unary_op
use Rattle.c_text.specs.declared.kinds.CNumber.{CNumber}
use Rattle.c_text.specs.declared.kinds.Linkage.{Linkage}
use Rattle.c_text.specs.declared.kinds.Linkage.TheVariants.{External, Static, StaticInline}
use Rattle.c_text.specs.declared.kinds.Otherwise.{Otherwise}
use Rattle.c_text.specs.declared.kinds.Otherwise.TheVariants as else_is
use Rattle.c_text.specs.CSpelling.{op_bytes, literal_bytes, includes}
use Rattle.c_text.specs.CTree.{TypeTree, uint, size, boolean, uint_pointer, struct_pointer, text, ExprTree, number, variable, member, element, pointed, operation, unary, cast, choice, called, Operands, no_operand, operand, Args, no_arg, expr_arg, sizeof_arg, Code, finish, nested, empty, assign, call, jump, branch, repeat, select, leave, case_label, default_label, name_label, FieldKind, plain, inside, FieldTree, ParamTree, LocalTree, ItemTree, struct_item, text_item, function_item}

abbrev pub uint_bytes : CUint → List ℕ
uint_bytes U8 = codes "uint8_t"
uint_bytes U16 = codes "uint16_t"
uint_bytes U32 = codes "uint32_t"
uint_bytes U64 = codes "uint64_t"

abbrev pub type_text : TypeTree → List ℕ
type_text (uint u) = uint_bytes u
type_text size = codes "size_t"
type_text boolean = codes "_Bool"
type_text (uint_pointer u) = uint_bytes u ++ codes "*"
type_text (struct_pointer name) = name ++ codes "*"
type_text text = codes "const char*"

abbrev pub unary_bytes : CUnary → List ℕ
unary_bytes unary_op.Not = codes "(!"
unary_bytes unary_op.Complement = codes "(~"
unary_bytes unary_op.Address = codes "(&"

abbrev mutual
  pub expr_text : ExprTree → List ℕ
  expr_text (number n) = literal_bytes n
  expr_text (variable name) = name
  expr_text (member pointer field) = expr_text pointer ++ codes "->" ++ field
  expr_text (element pointer index) = expr_text pointer ++ codes "[" ++ expr_text index ++ codes "]"
  expr_text (pointed pointer) = codes "(*" ++ expr_text pointer ++ codes ")"
  expr_text (operation op first second others) = codes "(" ++ expr_text first ++ (codes " " ++ op_bytes op ++ codes " ") ++ expr_text second ++ operands_text others op ++ codes ")"
  expr_text (unary op of) = unary_bytes op ++ expr_text of ++ codes ")"
  expr_text (cast to of) = codes "((" ++ type_text to ++ codes ")" ++ expr_text of ++ codes ")"
  expr_text (choice test met unmet) = codes "(" ++ expr_text test ++ codes " ? " ++ expr_text met ++ codes " : " ++ expr_text unmet ++ codes ")"
  expr_text (called function given) = codes "(" ++ (function ++ codes "(" ++ args_text given ++ codes ")") ++ codes ")"

  pub operands_text : Operands → COp → List ℕ
  operands_text no_operand op = []
  operands_text (operand e others) op = (codes " " ++ op_bytes op ++ codes " ") ++ expr_text e ++ operands_text others op

  pub args_text : Args → List ℕ
  args_text no_arg = []
  args_text (expr_arg e others) = expr_text e ++ more_args_text others
  args_text (sizeof_arg name others) = (codes "sizeof(*" ++ name ++ codes ")") ++ more_args_text others

  pub more_args_text : Args → List ℕ
  more_args_text no_arg = []
  more_args_text (expr_arg e others) = codes ", " ++ expr_text e ++ more_args_text others
  more_args_text (sizeof_arg name others) = codes ", " ++ (codes "sizeof(*" ++ name ++ codes ")") ++ more_args_text others

abbrev pub indented : ℕ → List ℕ
indented zero = []
indented (suc depth) = indented depth ++ codes "  "

abbrev pub value_text : Option ExprTree → List ℕ
value_text None = []
value_text (Some e) = codes " " ++ expr_text e

abbrev pub target_text : Option ExprTree → List ℕ
target_text None = []
target_text (Some e) = expr_text e ++ codes " = "

-- The layout of a block so many levels deep; `alone` is its first statement without the front and the end of
-- its line.
abbrev pub Laid : Type 0
Laid = (alone : Bool) → (depth : ℕ) → List ℕ

abbrev pub braced : Laid → ℕ → List ℕ
braced inner depth = codes "{\n" ++ inner false (depth + 1) ++ indented depth ++ codes "}"

-- a word with an opening parenthesis, a condition, and a block
abbrev pub tested : List ℕ → ExprTree → Laid → ℕ → List ℕ
tested word test body depth = word ++ expr_text test ++ codes ") " ++ braced body depth

-- What stands after the closing brace of an `if`'s block; `other` lays out the statements of the `else`.
abbrev pub else_text : Otherwise → Laid → ℕ → List ℕ
else_text else_is.Nothing other depth = []
else_text else_is.Block other depth = codes " else " ++ braced other depth
else_text else_is.If other depth = codes " else " ++ other true depth

abbrev pub call_text : List ℕ → Args → List ℕ
call_text function given = function ++ codes "(" ++ args_text given ++ codes ")"

abbrev pub placed : Bool → ℕ → (line rest : List ℕ) → List ℕ
placed true depth line rest = line
placed false depth line rest = (indented depth ++ line ++ codes "\n") ++ rest

abbrev pub code_text : Code → Laid
code_text finish alone depth = []
code_text (nested inner rest) alone depth = placed alone depth (braced (code_text inner) depth) (code_text rest false depth)
code_text (empty rest) alone depth = placed alone depth (codes ";") (code_text rest false depth)
code_text (assign target value rest) alone depth = placed alone depth (expr_text target ++ codes " = " ++ expr_text value ++ codes ";") (code_text rest false depth)
code_text (call target function given rest) alone depth = placed alone depth (target_text target ++ call_text function given ++ codes ";") (code_text rest false depth)
code_text (jump label rest) alone depth = placed alone depth (codes "goto " ++ label ++ codes ";") (code_text rest false depth)
code_text (branch test body otherwise other rest) alone depth = placed alone depth (tested (codes "if (") test (code_text body) depth ++ else_text otherwise (code_text other) depth) (code_text rest false depth)
code_text (repeat test body rest) alone depth = placed alone depth (tested (codes "while (") test (code_text body) depth) (code_text rest false depth)
code_text (select on body rest) alone depth = placed alone depth (tested (codes "switch (") on (code_text body) depth) (code_text rest false depth)
code_text (leave value rest) alone depth = placed alone depth (codes "return" ++ value_text value ++ codes ";") (code_text rest false depth)
code_text (case_label n rest) alone depth = placed alone depth (codes "case " ++ literal_bytes n ++ codes ":") (code_text rest false depth)
code_text (default_label rest) alone depth = placed alone depth (codes "default:") (code_text rest false depth)
code_text (name_label name rest) alone depth = placed alone depth (name ++ codes ":") (code_text rest false depth)

abbrev pub field_kind_text : FieldKind → List ℕ
field_kind_text (plain t) = type_text t
field_kind_text (inside name) = name

abbrev pub count_text : Option CNumber → List ℕ
count_text None = []
count_text (Some n) = codes "[" ++ literal_bytes n ++ codes "]"

abbrev pub field_text : FieldTree → List ℕ
field_text f = codes "  " ++ field_kind_text f.kind ++ codes " " ++ f.name ++ count_text f.count ++ codes ";\n"

abbrev pub fields_text : List FieldTree → List ℕ
fields_text [] = []
fields_text (f ∷ fs) = field_text f ++ fields_text fs

abbrev pub param_text : ParamTree → List ℕ
param_text p = type_text p.kind ++ codes " " ++ p.name

abbrev pub more_params_text : List ParamTree → List ℕ
more_params_text [] = []
more_params_text (p ∷ ps) = codes ", " ++ param_text p ++ more_params_text ps

abbrev pub params_text : List ParamTree → List ℕ
params_text [] = codes "void"
params_text (p ∷ ps) = param_text p ++ more_params_text ps

abbrev pub initial_text : Option ExprTree → List ℕ
initial_text None = []
initial_text (Some e) = codes " = " ++ expr_text e

abbrev pub local_text : LocalTree → List ℕ
local_text l = codes "  " ++ type_text l.kind ++ codes " " ++ l.name ++ initial_text l.initial ++ codes ";\n"

abbrev pub locals_text : List LocalTree → List ℕ
locals_text [] = []
locals_text (l ∷ ls) = local_text l ++ locals_text ls

abbrev pub linkage_bytes : Linkage → List ℕ
linkage_bytes External = codes "\n"
linkage_bytes Static = codes "\nstatic "
linkage_bytes StaticInline = codes "\nstatic inline "

abbrev pub result_text : Option TypeTree → List ℕ
result_text None = codes "void"
result_text (Some t) = type_text t

-- An item stands after an empty line.
abbrev pub item_text : ItemTree → List ℕ
item_text (struct_item fields name) = codes "\ntypedef struct {\n" ++ fields_text fields ++ codes "} " ++ name ++ codes ";\n"
item_text (text_item name bytes) = codes "\nstatic const char " ++ name ++ codes "[] = \"" ++ bytes ++ codes "\";\n"
item_text (function_item linkage result_type name params locals body) = (linkage_bytes linkage ++ result_text result_type ++ codes " " ++ name ++ codes "(" ++ params_text params ++ codes ") {\n") ++ (locals_text locals ++ code_text body false 1 ++ codes "}\n")

abbrev pub items_text : List ItemTree → List ℕ
items_text [] = []
items_text (item ∷ items) = item_text item ++ items_text items

-- The text that is printed for a unit.
unfoldable pub text_of : List ItemTree → List ℕ
text_of items = includes ++ items_text items
