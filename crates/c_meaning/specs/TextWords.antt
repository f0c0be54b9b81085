-- Short words in which the example texts are written, each beside the C that it stands for.
use Prim.Native.String.{String}
use Rattle.std.specs.Prelude.{ℕ, List, [], ◌∷◌, Option, Some, None, codes}
use Rattle.c_text.specs.declared.kinds.CNumber.TheVariants.{Int}
use Rattle.c_text.specs.declared.kinds.COp.{COp}
use Rattle.c_text.specs.declared.kinds.CUint.TheVariants.{U8, U64}
use Rattle.c_text.specs.declared.kinds.Otherwise.TheVariants as else_is
use Rattle.c_text.specs.CTree.{TypeTree, uint, size, boolean, uint_pointer, struct_pointer, ExprTree, number, variable, member, operation, no_operand, Code, finish, branch, jump, name_label, plain, inside, FieldTree, ParamTree, LocalTree, ItemTree, struct_item, text_item}

-- `NAME`, a literal, `e->NAME`, `e[i]`, `(a op b)` and `(!e)`.
abbrev pub v : String → ExprTree
v name = variable (codes name)

abbrev pub n : ℕ → ExprTree
n k = number (Int k)

abbrev pub m : ExprTree → String → ExprTree
m of field = member of (codes field)

abbrev pub o : COp → ExprTree → ExprTree → ExprTree
o op a b = operation op a b no_operand

-- The statements of a block.
abbrev pub block : List (Code → Code) → Code
block [] = finish
block (statement ∷ statements) = statement (block statements)

-- `if (e) { .. }`, `if (e) { .. } else if ..`, `goto NAME;` and `NAME:`
abbrev pub when : ExprTree → List (Code → Code) → Code → Code
when test body = branch test (block body) else_is.Nothing finish

abbrev pub when_or : ExprTree → List (Code → Code) → (Code → Code) → Code → Code
when_or test body other = branch test (block body) else_is.If (block (other ∷ []))

abbrev pub goto : String → Code → Code
goto name = jump (codes name)

abbrev pub label : String → Code → Code
label name = name_label (codes name)

-- Declarations.
abbrev pub pointer_to : String → TypeTree
pointer_to name = struct_pointer (codes name)

abbrev pub field : TypeTree → String → FieldTree
field type name = record { kind = plain type; name = codes name; count = None }

abbrev pub array : TypeTree → String → ℕ → FieldTree
array type name count = record { kind = plain type; name = codes name; count = Some (Int count) }

abbrev pub inner : String → String → FieldTree
inner struct_name name = record { kind = inside (codes struct_name); name = codes name; count = None }

abbrev pub parameter : TypeTree → String → ParamTree
parameter type name = record { kind = type; name = codes name }

abbrev pub local : TypeTree → String → Option ExprTree → LocalTree
local type name initial = record { kind = type; name = codes name; initial = initial }

abbrev pub struct : String → List FieldTree → ItemTree
struct name fields = struct_item fields (codes name)

abbrev pub string : String → String → ItemTree
string name bytes = text_item (codes name) (codes bytes)

-- typedef struct { uint8_t* ptr; size_t len; size_t wi; size_t ri; uint64_t pos; _Bool closed; } wuffs_base__io_buffer;
abbrev pub io_buffer_item : ItemTree
io_buffer_item = struct "wuffs_base__io_buffer" (field (uint_pointer U8) "ptr" ∷ field size "len" ∷ field size "wi" ∷ field size "ri" ∷ field (uint U64) "pos" ∷ field boolean "closed" ∷ [])
