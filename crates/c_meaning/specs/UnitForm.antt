-- The unit form: which trees are a text for a package, item by item (ISO/IEC 9899:1999, 6.2.1, 6.5, 6.7, 6.8, 6.9). The
-- first item that breaks it can be told.
-- What names no section of C here is a rule of the profile: docs/SEMANTICS.md, "The unit form".
use Rattle.std.specs.Prelude.{◌≡◌, ℕ, ◌+◌, Bool, true, false, not, ◌&&◌, ◌||◌, if◌then◌else◌, nat_eq, nat_lt, nat_le, List, [], ◌∷◌, ◌++◌, map, length, find, Option, Some, None, is_some, is_none, option_map, option_and_then, bytes_eq, codes}
use Rattle.std.specs.List.{list_any, list_all}
use Rattle.wf_text.specs.Surface.{Surface, PublicStruct, PublicMethod, PublicArg, ArgKind, AnswerKind}
use Rattle.wf_text.specs.Surface as surface
use Rattle.c_text.specs.declared.kinds.CNumber.{CNumber}
use Rattle.c_text.specs.declared.kinds.CNumber.TheVariants as literal
use Rattle.c_text.specs.declared.kinds.CUint.{CUint}
use Rattle.c_text.specs.declared.kinds.CUint.TheVariants as width
use Rattle.c_text.specs.declared.kinds.Linkage.{Linkage}
use Rattle.c_text.specs.declared.kinds.Linkage.TheVariants.{External, Static}
use Rattle.c_text.specs.CTree.{TypeTree, uint, size, boolean, uint_pointer, struct_pointer, text, ExprTree, variable, number, Args, no_arg, expr_arg, sizeof_arg, Code, finish, nested, empty, assign, call, jump, branch, repeat, select, leave, case_label, default_label, name_label, FieldKind, plain, inside, FieldTree, ParamTree, LocalTree, ItemTree, struct_item, text_item, function_item}
use Rattle.c_meaning.specs.CTypes.{StructDecl, Function, CScope, structs_of, scope_of, struct_named, function_named, local_name, cell, byte, ExprType, points_to, Held, one, value_type, same_type, is_numeric, is_known, as_number, assignable, passable, type_of, held_of, arg_types, io_buffer}
use Rattle.c_meaning.specs.CStep.{Continuation, stop, behind, again, Place, at, place_weight, by_name, find as find_label, Callee, memory_move, memory_set, own, callee_of}
use Rattle.c_meaning.specs.CRun.{struct_name, function_name, initialize_name}

-- The name is one of these (6.2.1).
abbrev pub is_among : List (List ℕ) → List ℕ → Bool
is_among names name = list_any (bytes_eq name) names

-- Names that are all different (6.7p3).
abbrev pub all_distinct : List (List ℕ) → Bool
all_distinct [] = true
all_distinct (name ∷ names) = not (is_among names name) && all_distinct names

-- The name that an item declares (6.2.1).
abbrev pub item_name : ItemTree → List ℕ
item_name (struct_item fields name) = name
item_name (text_item name bytes) = name
item_name (function_item linkage result_type name params locals body) = name

-- The library's functions are known, so nothing else has their names (7.1.3).
abbrev pub is_library : List ℕ → Bool
is_library name = bytes_eq name (codes "memmove") || bytes_eq name (codes "memset")

-- Fields. Those of a struct of the text hold numbers, strings' pointers, arrays of these, or objects of structs in
-- front (6.7.2.1).
abbrev pub is_value : TypeTree → Bool
is_value text = true
is_value t = is_numeric t

-- An array has at least one element (6.7.5.2p1).
abbrev pub is_length : Option CNumber → Bool
is_length None = true
is_length (Some (literal.Int n)) = nat_le 1 n
is_length (Some n) = false

-- A field whose type is known (6.7.2.1p2).
abbrev pub formed_field : List StructDecl → FieldTree → Bool
formed_field structs f = by_kind f.kind
  where
    by_kind : FieldKind → Bool
    by_kind (plain t) = is_value t && is_length f.count
    by_kind (inside name) = is_some (struct_named structs name) && is_none f.count

-- All fields, with different names (6.7.2.1, 6.2.3).
abbrev pub formed_fields : List StructDecl → List FieldTree → Bool
formed_fields structs fields = list_all (formed_field structs) fields && all_distinct (map (λ f. f.name) fields)

-- Item 0 is the struct of an io buffer.
abbrev pub is_field : TypeTree → List ℕ → FieldTree → Bool
is_field type name f = bytes_eq f.name name && (is_none f.count && by_kind f.kind)
  where
    by_kind : FieldKind → Bool
    by_kind (plain t) = same_type t type
    by_kind (inside struct_name) = false

abbrev pub are_fields : List (TypeTree × List ℕ) → List FieldTree → Bool
are_fields [] [] = true
are_fields (w ∷ ws) (f ∷ fs) = is_field w.0 w.1 f && are_fields ws fs
are_fields ws fs = false

abbrev pub io_buffer_fields : List (TypeTree × List ℕ)
io_buffer_fields = (uint_pointer width.U8, codes "ptr") ∷ (size, codes "len") ∷ (size, codes "wi") ∷ (size, codes "ri") ∷ (uint width.U64, codes "pos") ∷ (boolean, codes "closed") ∷ []

abbrev pub is_io_buffer : ItemTree → Bool
is_io_buffer (struct_item fields name) = bytes_eq name io_buffer && are_fields io_buffer_fields fields
is_io_buffer item = false

-- What the statements of a function are checked against (6.8, 6.9.1).
pub record Checked : Type 0 where
  pub scope : CScope
  pub linkage : Linkage
  pub result_type : Option TypeTree
  pub body : Code

-- The expression has a type (6.5).
abbrev pub has_type : Checked → ExprTree → Bool
has_type c e = is_some (type_of c.scope e)

-- The type is one of numbers (6.2.5p18).
abbrev pub is_number : Option ExprType → Bool
is_number t = is_some (option_and_then as_number t)

-- A value goes to an lvalue that is a cell of its own, and not to a byte of a string (6.5.16).
abbrev pub may_assign : Option Held → Option ExprType → Bool
may_assign (Some (one t)) (Some v) = assignable t v
may_assign held v = false

-- `memmove` takes two pointers that aren't to structs, the first not to a string's bytes, and a number; `memset` stands
-- only in `memset(p, 0, sizeof(*p))`.
abbrev pub is_moved : List (Option ExprType) → Bool
is_moved (Some (points_to (cell t)) ∷ Some (points_to (cell u)) ∷ count ∷ []) = is_number count
is_moved (Some (points_to (cell t)) ∷ Some (points_to byte) ∷ count ∷ []) = is_number count
is_moved given = false

abbrev pub is_object_pointer : Option ParamTree → Bool
is_object_pointer None = false
is_object_pointer (Some p) = by_type p.kind
  where
    by_type : TypeTree → Bool
    by_type (struct_pointer name) = true
    by_type t = false

abbrev pub is_set : CScope → Args → Bool
is_set scope (expr_arg (variable name) (expr_arg (number (literal.Int zero)) (sizeof_arg same no_arg))) =
    nat_eq zero 0 && (bytes_eq name same && is_object_pointer (find (λ it. bytes_eq it.name name) scope.names))
is_set scope given = false

-- The result of a call goes to this target (6.5.16).
abbrev pub may_keep : Checked → Option ExprTree → Option TypeTree → Bool
may_keep c None result_type = true
may_keep c (Some target) result_type = may_assign (held_of c.scope target) (option_map value_type result_type)

-- The function may be called with these arguments (6.5.2.2p2).
abbrev pub is_called : Checked → Option ExprTree → List (Option ExprType) → Option Function → Bool
is_called c target given None = false
is_called c target given (Some f) = passable f.params given && may_keep c target f.result_type

-- A call as a statement (6.5.2.2).
abbrev pub formed_call : Callee → Checked → Option ExprTree → List ℕ → Args → Bool
formed_call memory_move c target name given = is_none target && is_moved (arg_types c.scope given)
formed_call memory_set c target name given = is_none target && is_set c.scope given
formed_call own c target name given = is_called c target (arg_types c.scope given) (function_named c.scope.functions name)

-- Only `static` functions that aren't `inline` take turns, by `while` and by `goto` to a label before it.
abbrev pub may_loop : Linkage → Bool
may_loop Static = true
may_loop linkage = false

-- A `goto` goes to a label of its function (6.8.6.1p1).
abbrev pub formed_jump : Checked → Place → Option Place → Bool
formed_jump c from None = false
formed_jump c from (Some target) = may_loop c.linkage || nat_lt (place_weight target) (place_weight from)

-- After `return` stands an expression, but none in a `void` function (6.8.6.4p1).
abbrev pub formed_return : Checked → Option ExprTree → Option TypeTree → Bool
formed_return c None None = true
formed_return c (Some e) (Some t) = may_assign (Some (one t)) (type_of c.scope e)
formed_return c value result_type = false

-- The labels of a block and of all blocks in it; and the cases and the number of `default`s of a `switch`, those of a
-- `switch` inside it apart (6.8.1p3, 6.8.4.2p3).
abbrev pub labels_of : Code → List (List ℕ)
labels_of finish = []
labels_of (nested inner rest) = labels_of inner ++ labels_of rest
labels_of (empty rest) = labels_of rest
labels_of (assign target value rest) = labels_of rest
labels_of (call target function given rest) = labels_of rest
labels_of (jump label rest) = labels_of rest
labels_of (branch test body otherwise other rest) = labels_of body ++ (labels_of other ++ labels_of rest)
labels_of (repeat test body rest) = labels_of body ++ labels_of rest
labels_of (select on body rest) = labels_of body ++ labels_of rest
labels_of (leave value rest) = labels_of rest
labels_of (case_label n rest) = labels_of rest
labels_of (default_label rest) = labels_of rest
labels_of (name_label name rest) = name ∷ labels_of rest

-- The cases and the number of `default`s of a `switch` (6.8.4.2p3).
pub record Cases : Type 0 where
  pub numbers : List CNumber
  pub defaults : ℕ

-- No cases (6.8.4.2p3).
abbrev pub no_cases : Cases
no_cases = record { numbers = []; defaults = 0 }

-- The cases of two parts (6.8.4.2p3).
abbrev pub both_cases : Cases → Cases → Cases
both_cases a b = record { numbers = a.numbers ++ b.numbers; defaults = a.defaults + b.defaults }

-- The cases of a block (6.8.4.2p3).
abbrev pub cases_of : Code → Cases
cases_of finish = no_cases
cases_of (nested inner rest) = both_cases (cases_of inner) (cases_of rest)
cases_of (empty rest) = cases_of rest
cases_of (assign target value rest) = cases_of rest
cases_of (call target function given rest) = cases_of rest
cases_of (jump label rest) = cases_of rest
cases_of (branch test body otherwise other rest) = both_cases (cases_of body) (both_cases (cases_of other) (cases_of rest))
cases_of (repeat test body rest) = both_cases (cases_of body) (cases_of rest)
cases_of (select on body rest) = cases_of rest
cases_of (leave value rest) = cases_of rest
cases_of (case_label n rest) = both_cases (record { numbers = n ∷ []; defaults = 0 }) (cases_of rest)
cases_of (default_label rest) = both_cases (record { numbers = []; defaults = 1 }) (cases_of rest)
cases_of (name_label name rest) = cases_of rest

-- Two cases that differ (6.8.4.2p3).
abbrev pub is_other_case : CNumber → CNumber → Bool
is_other_case (literal.Int n) (literal.Int other) = not (nat_eq n other)
is_other_case n other = false

-- A case of type `int` (6.8.4.2p3).
abbrev pub is_plain : CNumber → Bool
is_plain (literal.Int n) = true
is_plain n = false

-- All cases differ (6.8.4.2p3).
abbrev pub plain_distinct : List CNumber → Bool
plain_distinct [] = true
plain_distinct (n ∷ ns) = is_plain n && (list_all (is_other_case n) ns && plain_distinct ns)

-- The cases differ, and there is at most one `default` (6.8.4.2p3).
abbrev pub formed_cases : Cases → Bool
formed_cases cases = plain_distinct cases.numbers && nat_le cases.defaults 1

-- A block, with what follows it. `switched` tells that a `switch` stands round it (6.8).
abbrev pub formed_code : Checked → (switched : Bool) → Code → Continuation → Bool
formed_code c s finish k = true
formed_code c s (nested inner rest) k = formed_code c s inner (behind finish rest k) && formed_code c s rest k
formed_code c s (empty rest) k = formed_code c s rest k
formed_code c s (assign target value rest) k = may_assign (held_of c.scope target) (type_of c.scope value) && formed_code c s rest k
formed_code c s (call target function given rest) k = formed_call (callee_of function) c target function given && formed_code c s rest k
formed_code c s (jump label rest) k = formed_jump c (at (jump label rest) k) (find_label (by_name label) c.body stop) && formed_code c s rest k
formed_code c s (branch test body otherwise other rest) k =
    has_type c test && (formed_code c s body (behind other rest k) && (formed_code c s other (behind finish rest k) && formed_code c s rest k))
formed_code c s (repeat test body rest) k =
    may_loop c.linkage && (has_type c test && (formed_code c s body (again test body (behind finish rest k)) && formed_code c s rest k))
formed_code c s (select on body rest) k =
    is_number (type_of c.scope on) && (formed_cases (cases_of body) && (formed_code c true body (behind finish rest k) && formed_code c s rest k))
formed_code c s (leave value rest) k = formed_return c value c.result_type && formed_code c s rest k
formed_code c s (case_label n rest) k = s && formed_code c s rest k
formed_code c s (default_label rest) k = s && formed_code c s rest k
formed_code c s (name_label name rest) k = formed_code c s rest k

-- The initial value of a local knows the parameters and the locals before it (6.7.8p11).
abbrev pub formed_initial : CScope → TypeTree → Option ExprTree → Bool
formed_initial scope t None = true
formed_initial scope t (Some e) = may_assign (Some (one t)) (type_of scope e)

-- The locals in order (6.7, 6.7.8p11).
abbrev pub formed_locals : CScope → List LocalTree → Bool
formed_locals scope [] = true
formed_locals scope (l ∷ ls) =
    is_known scope.structs l.kind && (formed_initial scope l.kind l.initial && formed_locals (record scope { names = scope.names ++ local_name l ∷ [] }) ls)

-- The type of a result (6.9.1p3).
abbrev pub is_result : Option TypeTree → Bool
is_result None = true
is_result (Some t) = is_value t

-- A function, where `before` are the items before it and `all` the names of all items of the text.
abbrev pub checked : List ItemTree → Linkage → Option TypeTree → List ParamTree → Code → Checked
checked before linkage result_type names body = record { scope = scope_of before names; linkage = linkage; result_type = result_type; body = body }

-- The parameters and locals have different names, and none of an item (6.2.1, 6.7p3).
abbrev pub own_names : List ParamTree → List (List ℕ) → Bool
own_names names all = all_distinct (map (λ it. it.name) names) && list_all (λ it. not (is_among all it.name) && not (is_library it.name)) names

-- A function (6.9.1).
abbrev pub formed_function : List ItemTree → (all : List (List ℕ)) → Linkage → Option TypeTree → List ParamTree → List LocalTree → Code → Bool
formed_function before all linkage result_type params locals body =
    is_result result_type && (list_all (λ p. is_known (structs_of before) p.kind) params && (own_names (params ++ map local_name locals) all
    && (formed_locals (scope_of before params) locals && (all_distinct (labels_of body)
    && formed_code (checked before linkage result_type (params ++ map local_name locals) body) false body stop))))

-- What stands in an item (6.7, 6.9).
abbrev pub formed_content : List ItemTree → (all : List (List ℕ)) → ItemTree → Bool
formed_content before all (struct_item fields name) = formed_fields (structs_of before) fields
formed_content before all (text_item name bytes) = true
formed_content before all (function_item linkage result_type name params locals body) = formed_function before all linkage result_type params locals body

-- The public functions of a package: their names, parameters and results.
pub record Signature : Type 0 where
  pub name : List ℕ
  pub params : List ParamTree
  pub result_type : Option TypeTree

abbrev pub uint_of : (bits : ℕ) → CUint
uint_of bits = if nat_eq bits 8 then width.U8 else if nat_eq bits 16 then width.U16 else if nat_eq bits 32 then width.U32 else width.U64

abbrev pub param : TypeTree → List ℕ → ParamTree
param type name = record { kind = type; name = name }

abbrev pub arg_params : PublicArg → List ParamTree
arg_params arg = by_kind arg.kind
  where
    by_kind : ArgKind → List ParamTree
    by_kind (surface.number bits) = param (uint (uint_of bits)) (codes "a_" ++ arg.name) ∷ []
    by_kind surface.flag = param boolean (codes "a_" ++ arg.name) ∷ []
    by_kind surface.reader = param (struct_pointer io_buffer) (codes "a_" ++ arg.name) ∷ []
    by_kind surface.writer = param (struct_pointer io_buffer) (codes "a_" ++ arg.name) ∷ []
    by_kind (surface.slice bits) = param (uint_pointer (uint_of bits)) (codes "ap_" ++ arg.name) ∷ param size (codes "al_" ++ arg.name) ∷ []

abbrev pub args_params : List PublicArg → List ParamTree
args_params [] = []
args_params (arg ∷ args) = arg_params arg ++ args_params args

abbrev pub answer_type : AnswerKind → Option TypeTree
answer_type surface.status = Some text
answer_type (surface.numeric bits) = Some (uint (uint_of bits))
answer_type surface.truth = Some boolean
answer_type surface.nothing = None

abbrev pub self_param : Surface → PublicStruct → ParamTree
self_param p it = param (struct_pointer (struct_name p it)) (codes "self")

abbrev pub method_signature : Surface → PublicStruct → PublicMethod → Signature
method_signature p it method = record { name = function_name p it method.name; params = self_param p it ∷ args_params method.args; result_type = answer_type method.answers }

abbrev pub initialize_signature : Surface → PublicStruct → Signature
initialize_signature p it = record { name = initialize_name p it; params = self_param p it ∷ []; result_type = Some text }

abbrev pub struct_signatures : Surface → List PublicStruct → List Signature
struct_signatures p [] = []
struct_signatures p (it ∷ structs) = initialize_signature p it ∷ map (method_signature p it) it.methods ++ struct_signatures p structs

abbrev pub signatures : Surface → List Signature
signatures p = struct_signatures p p.structs

abbrev pub same_params : List ParamTree → List ParamTree → Bool
same_params [] [] = true
same_params (a ∷ as_) (b ∷ bs) = same_type a.kind b.kind && (bytes_eq a.name b.name && same_params as_ bs)
same_params as_ bs = false

abbrev pub same_result : Option TypeTree → Option TypeTree → Bool
same_result None None = true
same_result (Some a) (Some b) = same_type a b
same_result a b = false

abbrev pub is_external : Linkage → Bool
is_external External = true
is_external linkage = false

-- An item with the name of a public function is that function, and one with the name of a public struct's type is a
-- struct.
abbrev pub has_signature : Signature → ItemTree → Bool
has_signature s (function_item linkage result_type name params locals body) = is_external linkage && (same_params s.params params && same_result s.result_type result_type)
has_signature s item = false

abbrev pub is_struct : ItemTree → Bool
is_struct (struct_item fields name) = true
is_struct item = false

abbrev pub meets_signature : ItemTree → Signature → Bool
meets_signature item s = if bytes_eq s.name (item_name item) then has_signature s item else true

abbrev pub meets_struct : Surface → ItemTree → PublicStruct → Bool
meets_struct p item it = if bytes_eq (struct_name p it) (item_name item) then is_struct item else true

abbrev pub meets_surface : Surface → ItemTree → Bool
meets_surface p item = list_all (meets_signature item) (signatures p) && list_all (meets_struct p item) p.structs

-- An item, where `before` are the items before it and `all` the names of all items (6.9p5, 7.1.3).
abbrev pub free_name : List ItemTree → ItemTree → Bool
free_name before item = not (is_among (map item_name before) (item_name item)) && not (is_library (item_name item))

abbrev pub formed_item : Surface → List ItemTree → (all : List (List ℕ)) → ItemTree → Bool
formed_item p [] all item = is_io_buffer item && meets_surface p item
formed_item p (first ∷ others) all item = free_name (first ∷ others) item && (formed_content (first ∷ others) all item && meets_surface p item)

-- Each public function is there; a text has at least one item.
abbrev pub is_complete : Surface → List ItemTree → Bool
is_complete p [] = false
is_complete p (item ∷ items) = list_all (λ s. is_among (map item_name (item ∷ items)) s.name) (signatures p)

abbrev pub break_from : Surface → (before all : List ItemTree) → List ItemTree → Option ℕ
break_from p before all [] = if is_complete p all then None else Some (length before)
break_from p before all (item ∷ items) =
    if formed_item p before (map item_name all) item then break_from p (before ++ item ∷ []) all items else Some (length before)

-- The number of the first item that breaks the unit form; the number of items, where none does but a public function is
-- missing or there is no item; None where the text has the unit form for the package.
abbrev pub first_break : Surface → List ItemTree → Option ℕ
first_break p items = break_from p [] items items

abbrev pub HasUnitForm : Surface → List ItemTree → Type 0
HasUnitForm p items = first_break p items ≡ None
