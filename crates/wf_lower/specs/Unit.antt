-- The whole text of a package: the io buffer, the structs, each after those that its fields hold, the statuses and helpers that
-- are used, and the functions, each after those that it calls.
use Rattle.std.specs.Prelude.{ℕ, suc, Bool, false, if◌then◌else◌, nat_eq, List, [], ◌∷◌, ◌++◌, None, Some, slice_get, codes}
use Rattle.std.specs.List.{list_any}
use Rattle.wf_base.specs.BaseTable.{bits_of}
use Rattle.wf_ast.specs.declared.types.Ty.{Ty}
use Rattle.wf_ast.specs.declared.types.Ty.TheVariants as types
use Rattle.wf_ast.specs.TypedPackage.{Variable, MethodTree, PackageTree}
use Rattle.wf_ast.specs.WellTyped.{is_coroutine}
use Rattle.wf_meaning.specs.SourceState.{fields_of}
use Rattle.wf_meaning.specs.Entry.{bad_receiver}
use Rattle.c_text.specs.declared.kinds.CUint.TheVariants.{U8, U16, U32, U64}
use Rattle.c_text.specs.declared.kinds.CUnary.TheVariants.{Not, Address}
use Rattle.c_text.specs.declared.kinds.Linkage.TheVariants.{External}
use Rattle.c_text.specs.CTree.{TypeTree, uint, size, boolean, uint_pointer, struct_pointer, text, unary, expr_arg, sizeof_arg, no_arg, Code, finish, assign, call, leave, plain, inside, FieldTree, ItemTree, struct_item, text_item, function_item}
use Rattle.wf_exprs.specs.Names.{point_field, saved_field, held_field, count_field, struct_type, initialize_name, status_name}
use Rattle.wf_exprs.specs.Words.{literal, width_of, num, self, of_self, args}
use Rattle.wf_exprs.specs.Exprs.{status_constant}
use Rattle.wf_exprs.specs.Reads.{code_reads}
use Rattle.wf_exprs.specs.Helpers.{all_saturating}
use Rattle.wf_lower_stmts.specs.Forms.{is_kept, holds_something, counts_bytes, keeps, when}
use Rattle.wf_lower.specs.Bodies.{functions_of}

abbrev pub field : TypeTree → List ℕ → FieldTree
field type name = record { kind = plain type; name = name; count = None }

-- typedef struct { uint8_t* ptr; size_t len; size_t wi; size_t ri; uint64_t pos; _Bool closed; } wuffs_base__io_buffer;
abbrev pub io_buffer_item : ItemTree
io_buffer_item =
    struct_item (field (uint_pointer U8) (codes "ptr") ∷ field size (codes "len") ∷ field size (codes "wi") ∷ field size (codes "ri") ∷ field (uint U64) (codes "pos") ∷ field boolean (codes "closed") ∷ []) (codes "wuffs_base__io_buffer")

-- A struct: whether it is ready, which coroutine is active, the source's fields, and what each coroutine keeps.
abbrev pub source_field : PackageTree → Variable → FieldTree
source_field p x = by_type x.ty
  where
    name : List ℕ
    name = codes "f_" ++ x.name

    by_type : Ty → FieldTree
    by_type (types.Num width lo hi) = field (uint (width_of (bits_of width))) name
    by_type types.Status = field text name
    by_type (types.Array width lo hi count) = record { kind = plain (uint (width_of (bits_of width))); name = name; count = Some (literal count) }
    by_type (types.Part s) = record { kind = inside (struct_type p s.0); name = name; count = None }
    by_type ty = field boolean name

abbrev pub source_fields : PackageTree → List Variable → List FieldTree
source_fields p [] = []
source_fields p (x ∷ xs) = source_field p x ∷ source_fields p xs

abbrev pub kept_type : Ty → TypeTree
kept_type (types.Num width lo hi) = uint (width_of (bits_of width))
kept_type types.Status = text
kept_type ty = boolean

abbrev pub kept_fields : (method : List ℕ) → List Variable → List FieldTree
kept_fields method [] = []
kept_fields method (x ∷ xs) = if is_kept x.ty then field (kept_type x.ty) (saved_field method x.name) ∷ kept_fields method xs else kept_fields method xs

abbrev pub started_fields : MethodTree → List FieldTree
started_fields m =
    (if keeps holds_something m.body then field (uint U64) (held_field m.name) ∷ [] else []) ++ (if keeps counts_bytes m.body then field (uint U8) (count_field m.name) ∷ [] else [])

abbrev pub coroutine_fields : MethodTree → List FieldTree
coroutine_fields m = if is_coroutine m.mark then field (uint U16) (point_field m.name) ∷ kept_fields m.name m.locals ++ started_fields m else []

abbrev pub methods_fields : (s : ℕ) → List MethodTree → List FieldTree
methods_fields s [] = []
methods_fields s (m ∷ ms) = if nat_eq m.of s then coroutine_fields m ++ methods_fields s ms else methods_fields s ms

abbrev pub struct_fields : PackageTree → (s : ℕ) → List FieldTree
struct_fields p s = field (uint U8) (codes "life") ∷ field (uint U32) (codes "active") ∷ source_fields p (fields_of p s) ++ methods_fields s p.methods

-- An init clears the struct with all that is in it, and makes it and the structs inside it ready.
abbrev pub initialize_part : PackageTree → Variable → (rest : Code) → Code
initialize_part p x rest = by_type x.ty
  where
    by_type : Ty → Code
    by_type (types.Part s) = call None (initialize_name p s.0) (args (unary Address (of_self (codes "f_" ++ x.name)) ∷ [])) rest
    by_type ty = rest

abbrev pub initialize_parts : PackageTree → List Variable → (rest : Code) → Code
initialize_parts p [] rest = rest
initialize_parts p (x ∷ xs) rest = initialize_part p x (initialize_parts p xs rest)

abbrev pub initialize_code : PackageTree → (s : ℕ) → Code
initialize_code p s =
    when (unary Not self) (leave (Some (status_constant bad_receiver)) finish)
    (call None (codes "memset") (expr_arg self (expr_arg (num 0) (sizeof_arg (codes "self") no_arg)))
    (assign (of_self (codes "life")) (num 1)
    (initialize_parts p (fields_of p s) (leave (Some (num 0)) finish))))

abbrev pub initialize_function : PackageTree → (s : ℕ) → ItemTree
initialize_function p s =
    function_item External (Some text) (initialize_name p s) (record { kind = struct_pointer (struct_type p s); name = codes "self" } ∷ []) [] (initialize_code p s)

abbrev pub struct_items : PackageTree → List ℕ → List ItemTree
struct_items p [] = []
struct_items p (s ∷ ss) = struct_item (struct_fields p s) (struct_type p s) ∷ struct_items p ss

abbrev pub initialize_functions : PackageTree → List ℕ → List ItemTree
initialize_functions p [] = []
initialize_functions p (s ∷ ss) = initialize_function p s ∷ initialize_functions p ss

abbrev pub method_functions : PackageTree → List ℕ → List ItemTree
method_functions p [] = []
method_functions p (n ∷ ns) = functions_of p n (slice_get p.methods n) ++ method_functions p ns

abbrev pub all_functions : PackageTree → List ItemTree
all_functions p = initialize_functions p p.struct_order ++ method_functions p p.order

-- Statuses and helpers stand in the text where a function reads them.
abbrev pub is_read_in : (name : List ℕ) → ItemTree → Bool
is_read_in name (function_item linkage result_type other params locals body) = code_reads name body
is_read_in name item = false

abbrev pub is_used : List ItemTree → (name : List ℕ) → Bool
is_used functions name = list_any (is_read_in name) functions

abbrev pub used_texts : List ItemTree → (n : ℕ) → List (List ℕ) → List ItemTree
used_texts functions n [] = []
used_texts functions n (bytes ∷ others) =
    if is_used functions (status_name n) then text_item (status_name n) bytes ∷ used_texts functions (suc n) others else used_texts functions (suc n) others

abbrev pub helper_name : ItemTree → List ℕ
helper_name (function_item linkage result_type name params locals body) = name
helper_name item = []

abbrev pub used_helpers : List ItemTree → List ItemTree → List ItemTree
used_helpers functions [] = []
used_helpers functions (it ∷ its) = if is_used functions (helper_name it) then it ∷ used_helpers functions its else used_helpers functions its

-- The C tree of a package.
unfoldable pub lowered_unit : PackageTree → List ItemTree
lowered_unit p =
    io_buffer_item ∷ struct_items p p.struct_order ++ (used_texts (all_functions p) 0 p.statuses ++ (used_helpers (all_functions p) all_saturating ++ all_functions p))
