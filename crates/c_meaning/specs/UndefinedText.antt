-- A text with functions that are undefined, each by a rule of its own, and one that is not.
use Rattle.std.specs.Prelude.{ℕ, false, List, [], ◌∷◌, Some, None, codes}
use Rattle.wf_text.specs.Surface.{Surface, PublicStruct}
use Rattle.wf_text.specs.Surface as kind
use Rattle.wf_text.specs.HostActions.{HostArg, HostAction, call as calls, replace, Receiver}
use Rattle.wf_text.specs.Seen.{Answer, nothing, Seen, answered}
use Rattle.wf_base.specs.BaseOps.{Buffer, empty_buffer}
use Rattle.c_text.specs.declared.kinds.COp.TheVariants.{Add, Mul, Eq}
use Rattle.c_text.specs.declared.kinds.CUint.TheVariants.{U8, U16, U32}
use Rattle.c_text.specs.declared.kinds.Linkage.TheVariants.{External, Static}
use Rattle.c_text.specs.CTree.{uint, uint_pointer, text, element, cast, no_arg, expr_arg, assign, call, leave, ItemTree, function_item}
use Rattle.c_meaning.specs.TextWords.{v, n, m, o, block, when, pointer_to, field, array, parameter, local, struct, string, io_buffer_item}
use Rattle.c_meaning.specs.SmallText.{base_statuses}
use Rattle.c_meaning.specs.CValues.{Pointer}
use Rattle.c_meaning.specs.CMemory.{Memory, num as num_cell, unset, cells, part, u8, u16, u32}

-- typedef struct { uint8_t life; uint8_t i; uint8_t a[2]; } wuffs_u__u;
abbrev pub struct_decl : ItemTree
struct_decl = struct "wuffs_u__u" (field (uint U8) "life" ∷ field (uint U8) "i" ∷ array (uint U8) "a" 2 ∷ [])

-- static const char end_of_data[] = "@base: end of data";
abbrev pub end_of_data_item : ItemTree
end_of_data_item = string "end_of_data" "@base: end of data"

-- const char* wuffs_u__u__initialize(wuffs_u__u* self) { return 0; }
abbrev pub initialize_item : ItemTree
initialize_item = function_item External (Some text) (codes "wuffs_u__u__initialize") (parameter (pointer_to "wuffs_u__u") "self" ∷ []) [] (block (leave (Some (n 0)) ∷ []))

-- uint32_t wuffs_u__u__square(wuffs_u__u* self, uint16_t a_a) { return (a_a * a_a); }
abbrev pub square_item : ItemTree
square_item = function_item External (Some (uint U32)) (codes "wuffs_u__u__square") (parameter (pointer_to "wuffs_u__u") "self" ∷ parameter (uint U16) "a_a" ∷ []) [] (block (leave (Some (o Mul (v "a_a") (v "a_a"))) ∷ []))

-- uint32_t wuffs_u__u__cast_square(wuffs_u__u* self, uint16_t a_a) { return (((uint32_t)a_a) * ((uint32_t)a_a)); }
abbrev pub cast_square_item : ItemTree
cast_square_item = function_item External (Some (uint U32)) (codes "wuffs_u__u__cast_square") (parameter (pointer_to "wuffs_u__u") "self" ∷ parameter (uint U16) "a_a" ∷ []) [] (block (leave (Some (o Mul (cast (uint U32) (v "a_a")) (cast (uint U32) (v "a_a")))) ∷ []))

-- const char* wuffs_u__u__inside(wuffs_u__u* self) { return (end_of_data + 1); }
abbrev pub inside_item : ItemTree
inside_item = function_item External (Some text) (codes "wuffs_u__u__inside") (parameter (pointer_to "wuffs_u__u") "self" ∷ []) [] (block (leave (Some (o Add (v "end_of_data") (n 1))) ∷ []))

-- void wuffs_u__u__beyond(wuffs_u__u* self, wuffs_base__io_buffer* a_dst) { a_dst->wi = (a_dst->len + 1); }
abbrev pub beyond_item : ItemTree
beyond_item = function_item External None (codes "wuffs_u__u__beyond") (parameter (pointer_to "wuffs_u__u") "self" ∷ parameter (pointer_to "wuffs_base__io_buffer") "a_dst" ∷ []) [] (block (assign (m (v "a_dst") "wi") (o Add (m (v "a_dst") "len") (n 1)) ∷ []))

-- uint32_t wuffs_u__u__unset(wuffs_u__u* self) { uint32_t x; return x; }
abbrev pub unset_item : ItemTree
unset_item = function_item External (Some (uint U32)) (codes "wuffs_u__u__unset") (parameter (pointer_to "wuffs_u__u") "self" ∷ []) (local (uint U32) "x" None ∷ []) (block (leave (Some (v "x")) ∷ []))

-- uint8_t wuffs_u__u__null(wuffs_u__u* self) { uint8_t* p = 0; return p[0]; }
abbrev pub null_item : ItemTree
null_item = function_item External (Some (uint U8)) (codes "wuffs_u__u__null") (parameter (pointer_to "wuffs_u__u") "self" ∷ []) (local (uint_pointer U8) "p" (Some (n 0)) ∷ []) (block (leave (Some (element (v "p") (n 0))) ∷ []))

-- uint8_t wuffs_u__u__end(wuffs_u__u* self) { if ((self->life == 9)) { return 1; } }
abbrev pub end_item : ItemTree
end_item = function_item External (Some (uint U8)) (codes "wuffs_u__u__end") (parameter (pointer_to "wuffs_u__u") "self" ∷ []) [] (block (when (o Eq (m (v "self") "life") (n 9)) (leave (Some (n 1)) ∷ []) ∷ []))

-- static uint8_t seven_at(wuffs_u__u* self, uint8_t k) { self->i = k; return 7; }
abbrev pub seven_at_item : ItemTree
seven_at_item = function_item Static (Some (uint U8)) (codes "seven_at") (parameter (pointer_to "wuffs_u__u") "self" ∷ parameter (uint U8) "k" ∷ []) [] (block (assign (m (v "self") "i") (v "k") ∷ leave (Some (n 7)) ∷ []))

-- uint8_t wuffs_u__u__moving(wuffs_u__u* self, uint8_t a_i, uint8_t a_k) {
--   self->i = a_i;
--   self->a[self->i] = seven_at(self, a_k);
--   return self->a[0];
-- }
abbrev pub moving_item : ItemTree
moving_item = function_item External (Some (uint U8)) (codes "wuffs_u__u__moving") (parameter (pointer_to "wuffs_u__u") "self" ∷ parameter (uint U8) "a_i" ∷ parameter (uint U8) "a_k" ∷ []) [] (block (
    assign (m (v "self") "i") (v "a_i") ∷
    call (Some (element (m (v "self") "a") (m (v "self") "i"))) (codes "seven_at") (expr_arg (v "self") (expr_arg (v "a_k") no_arg)) ∷
    leave (Some (element (m (v "self") "a") (n 0))) ∷ []))

abbrev pub undefined_text : List ItemTree
undefined_text = io_buffer_item ∷ struct_decl ∷ end_of_data_item ∷ initialize_item ∷ square_item ∷ cast_square_item ∷ inside_item ∷ beyond_item ∷ unset_item ∷ null_item ∷ end_item ∷ seven_at_item ∷ moving_item ∷ []

-- Package `u`, with a method for each function.
abbrev pub undefined_struct : PublicStruct
undefined_struct = record { number = 0; name = codes "u"; methods = record { number = 0; name = codes "square"; args = record { name = codes "a"; kind = kind.number 16 } ∷ []; answers = kind.numeric 32 } ∷ record { number = 1; name = codes "cast_square"; args = record { name = codes "a"; kind = kind.number 16 } ∷ []; answers = kind.numeric 32 } ∷ record { number = 2; name = codes "inside"; args = []; answers = kind.status } ∷ record { number = 3; name = codes "beyond"; args = record { name = codes "dst"; kind = kind.writer } ∷ []; answers = kind.nothing } ∷ record { number = 4; name = codes "unset"; args = []; answers = kind.numeric 32 } ∷ record { number = 5; name = codes "null"; args = []; answers = kind.numeric 8 } ∷ record { number = 6; name = codes "end"; args = []; answers = kind.numeric 8 } ∷ record { number = 7; name = codes "moving"; args = record { name = codes "i"; kind = kind.number 8 } ∷ record { name = codes "k"; kind = kind.number 8 } ∷ []; answers = kind.numeric 8 } ∷ [] }

abbrev pub undefined_surface : Surface
undefined_surface = record { package_name = codes "u"; statuses = base_statuses; structs = undefined_struct ∷ [] }

abbrev pub undefined_receivers : List Receiver
undefined_receivers = record { struct_number = 0; null = false } ∷ []

-- One call of a method, after a buffer of two bytes.
abbrev pub one_call : (method : ℕ) → List HostArg → List (HostAction Buffer)
one_call method args = replace (empty_buffer 2 ∷ []) [] ∷ calls 0 method args 9 ∷ []

abbrev pub one_open : Answer → Seen
one_open answer = answered answer (record { written = []; ri = 0; wi = 0; pos = 0; closed = false } ∷ []) []

abbrev pub nothing_then : Seen → List Seen
nothing_then seen = one_open nothing ∷ seen ∷ []

-- Objects of two structs, the second inside the first.
abbrev pub two_objects : Memory
two_objects = (part 1 ∷ cells u32 (unset ∷ []) ∷ []) ∷ (cells u32 (unset ∷ []) ∷ []) ∷ []

-- Objects with three bytes, with two numbers of 16 bits, and with an unset byte.
abbrev pub three_objects : Memory
three_objects = (cells u8 (num_cell 1 ∷ num_cell 2 ∷ num_cell 3 ∷ []) ∷ []) ∷ (cells u16 (num_cell 1 ∷ num_cell 2 ∷ []) ∷ []) ∷ (cells u8 (unset ∷ []) ∷ []) ∷ []

-- The cell of the first field with this index.
abbrev pub cell_of_object : (object index : ℕ) → Pointer
cell_of_object object index = record { object = object; field = 0; index = index }
