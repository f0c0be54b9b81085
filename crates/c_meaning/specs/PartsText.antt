-- A text with an object of a struct inside another one, an array field, an inline function in an expression, and a
-- pointer to the object inside.
use Rattle.std.specs.Prelude.{false, List, [], ◌∷◌, Some, None, codes}
use Rattle.wf_text.specs.Surface.{Surface, PublicStruct}
use Rattle.wf_text.specs.Surface as kind
use Rattle.wf_text.specs.HostActions.{num as a_number, HostAction, init, call as calls, Receiver}
use Rattle.wf_base.specs.BaseOps.{Buffer}
use Rattle.c_text.specs.declared.kinds.CNumber.TheVariants.{Unsigned}
use Rattle.c_text.specs.declared.kinds.COp.TheVariants.{Add, Lt}
use Rattle.c_text.specs.declared.kinds.CUint.TheVariants.{U32}
use Rattle.c_text.specs.declared.kinds.CUnary.TheVariants.{Address}
use Rattle.c_text.specs.declared.kinds.Linkage.TheVariants.{External, Static, StaticInline}
use Rattle.c_text.specs.CTree.{uint, text, number, element, unary, choice, called, no_arg, expr_arg, sizeof_arg, assign, call, leave, ItemTree, function_item}
use Rattle.c_meaning.specs.TextWords.{v, n, m, o, block, pointer_to, field, array, inner, parameter, struct, io_buffer_item}
use Rattle.c_meaning.specs.SmallText.{base_statuses}

-- typedef struct { uint32_t v; } wuffs_sub__inner;
abbrev pub wuffs_sub__inner_item : ItemTree
wuffs_sub__inner_item = struct "wuffs_sub__inner" (field (uint U32) "v" ∷ [])

-- typedef struct { wuffs_sub__inner x; uint32_t n[2]; } wuffs_sub__outer;
abbrev pub struct_decl : ItemTree
struct_decl = struct "wuffs_sub__outer" (inner "wuffs_sub__inner" "x" ∷ array (uint U32) "n" 2 ∷ [])

-- static inline uint32_t sat_add(uint32_t a, uint32_t b) { return (((a + b) < a) ? 4294967295u : (a + b)); }
abbrev pub sat_add_item : ItemTree
sat_add_item = function_item StaticInline (Some (uint U32)) (codes "sat_add") (parameter (uint U32) "a" ∷ parameter (uint U32) "b" ∷ []) [] (block (leave (Some (choice (o Lt (o Add (v "a") (v "b")) (v "a")) (number (Unsigned 4294967295)) (o Add (v "a") (v "b")))) ∷ []))

-- static void add_to(wuffs_sub__inner* self, uint32_t k) { self->v = (sat_add(self->v, k)); }
abbrev pub add_to_item : ItemTree
add_to_item = function_item Static None (codes "add_to") (parameter (pointer_to "wuffs_sub__inner") "self" ∷ parameter (uint U32) "k" ∷ []) [] (block (assign (m (v "self") "v") (called (codes "sat_add") (expr_arg (m (v "self") "v") (expr_arg (v "k") no_arg))) ∷ []))

-- const char* wuffs_sub__outer__initialize(wuffs_sub__outer* self) { memset(self, 0, sizeof(*self)); return 0; }
abbrev pub initialize_item : ItemTree
initialize_item = function_item External (Some text) (codes "wuffs_sub__outer__initialize") (parameter (pointer_to "wuffs_sub__outer") "self" ∷ []) [] (block (
    call None (codes "memset") (expr_arg (v "self") (expr_arg (n 0) (sizeof_arg (codes "self") no_arg))) ∷
    leave (Some (n 0)) ∷ []))

-- uint32_t wuffs_sub__outer__add(wuffs_sub__outer* self, uint32_t a_k) {
--   add_to((&self->x), a_k);
--   self->n[1] = (self->n[1] + 1);
--   return (&self->x)->v;
-- }
abbrev pub add_item : ItemTree
add_item = function_item External (Some (uint U32)) (codes "wuffs_sub__outer__add") (parameter (pointer_to "wuffs_sub__outer") "self" ∷ parameter (uint U32) "a_k" ∷ []) [] (block (
    call None (codes "add_to") (expr_arg (unary Address (m (v "self") "x")) (expr_arg (v "a_k") no_arg)) ∷
    assign (element (m (v "self") "n") (n 1)) (o Add (element (m (v "self") "n") (n 1)) (n 1)) ∷
    leave (Some (m (unary Address (m (v "self") "x")) "v")) ∷ []))

-- uint32_t wuffs_sub__outer__count(wuffs_sub__outer* self) { return self->n[1]; }
abbrev pub count_item : ItemTree
count_item = function_item External (Some (uint U32)) (codes "wuffs_sub__outer__count") (parameter (pointer_to "wuffs_sub__outer") "self" ∷ []) [] (block (leave (Some (element (m (v "self") "n") (n 1))) ∷ []))

abbrev pub parts_text : List ItemTree
parts_text = io_buffer_item ∷ wuffs_sub__inner_item ∷ struct_decl ∷ sat_add_item ∷ add_to_item ∷ initialize_item ∷ add_item ∷ count_item ∷ []

-- Package `sub`: `pub struct outer(..)`, `pub func outer.add!(k: base.u32) base.u32` and `pub func outer.count() base.u32`.
abbrev pub parts_struct : PublicStruct
parts_struct = record { number = 0; name = codes "outer"; methods = record { number = 0; name = codes "add"; args = record { name = codes "k"; kind = kind.number 32 } ∷ []; answers = kind.numeric 32 } ∷ record { number = 1; name = codes "count"; args = []; answers = kind.numeric 32 } ∷ [] }

abbrev pub parts_surface : Surface
parts_surface = record { package_name = codes "sub"; statuses = base_statuses; structs = parts_struct ∷ [] }

abbrev pub parts_receivers : List Receiver
parts_receivers = record { struct_number = 0; null = false } ∷ []

-- 5 and the greatest number are added, which ends at the greatest number; after an init 1 is added to 0.
abbrev pub parts_actions : List (HostAction Buffer)
parts_actions = init 0 9 ∷ calls 0 0 (a_number 5 ∷ []) 9 ∷ calls 0 0 (a_number 4294967295 ∷ []) 9 ∷ calls 0 1 [] 9 ∷ init 0 9 ∷ calls 0 0 (a_number 1 ∷ []) 9 ∷ calls 0 1 [] 9 ∷ []
