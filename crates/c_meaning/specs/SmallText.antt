-- A small text, as a person would write it: a struct of one byte, and a function that adds 7 to it.
use Rattle.std.specs.Prelude.{ℕ, false, List, [], ◌∷◌, Some, codes}
use Rattle.wf_text.specs.Surface.{Surface, PublicStruct, PublicMethod}
use Rattle.wf_text.specs.Surface as kind
use Rattle.wf_text.specs.HostActions.{HostAction, init, call, Receiver}
use Rattle.wf_base.specs.BaseOps.{Buffer}
use Rattle.c_text.specs.declared.kinds.COp.{COp}
use Rattle.c_text.specs.declared.kinds.CUint.TheVariants.{U8}
use Rattle.c_text.specs.declared.kinds.Linkage.TheVariants.{External}
use Rattle.c_text.specs.CTree.{uint, text, leave, ItemTree, function_item}
use Rattle.c_meaning.specs.TextWords.{v, n, m, o, block, pointer_to, field, parameter, struct, io_buffer_item}

-- typedef struct { uint8_t x; } wuffs_e__e;
-- const char* wuffs_e__e__initialize(wuffs_e__e* self) { return 0; }
-- uint8_t wuffs_e__e__f(wuffs_e__e* self) { return (7 + self->x); }
abbrev pub small_text : COp → List ItemTree
small_text op = io_buffer_item ∷ struct "wuffs_e__e" (field (uint U8) "x" ∷ [])
    ∷ function_item External (Some text) (codes "wuffs_e__e__initialize") (parameter (pointer_to "wuffs_e__e") "self" ∷ []) [] (block (leave (Some (n 0)) ∷ []))
    ∷ function_item External (Some (uint U8)) (codes "wuffs_e__e__f") (parameter (pointer_to "wuffs_e__e") "self" ∷ []) [] (block (leave (Some (o op (n 7) (m (v "self") "x"))) ∷ []))
    ∷ []

-- The texts that a caller sees of ok and of the base statuses.
abbrev pub base_statuses : List (List ℕ)
base_statuses = [] ∷ codes "$base: short read" ∷ codes "$base: short write" ∷ codes "@base: end of data" ∷ codes "#base: bad receiver" ∷ codes "#base: bad argument" ∷ codes "#base: initialize not called" ∷ codes "#base: interleaved coroutine calls" ∷ codes "#base: disabled by previous error" ∷ codes "#base: cannot return a suspension" ∷ []

-- Package `e`: `pub struct e()` and `pub func e.f() base.u8`.
abbrev pub small_method : PublicMethod
small_method = record { number = 0; name = codes "f"; args = []; answers = kind.numeric 8 }

abbrev pub small_struct : PublicStruct
small_struct = record { number = 0; name = codes "e"; methods = small_method ∷ [] }

abbrev pub small_surface : Surface
small_surface = record { package_name = codes "e"; statuses = base_statuses; structs = small_struct ∷ [] }

abbrev pub small_receivers : List Receiver
small_receivers = record { struct_number = 0; null = false } ∷ []

-- A receiver is initialized and its method is called.
abbrev pub small_actions : List (HostAction Buffer)
small_actions = init 0 1000000 ∷ call 0 0 [] 1000000 ∷ []
