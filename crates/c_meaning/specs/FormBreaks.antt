-- Items that break the unit form, each by a rule of its own.
use Rattle.std.specs.Prelude.{[], ◌∷◌, Some, None, codes}
use Rattle.c_text.specs.declared.kinds.CNumber.TheVariants.{Int}
use Rattle.c_text.specs.declared.kinds.CUint.TheVariants.{U8, U16}
use Rattle.c_text.specs.declared.kinds.Linkage.TheVariants.{External, Static}
use Rattle.c_text.specs.CTree.{uint, text, element, no_arg, finish, empty, assign, call, repeat, select, leave, case_label, ItemTree, function_item}
use Rattle.c_meaning.specs.TextWords.{v, n, m, block, pointer_to, parameter, local}

-- void spin(void) { while (1) { } }
abbrev pub spin_item : ItemTree
spin_item = function_item External None (codes "spin") [] [] (block (repeat (n 1) finish ∷ []))

-- static void lose_bytes(wuffs_base__io_buffer* b) { b->ptr = 0; }
abbrev pub lose_bytes_item : ItemTree
lose_bytes_item = function_item Static None (codes "lose_bytes") (parameter (pointer_to "wuffs_base__io_buffer") "b" ∷ []) [] (block (assign (m (v "b") "ptr") (n 0) ∷ []))

-- static void again(void) { again(); }
abbrev pub again_item : ItemTree
again_item = function_item Static None (codes "again") [] [] (block (call None (codes "again") no_arg ∷ []))

-- static void early(void) { uint8_t late; }
abbrev pub early_item : ItemTree
early_item = function_item Static None (codes "early") [] (local (uint U8) "late" None ∷ []) finish

-- static void late(void) { }
abbrev pub late_item : ItemTree
late_item = function_item Static None (codes "late") [] [] finish

-- static uint8_t half(uint8_t a) { switch (a) { case 1: ; case 1: ; } return 0; }
abbrev pub half_item : ItemTree
half_item = function_item Static (Some (uint U8)) (codes "half") (parameter (uint U8) "a" ∷ []) [] (block (
    select (v "a") (block (
    case_label (Int 1) ∷
    empty ∷
    case_label (Int 1) ∷
    empty ∷ [])) ∷
    leave (Some (n 0)) ∷ []))

-- static void write_text(const char* s) { s[0] = 1; }
abbrev pub write_text_item : ItemTree
write_text_item = function_item Static None (codes "write_text") (parameter text "s" ∷ []) [] (block (assign (element (v "s") (n 0)) (n 1) ∷ []))

-- uint16_t wuffs_e__e__f(wuffs_e__e* self) { return 7; }
abbrev pub f_item : ItemTree
f_item = function_item External (Some (uint U16)) (codes "wuffs_e__e__f") (parameter (pointer_to "wuffs_e__e") "self" ∷ []) [] (block (leave (Some (n 7)) ∷ []))
