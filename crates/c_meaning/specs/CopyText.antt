-- A text that copies a slice to a writer, as many bytes as fit.
use Rattle.std.specs.Prelude.{ℕ, false, List, [], ◌∷◌, length, Some, None, codes}
use Rattle.wf_text.specs.Surface.{Surface, PublicStruct}
use Rattle.wf_text.specs.Surface as kind
use Rattle.wf_text.specs.HostActions.{bytes, io, HostAction, init, call as calls, replace, Receiver}
use Rattle.wf_text.specs.Seen.{Answer, status, num, nothing, Seen, SeenBuffer, answered}
use Rattle.wf_base.specs.BaseOps.{Buffer, empty_buffer}
use Rattle.c_text.specs.declared.kinds.COp.TheVariants.{Add, Sub, Lt, Gt}
use Rattle.c_text.specs.declared.kinds.CUint.TheVariants.{U8, U64}
use Rattle.c_text.specs.declared.kinds.Linkage.TheVariants.{External}
use Rattle.c_text.specs.CTree.{uint, size, uint_pointer, text, no_arg, expr_arg, assign, call, leave, ItemTree, function_item}
use Rattle.c_meaning.specs.TextWords.{v, n, m, o, block, when, pointer_to, field, parameter, local, struct, io_buffer_item}
use Rattle.c_meaning.specs.SmallText.{base_statuses}

-- typedef struct { uint8_t life; } wuffs_cp__cp;
abbrev pub struct_decl : ItemTree
struct_decl = struct "wuffs_cp__cp" (field (uint U8) "life" ∷ [])

-- const char* wuffs_cp__cp__initialize(wuffs_cp__cp* self) { self->life = 1; return 0; }
abbrev pub initialize_item : ItemTree
initialize_item = function_item External (Some text) (codes "wuffs_cp__cp__initialize") (parameter (pointer_to "wuffs_cp__cp") "self" ∷ []) [] (block (
    assign (m (v "self") "life") (n 1) ∷
    leave (Some (n 0)) ∷ []))

-- uint64_t wuffs_cp__cp__out(wuffs_cp__cp* self, wuffs_base__io_buffer* a_dst, uint8_t* ap_s, size_t al_s) {
--   uint64_t k = al_s;
--   if (((a_dst->len - a_dst->wi) < k)) { k = (a_dst->len - a_dst->wi); }
--   if ((k > 0)) {
--     memmove((a_dst->ptr + a_dst->wi), ap_s, k);
--     a_dst->wi = (a_dst->wi + k);
--   }
--   return k;
-- }
abbrev pub out_item : ItemTree
out_item = function_item External (Some (uint U64)) (codes "wuffs_cp__cp__out") (parameter (pointer_to "wuffs_cp__cp") "self" ∷ parameter (pointer_to "wuffs_base__io_buffer") "a_dst" ∷ parameter (uint_pointer U8) "ap_s" ∷ parameter size "al_s" ∷ []) (local (uint U64) "k" (Some (v "al_s")) ∷ []) (block (
    when (o Lt (o Sub (m (v "a_dst") "len") (m (v "a_dst") "wi")) (v "k")) (assign (v "k") (o Sub (m (v "a_dst") "len") (m (v "a_dst") "wi")) ∷ []) ∷
    when (o Gt (v "k") (n 0)) (
    call None (codes "memmove") (expr_arg (o Add (m (v "a_dst") "ptr") (m (v "a_dst") "wi")) (expr_arg (v "ap_s") (expr_arg (v "k") no_arg))) ∷
    assign (m (v "a_dst") "wi") (o Add (m (v "a_dst") "wi") (v "k")) ∷ []) ∷
    leave (Some (v "k")) ∷ []))

abbrev pub copy_text : List ItemTree
copy_text = io_buffer_item ∷ struct_decl ∷ initialize_item ∷ out_item ∷ []

-- Package `cp`: `pub struct cp!()` and `pub func cp.out!(dst: base.io_writer, s: slice base.u8) base.u64`.
abbrev pub copy_struct : PublicStruct
copy_struct = record { number = 0; name = codes "cp"; methods = record { number = 0; name = codes "out"; args = record { name = codes "dst"; kind = kind.writer } ∷ record { name = codes "s"; kind = kind.slice 8 } ∷ []; answers = kind.numeric 64 } ∷ [] }

abbrev pub copy_surface : Surface
copy_surface = record { package_name = codes "cp"; statuses = base_statuses; structs = copy_struct ∷ [] }

abbrev pub copy_receivers : List Receiver
copy_receivers = record { struct_number = 0; null = false } ∷ []

-- The empty slice, and then two bytes, go to a buffer of one byte, and the second byte to one that has room.
abbrev pub copy_actions : List (HostAction Buffer)
copy_actions = replace (empty_buffer 1 ∷ empty_buffer 3 ∷ []) ((1 ∷ 2 ∷ []) ∷ []) ∷ init 0 9 ∷ calls 0 0 (io (Some 0) ∷ bytes None ∷ []) 9 ∷ calls 0 0 (io (Some 0) ∷ bytes (Some 0) ∷ []) 9 ∷ calls 0 0 (io (Some 1) ∷ bytes (Some 0) ∷ []) 9 ∷ []

-- What is seen: two open buffers that nothing was read from, and the byte array.
abbrev pub unread : List ℕ → SeenBuffer
unread written = record { written = written; ri = 0; wi = length written; pos = 0; closed = false }

abbrev pub seen_two : Answer → (first second : List ℕ) → Seen
seen_two answer first second = answered answer (unread first ∷ unread second ∷ []) ((1 ∷ 2 ∷ []) ∷ [])

abbrev pub seen_copies : List Seen
seen_copies = seen_two nothing [] [] ∷ seen_two (status []) [] [] ∷ seen_two (num 0) [] [] ∷ seen_two (num 1) (1 ∷ []) [] ∷ seen_two (num 2) (1 ∷ []) (1 ∷ 2 ∷ []) ∷ []
