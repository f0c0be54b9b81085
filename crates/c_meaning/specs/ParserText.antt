-- A text in structured C for a package with a parser of decimal numbers, as a person would write it: the byte that the
-- parser waits for is read after a `case` label that stands inside the `while`.
use Rattle.std.specs.Prelude.{ℕ, true, false, List, [], ◌∷◌, ◌++◌, Some, None, codes}
use Rattle.wf_text.specs.Surface.{Surface, PublicStruct, PublicMethod}
use Rattle.wf_text.specs.Surface as kind
use Rattle.wf_text.specs.HostActions.{HostAction, init, call as calls, put, compact, replace, io, Receiver}
use Rattle.wf_text.specs.Seen.{Answer, status, Seen, answered}
use Rattle.wf_base.specs.BaseOps.{Buffer, empty_buffer}
use Rattle.c_text.specs.declared.kinds.CNumber.TheVariants.{Int}
use Rattle.c_text.specs.declared.kinds.COp.TheVariants.{Add, Sub, Mul, Lt, Gt, Eq, Both, Either}
use Rattle.c_text.specs.declared.kinds.CUint.TheVariants.{U8, U32}
use Rattle.c_text.specs.declared.kinds.CUnary.TheVariants.{Not}
use Rattle.c_text.specs.declared.kinds.Linkage.TheVariants.{External, Static}
use Rattle.c_text.specs.CTree.{uint, text, element, unary, no_arg, expr_arg, sizeof_arg, empty, assign, call, repeat, select, leave, case_label, ItemTree, function_item}
use Rattle.c_meaning.specs.TextWords.{v, n, m, o, block, when, when_or, goto, label, pointer_to, field, parameter, local, struct, string, io_buffer_item}
use Rattle.c_meaning.specs.SmallText.{base_statuses}

-- typedef struct { uint8_t life; uint8_t point; uint32_t val; } wuffs_demo__parser;
abbrev pub parser_item : ItemTree
parser_item = struct "wuffs_demo__parser" (field (uint U8) "life" ∷ field (uint U8) "point" ∷ field (uint U32) "val" ∷ [])

-- static const char short_read[] = "$base: short read";
abbrev pub short_read_item : ItemTree
short_read_item = string "short_read" "$base: short read"

-- static const char bad_receiver[] = "#base: bad receiver";
abbrev pub bad_receiver_item : ItemTree
bad_receiver_item = string "bad_receiver" "#base: bad receiver"

-- static const char bad_argument[] = "#base: bad argument";
abbrev pub bad_argument_item : ItemTree
bad_argument_item = string "bad_argument" "#base: bad argument"

-- static const char not_initialized[] = "#base: initialize not called";
abbrev pub not_initialized_item : ItemTree
not_initialized_item = string "not_initialized" "#base: initialize not called"

-- static const char disabled[] = "#base: disabled by previous error";
abbrev pub disabled_item : ItemTree
disabled_item = string "disabled" "#base: disabled by previous error"

-- static const char not_a_digit[] = "#demo: not a digit";
abbrev pub not_a_digit_item : ItemTree
not_a_digit_item = string "not_a_digit" "#demo: not a digit"

-- static const char too_large[] = "#demo: too large";
abbrev pub too_large_item : ItemTree
too_large_item = string "too_large" "#demo: too large"

-- const char* wuffs_demo__parser__initialize(wuffs_demo__parser* self) {
--   if ((!self)) { return bad_receiver; }
--   memset(self, 0, sizeof(*self));
--   self->life = 1;
--   return 0;
-- }
abbrev pub initialize_item : ItemTree
initialize_item = function_item External (Some text) (codes "wuffs_demo__parser__initialize") (parameter (pointer_to "wuffs_demo__parser") "self" ∷ []) [] (block (
    when (unary Not (v "self")) (leave (Some (v "bad_receiver")) ∷ []) ∷
    call None (codes "memset") (expr_arg (v "self") (expr_arg (n 0) (sizeof_arg (codes "self") no_arg))) ∷
    assign (m (v "self") "life") (n 1) ∷
    leave (Some (n 0)) ∷ []))

-- uint32_t wuffs_demo__parser__value(wuffs_demo__parser* self) {
--   if ((!self)) { return 0; }
--   if ((self->life == 0)) { return 0; }
--   return self->val;
-- }
abbrev pub value_item : ItemTree
value_item = function_item External (Some (uint U32)) (codes "wuffs_demo__parser__value") (parameter (pointer_to "wuffs_demo__parser") "self" ∷ []) [] (block (
    when (unary Not (v "self")) (leave (Some (n 0)) ∷ []) ∷
    when (o Eq (m (v "self") "life") (n 0)) (leave (Some (n 0)) ∷ []) ∷
    leave (Some (m (v "self") "val")) ∷ []))

-- static const char* parse_body(wuffs_demo__parser* self, wuffs_base__io_buffer* src) {
--   uint8_t c = 0;
--   switch (self->point) {
--     case 0: while (1) {
--       case 1: if ((src->ri == src->wi)) { self->point = 1; return short_read; }
--       c = src->ptr[src->ri];
--       src->ri = (src->ri + 1);
--       if ((c == 0)) { self->point = 0; return 0; }
--       if (((c < 48) || (57 < c))) { self->point = 0; return not_a_digit; }
--       c = (c - 48);
--       if ((self->val < 429496729)) {
--         self->val = ((10 * self->val) + c);
--         goto next;
--       } else if (((self->val > 429496729) || (c > 5))) { self->point = 0; return too_large; }
--       self->val = ((10 * self->val) + c);
--       next: ;
--     }
--   }
--   return 0;
-- }
abbrev pub parse_body_item : ItemTree
parse_body_item = function_item Static (Some text) (codes "parse_body") (parameter (pointer_to "wuffs_demo__parser") "self" ∷ parameter (pointer_to "wuffs_base__io_buffer") "src" ∷ []) (local (uint U8) "c" (Some (n 0)) ∷ []) (block (
    select (m (v "self") "point") (block (
    case_label (Int 0) ∷
    repeat (n 1) (block (
    case_label (Int 1) ∷
    when (o Eq (m (v "src") "ri") (m (v "src") "wi")) (
    assign (m (v "self") "point") (n 1) ∷
    leave (Some (v "short_read")) ∷ []) ∷
    assign (v "c") (element (m (v "src") "ptr") (m (v "src") "ri")) ∷
    assign (m (v "src") "ri") (o Add (m (v "src") "ri") (n 1)) ∷
    when (o Eq (v "c") (n 0)) (
    assign (m (v "self") "point") (n 0) ∷
    leave (Some (n 0)) ∷ []) ∷
    when (o Either (o Lt (v "c") (n 48)) (o Lt (n 57) (v "c"))) (
    assign (m (v "self") "point") (n 0) ∷
    leave (Some (v "not_a_digit")) ∷ []) ∷
    assign (v "c") (o Sub (v "c") (n 48)) ∷
    when_or (o Lt (m (v "self") "val") (n 429496729)) (
    assign (m (v "self") "val") (o Add (o Mul (n 10) (m (v "self") "val")) (v "c")) ∷
    goto "next" ∷ []) (when (o Either (o Gt (m (v "self") "val") (n 429496729)) (o Gt (v "c") (n 5))) (
    assign (m (v "self") "point") (n 0) ∷
    leave (Some (v "too_large")) ∷ [])) ∷
    assign (m (v "self") "val") (o Add (o Mul (n 10) (m (v "self") "val")) (v "c")) ∷
    label "next" ∷
    empty ∷ [])) ∷ [])) ∷
    leave (Some (n 0)) ∷ []))

-- const char* wuffs_demo__parser__parse(wuffs_demo__parser* self, wuffs_base__io_buffer* a_src) {
--   const char* s;
--   if ((!self)) { return bad_receiver; }
--   if ((self->life == 0)) { return not_initialized; }
--   if ((self->life == 2)) { return disabled; }
--   if ((!a_src)) { self->life = 2; return bad_argument; }
--   s = parse_body(self, a_src);
--   if ((s && (s[0] == 35))) { self->life = 2; }
--   return s;
-- }
abbrev pub parse_item : ItemTree
parse_item = function_item External (Some text) (codes "wuffs_demo__parser__parse") (parameter (pointer_to "wuffs_demo__parser") "self" ∷ parameter (pointer_to "wuffs_base__io_buffer") "a_src" ∷ []) (local text "s" None ∷ []) (block (
    when (unary Not (v "self")) (leave (Some (v "bad_receiver")) ∷ []) ∷
    when (o Eq (m (v "self") "life") (n 0)) (leave (Some (v "not_initialized")) ∷ []) ∷
    when (o Eq (m (v "self") "life") (n 2)) (leave (Some (v "disabled")) ∷ []) ∷
    when (unary Not (v "a_src")) (
    assign (m (v "self") "life") (n 2) ∷
    leave (Some (v "bad_argument")) ∷ []) ∷
    call (Some (v "s")) (codes "parse_body") (expr_arg (v "self") (expr_arg (v "a_src") no_arg)) ∷
    when (o Both (v "s") (o Eq (element (v "s") (n 0)) (n 35))) (assign (m (v "self") "life") (n 2) ∷ []) ∷
    leave (Some (v "s")) ∷ []))

abbrev pub parser_text : List ItemTree
parser_text = io_buffer_item ∷ parser_item ∷ short_read_item ∷ bad_receiver_item ∷ bad_argument_item ∷ not_initialized_item ∷ disabled_item ∷ not_a_digit_item ∷ too_large_item ∷ initialize_item ∷ value_item ∷ parse_body_item ∷ parse_item ∷ []

-- Package `demo`: statuses `#not a digit` and `#too large`, `pub struct parser?(val : base.u32)`, `pub func
-- parser.value() base.u32` and `pub func parser.parse?(src: base.io_reader)`.
abbrev pub value_method : PublicMethod
value_method = record { number = 0; name = codes "value"; args = []; answers = kind.numeric 32 }

abbrev pub parse_method : PublicMethod
parse_method = record { number = 1; name = codes "parse"; args = record { name = codes "src"; kind = kind.reader } ∷ []; answers = kind.status }

abbrev pub parser_struct : PublicStruct
parser_struct = record { number = 0; name = codes "parser"; methods = value_method ∷ parse_method ∷ [] }

abbrev pub parser_surface : Surface
parser_surface = record { package_name = codes "demo"; statuses = base_statuses ++ (codes "#demo: not a digit" ∷ codes "#demo: too large" ∷ []); structs = parser_struct ∷ [] }

-- One receiver, and a null one.
abbrev pub parser_receivers : List Receiver
parser_receivers = record { struct_number = 0; null = false } ∷ record { struct_number = 0; null = true } ∷ []

abbrev pub Actions : Type 0
Actions = List (HostAction Buffer)

abbrev pub buffers : List ℕ → HostAction Buffer
buffers sizes = replace (map_empty sizes) []
  where
    map_empty : List ℕ → List Buffer
    map_empty [] = []
    map_empty (size ∷ others) = empty_buffer size ∷ map_empty others

abbrev pub parse : (receiver buffer : ℕ) → HostAction Buffer
parse receiver buffer = calls receiver 1 (io (Some buffer) ∷ []) 1000000

abbrev pub parse_null : (receiver : ℕ) → HostAction Buffer
parse_null receiver = calls receiver 1 (io None ∷ []) 1000000

abbrev pub value : (receiver : ℕ) → HostAction Buffer
value receiver = calls receiver 0 [] 1000000

-- `12`, and then `3` with the zero byte that ends a number, in a buffer of 16 bytes.
abbrev pub two_pieces : Actions
two_pieces = buffers (16 ∷ []) ∷ init 0 1000000 ∷ put 0 (49 ∷ 50 ∷ []) ∷ parse 0 0 ∷ put 0 (51 ∷ 0 ∷ []) ∷ parse 0 0 ∷ value 0 ∷ []

-- `123` and the zero byte, a byte at a time, in a buffer of one byte.
abbrev pub byte_by_byte : Actions
byte_by_byte = buffers (1 ∷ []) ∷ init 0 1000000 ∷ put 0 (49 ∷ []) ∷ parse 0 0 ∷ compact 0 ∷ put 0 (50 ∷ []) ∷ parse 0 0 ∷ compact 0 ∷ put 0 (51 ∷ []) ∷ parse 0 0 ∷ compact 0 ∷ put 0 (0 ∷ []) ∷ parse 0 0 ∷ compact 0 ∷ value 0 ∷ []

-- A null buffer, which disables the receiver, and a call of a disabled one.
abbrev pub null_buffer : Actions
null_buffer = buffers (4 ∷ []) ∷ init 0 1000000 ∷ parse_null 0 ∷ parse 0 0 ∷ []

-- A receiver that isn't initialized, and a null one.
abbrev pub raw_and_null : Actions
raw_and_null = buffers (4 ∷ []) ∷ parse 0 0 ∷ value 0 ∷ parse 1 0 ∷ value 1 ∷ init 1 1000000 ∷ []

-- 4294967296 and the zero byte: too large by one; then a call of a receiver that an error has disabled.
abbrev pub too_large : Actions
too_large = buffers (16 ∷ []) ∷ init 0 1000000 ∷ put 0 (52 ∷ 50 ∷ 57 ∷ 52 ∷ 57 ∷ 54 ∷ 55 ∷ 50 ∷ 57 ∷ 54 ∷ 0 ∷ []) ∷ parse 0 0 ∷ parse 0 0 ∷ value 0 ∷ init 0 1000000 ∷ value 0 ∷ []

-- `12` takes an entry and two ways back to the loop's head, so two turns don't do.
abbrev pub few_turns : (turns : ℕ) → Actions
few_turns turns = buffers (4 ∷ []) ∷ init 0 1000000 ∷ put 0 (49 ∷ 50 ∷ []) ∷ calls 0 1 (io (Some 0) ∷ []) turns ∷ []

-- What is seen where one open buffer is there.
abbrev pub seen_with : Answer → (written : List ℕ) → (ri wi pos : ℕ) → Seen
seen_with answer written ri wi pos = answered answer (record { written = written; ri = ri; wi = wi; pos = pos; closed = false } ∷ []) []

abbrev pub ok : Answer
ok = status []

abbrev pub short_read : Answer
short_read = status (codes "$base: short read")
