-- The text of the package `demo`, a parser of decimal numbers, as lowering gives it.
use Rattle.std.specs.Prelude.{List, [], ◌∷◌, Some, None, codes}
use Rattle.c_text.specs.declared.kinds.CNumber.TheVariants.{Int}
use Rattle.c_text.specs.declared.kinds.COp.TheVariants.{Add, Sub, Mul, Lt, Gt, Ge, Eq, Ne, Both, Either}
use Rattle.c_text.specs.declared.kinds.CUint.TheVariants.{U8, U16, U32}
use Rattle.c_text.specs.declared.kinds.CUnary.TheVariants.{Not}
use Rattle.c_text.specs.declared.kinds.Linkage.TheVariants.{External, Static}
use Rattle.c_text.specs.CTree.{uint, size, uint_pointer, text, element, unary, no_arg, expr_arg, sizeof_arg, Code, empty, assign, call, repeat, select, leave, case_label, ParamTree, ItemTree, function_item}
use Rattle.c_meaning.specs.TextWords.{v, n, m, o, block, when, when_or, goto, label, pointer_to, field, parameter, local, struct, string, io_buffer_item}

-- typedef struct { uint8_t life; uint32_t active; uint32_t f_val; uint16_t r_parse; uint8_t s_parse__c; } wuffs_demo__parser;
abbrev parser_item : ItemTree
parser_item =
    struct "wuffs_demo__parser" (field (uint U8) "life" ∷ field (uint U32) "active" ∷ field (uint U32) "f_val" ∷ field (uint U16) "r_parse" ∷ field (uint U8) "s_parse__c" ∷ [])

-- static const char status_1[] = "$base: short read"; and so on
abbrev status_items : List ItemTree
status_items =
    string "status_1" "$base: short read" ∷ string "status_4" "#base: bad receiver" ∷ string "status_5" "#base: bad argument" ∷ string "status_6" "#base: initialize not called" ∷ string "status_7" "#base: interleaved coroutine calls" ∷ string "status_8" "#base: disabled by previous error" ∷ string "status_10" "#demo: not a digit" ∷ string "status_11" "#demo: too large" ∷ []

abbrev self : ParamTree
self = parameter (pointer_to "wuffs_demo__parser") "self"

abbrev src : ParamTree
src = parameter (pointer_to "wuffs_base__io_buffer") "a_src"

-- const char* wuffs_demo__parser__initialize(wuffs_demo__parser* self) {
--   if ((!self)) { return status_4; }
--   memset(self, 0, sizeof(*self));
--   self->life = 1;
--   return 0;
-- }
abbrev initialize_item : ItemTree
initialize_item = function_item External (Some text) (codes "wuffs_demo__parser__initialize") (self ∷ []) [] (block (
    when (unary Not (v "self")) (leave (Some (v "status_4")) ∷ []) ∷
    call None (codes "memset") (expr_arg (v "self") (expr_arg (n 0) (sizeof_arg (codes "self") no_arg))) ∷
    assign (m (v "self") "life") (n 1) ∷
    leave (Some (n 0)) ∷ []))

-- static uint32_t body_parser__value(wuffs_demo__parser* self) {
--   return self->f_val;
-- }
abbrev value_body : ItemTree
value_body = function_item Static (Some (uint U32)) (codes "body_parser__value") (self ∷ []) [] (block (leave (Some (m (v "self") "f_val")) ∷ []))

-- uint32_t wuffs_demo__parser__value(wuffs_demo__parser* self) {
--   uint32_t got = 0;
--   if ((!self)) { return 0; }
--   if ((0 == self->life)) { return 0; }
--   got = body_parser__value(self);
--   return got;
-- }
abbrev value_entry : ItemTree
value_entry = function_item External (Some (uint U32)) (codes "wuffs_demo__parser__value") (self ∷ []) (local (uint U32) "got" (Some (n 0)) ∷ []) (block (
    when (unary Not (v "self")) (leave (Some (n 0)) ∷ []) ∷
    when (o Eq (n 0) (m (v "self") "life")) (leave (Some (n 0)) ∷ []) ∷
    call (Some (v "got")) (codes "body_parser__value") (expr_arg (v "self") no_arg) ∷
    leave (Some (v "got")) ∷ []))

-- a_src->ri = p_src; return e;
abbrev put_place : Code → Code
put_place = assign (m (v "a_src") "ri") (v "p_src")

-- static const char* body_parser__parse(wuffs_demo__parser* self, wuffs_base__io_buffer* a_src) {
--   size_t p_src = a_src->ri;
--   size_t e_src = a_src->wi;
--   uint8_t v_c = 0;
--   uint8_t* b_src = a_src->ptr;
--   uint16_t resume = self->r_parse;
--   self->r_parse = 0;
--   if (resume) { v_c = self->s_parse__c; }
--   switch (resume) {
--     case 0: ;
--     while (1) {
--       if (0) { case 1: ; }
--       if ((p_src >= e_src)) {
--         self->s_parse__c = v_c;
--         self->r_parse = 1;
--         a_src->ri = p_src;
--         return status_1;
--       }
--       p_src = (p_src + 1);
--       v_c = b_src[(p_src - 1)];
--       if ((0 == v_c)) { a_src->ri = p_src; return 0; }
--       if (((v_c < 48) || (57 < v_c))) { a_src->ri = p_src; return status_10; }
--       v_c = (v_c - 48);
--       if ((self->f_val < 429496729)) {
--         self->f_val = ((10 * self->f_val) + v_c);
--         goto again_12;
--       } else if (((self->f_val > 429496729) || (v_c > 5))) { a_src->ri = p_src; return status_11; }
--       self->f_val = ((10 * self->f_val) + v_c);
--       again_12: ;
--     }
--   }
--   a_src->ri = p_src;
--   return 0;
-- }
abbrev parse_body : ItemTree
parse_body = function_item Static (Some text) (codes "body_parser__parse") (self ∷ src ∷ []) (local size "p_src" (Some (m (v "a_src") "ri")) ∷ local size "e_src" (Some (m (v "a_src") "wi")) ∷ local (uint U8) "v_c" (Some (n 0)) ∷ local (uint_pointer U8) "b_src" (Some (m (v "a_src") "ptr")) ∷ local (uint U16) "resume" (Some (m (v "self") "r_parse")) ∷ []) (block (
    assign (m (v "self") "r_parse") (n 0) ∷
    when (v "resume") (assign (v "v_c") (m (v "self") "s_parse__c") ∷ []) ∷
    select (v "resume") (block (
    case_label (Int 0) ∷
    empty ∷
    repeat (n 1) (block (
    when (n 0) (case_label (Int 1) ∷ empty ∷ []) ∷
    when (o Ge (v "p_src") (v "e_src")) (
    assign (m (v "self") "s_parse__c") (v "v_c") ∷
    assign (m (v "self") "r_parse") (n 1) ∷
    put_place ∷
    leave (Some (v "status_1")) ∷ []) ∷
    assign (v "p_src") (o Add (v "p_src") (n 1)) ∷
    assign (v "v_c") (element (v "b_src") (o Sub (v "p_src") (n 1))) ∷
    when (o Eq (n 0) (v "v_c")) (put_place ∷ leave (Some (n 0)) ∷ []) ∷
    when (o Either (o Lt (v "v_c") (n 48)) (o Lt (n 57) (v "v_c"))) (put_place ∷ leave (Some (v "status_10")) ∷ []) ∷
    assign (v "v_c") (o Sub (v "v_c") (n 48)) ∷
    when_or (o Lt (m (v "self") "f_val") (n 429496729)) (
    assign (m (v "self") "f_val") (o Add (o Mul (n 10) (m (v "self") "f_val")) (v "v_c")) ∷
    goto "again_12" ∷ []) (
    when (o Either (o Gt (m (v "self") "f_val") (n 429496729)) (o Gt (v "v_c") (n 5))) (put_place ∷ leave (Some (v "status_11")) ∷ [])) ∷
    assign (m (v "self") "f_val") (o Add (o Mul (n 10) (m (v "self") "f_val")) (v "v_c")) ∷
    label "again_12" ∷
    empty ∷ [])) ∷ [])) ∷
    put_place ∷
    leave (Some (n 0)) ∷ []))

-- const char* wuffs_demo__parser__parse(wuffs_demo__parser* self, wuffs_base__io_buffer* a_src) {
--   const char* status = 0;
--   if ((!self)) { return status_4; }
--   if ((0 == self->life)) { return status_6; }
--   if ((2 == self->life)) { return status_8; }
--   if ((!a_src)) { self->life = 2; return status_5; }
--   if ((self->active && (self->active != 2))) { self->life = 2; return status_7; }
--   status = body_parser__parse(self, a_src);
--   self->active = 0;
--   if (status) {
--     if ((36 == status[0])) { self->active = 2; }
--     if ((35 == status[0])) { self->life = 2; }
--   }
--   return status;
-- }
abbrev parse_entry : ItemTree
parse_entry = function_item External (Some text) (codes "wuffs_demo__parser__parse") (self ∷ src ∷ []) (local text "status" (Some (n 0)) ∷ []) (block (
    when (unary Not (v "self")) (leave (Some (v "status_4")) ∷ []) ∷
    when (o Eq (n 0) (m (v "self") "life")) (leave (Some (v "status_6")) ∷ []) ∷
    when (o Eq (n 2) (m (v "self") "life")) (leave (Some (v "status_8")) ∷ []) ∷
    when (unary Not (v "a_src")) (assign (m (v "self") "life") (n 2) ∷ leave (Some (v "status_5")) ∷ []) ∷
    when (o Both (m (v "self") "active") (o Ne (m (v "self") "active") (n 2))) (assign (m (v "self") "life") (n 2) ∷ leave (Some (v "status_7")) ∷ []) ∷
    call (Some (v "status")) (codes "body_parser__parse") (expr_arg (v "self") (expr_arg (v "a_src") no_arg)) ∷
    assign (m (v "self") "active") (n 0) ∷
    when (v "status") (
    when (o Eq (n 36) (element (v "status") (n 0))) (assign (m (v "self") "active") (n 2) ∷ []) ∷
    when (o Eq (n 35) (element (v "status") (n 0))) (assign (m (v "self") "life") (n 2) ∷ []) ∷ []) ∷
    leave (Some (v "status")) ∷ []))

abbrev with_statuses : List ItemTree → List ItemTree → List ItemTree
with_statuses [] others = others
with_statuses (it ∷ its) others = it ∷ with_statuses its others

abbrev pub demo_text : List ItemTree
demo_text = io_buffer_item ∷ parser_item ∷ with_statuses status_items (initialize_item ∷ value_body ∷ value_entry ∷ parse_body ∷ parse_entry ∷ [])
