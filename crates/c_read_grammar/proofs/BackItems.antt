-- What a symbol's move wants completes the symbol after the token that was read: items.
use Rattle.std.proofs.Common.{◌≡◌, ◌<◌, length, None, Some, List, [], ◌∷◌, refl, arith}
use Rattle.c_text.specs.declared.kinds.COp.TheVariants as op
use Rattle.c_text.specs.declared.kinds.Linkage.{Linkage}
use Rattle.c_text.specs.declared.kinds.Linkage.TheVariants.{External, Static}
use Rattle.c_text.specs.declared.tokens.CWord.{CWord}
use Rattle.c_text.specs.declared.tokens.CWord.TheVariants as word
use Rattle.c_text.specs.declared.tokens.CMark.TheVariants as mark
use Rattle.c_text.specs.CSpelling.{CToken, keyword, named, operator, marked}
use Rattle.c_text.specs.CGrammar.{type_tokens, linkage_tokens, IsType}
use Rattle.c_text.specs.CTree.{TypeTree, struct_pointer, text, plain, inside, FieldTree, struct_item, text_item, function_item}
use Rattle.c_read_grammar.specs.declared.symbols.StmtSym.TheVariants.{Stmts, StmtName}
use Rattle.c_read_grammar.specs.declared.symbols.ItemSym.TheVariants.{Unit, StaticItem, Returns, ConstChar, Params, Param, MoreParams, Body, BodyName, LocalEnd, Field, FieldName, FieldEnd, MoreFields}
use Rattle.c_read_grammar.specs.declared.symbols.TokenSym.TheVariants.{Name}
use Rattle.c_read_grammar.specs.declared.actions.ItemAction.TheVariants.{MakeResult, AddParam, MakeField}
use Rattle.c_read_grammar.specs.Machine as m
use Rattle.c_read_grammar.specs.Machine.{followed, stmt, item, token, do_item, function_wants, local_wants}
use Rattle.c_read_grammar.specs.Texts.{IsToken}
use Rattle.c_read_grammar.proofs.ReadsCode.{close_brace}
use Rattle.c_read_grammar.proofs.Words.{TypeWord, StmtWord, ItemWord', BodyWord, FieldWord, ItemWord, MakesStmt, Words}
use Rattle.c_read_grammar.proofs.BackExpr.{Back, back-followed, back-word_type, back-type}
use Rattle.c_read_grammar.proofs.BackCode.{back-stmt, back-stmts, back-stmt_name, then-stmts}

-- A function after its linkage and result type.
function-void : (l : Linkage) (ts rest : List CToken) → Words function_wants ts rest → ItemWord' (linkage_tokens l (keyword word.Void ∷ ts)) rest
function-void l ts rest d =
    let ps = d.2.2.1 in
    let body = d.2.2.2.2.1 in
    (function_item l None d.1.0 ps.0 body.0 body.1, (tt, d.1.1, ps.1, body.2, body.3), cc (d.1.2, d.2.1, ps.2, d.2.2.2.1, body.4, d.2.2.2.2.2))

function-type : (l : Linkage) (t : TypeTree) → IsType t → (front ts rest : List CToken) → front ≡ type_tokens t ts → Words function_wants ts rest → ItemWord' (linkage_tokens l front) rest
function-type l t lt front ts rest h d =
    let ps = d.2.2.1 in
    let body = d.2.2.2.2.1 in
    (function_item l (Some t) d.1.0 ps.0 body.0 body.1, (lt, d.1.1, ps.1, body.2, body.3), cc (h, d.1.2, d.2.1, ps.2, d.2.2.2.1, body.4, d.2.2.2.2.2))

pub back-returns : (l : Linkage) (t : CToken) → IsToken t → Back (ItemWord (Returns l)) (m.returns_move l t) t
back-returns l (keyword word.Void) h = λ ts rest d. function-void l ts rest d
back-returns l t h = back-followed TypeWord (ItemWord (Returns l)) (m.type_move t) t (do_item (MakeResult l) ∷ function_wants) (back-type t h)
    (λ ts mid rest w d. function-type l w.0 w.1 (t ∷ ts) mid rest w.2 d)

-- an item, and those after it
then-items : (front mid rest : List CToken) → ItemWord' front mid → Words (item Unit ∷ []) mid rest → ItemWord Unit front rest
then-items front mid rest w d = (w.0 ∷ d.1.0, (w.1, d.1.1), cc (w.2, d.1.2, d.2))

one_field : (f : FieldTree) (fs : List FieldTree) → 0 < length (f ∷ fs)
one_field f fs = grind (arith)

pub back-unit : (t : CToken) → IsToken t → Back (ItemWord Unit) (m.unit_move t) t
back-unit (keyword word.Typedef) l = λ ts rest d.
    let f = d.2.2.1 in
    let fs = d.2.2.2.1 in
    let n = d.2.2.2.2.1 in
    let u = d.2.2.2.2.2.2.1 in
    (struct_item (f.0 ∷ fs.0) n.0 ∷ u.0, ((one_field f.0 fs.0, (f.1.0, f.1.1, f.1.2, fs.1), n.1), u.1), cc (d.1, d.2.1, f.2, fs.2, n.2, d.2.2.2.2.2.1, u.2, d.2.2.2.2.2.2.2))
back-unit (keyword word.Static) l = λ ts rest d. then-items (keyword word.Static ∷ ts) d.0 rest d.1 d.2
back-unit t l = back-followed (ItemWord (Returns External)) (ItemWord Unit) (m.returns_move External t) t (item Unit ∷ []) (back-returns External t l)
    (λ ts mid rest w d. then-items (t ∷ ts) mid rest w d)

pub back-static_item : (t : CToken) → IsToken t → Back (ItemWord StaticItem) (m.static_item_move t) t
back-static_item (keyword word.Const) l = λ ts rest d. let w = d.2.1 in (w.0, w.1, cc (d.1, w.2, d.2.2))
back-static_item (keyword word.Inline) l = λ ts rest d. let w = d.1 in (w.0, w.1, cc (w.2, d.2))
back-static_item t l = back-returns Static t l

pub back-const_char : (t : CToken) → IsToken t → Back (ItemWord ConstChar) (m.const_char_move t) t
back-const_char (named n) l = λ ts rest d. (text_item n d.2.2.2.1.0, (l, d.2.2.2.1.1), cc (d.1, d.2.1, d.2.2.1, d.2.2.2.1.2, d.2.2.2.2.1, d.2.2.2.2.2))
back-const_char (operator op.Mul) l = λ ts rest d. function-type Static text tt (keyword word.Const ∷ keyword word.Char ∷ operator op.Mul ∷ ts) ts rest refl d
back-const_char _ l = tt

pub back-param : (t : CToken) → IsToken t → Back (ItemWord Param) (m.param_move t) t
back-param t l = back-followed TypeWord (ItemWord Param) (m.type_move t) t (token Name ∷ do_item AddParam ∷ []) (back-type t l)
    (λ ts mid rest w d. (record { kind = w.0; name = d.1.0 }, (w.1, d.1.1, tt), cc (w.2, d.1.2, d.2)))

pub back-params : (t : CToken) → IsToken t → Back (ItemWord Params) (m.params_move t) t
back-params (keyword word.Void) l = λ ts rest d. ([], tt, cc (d.1, d.2))
back-params t l = back-followed (ItemWord Param) (ItemWord Params) (m.param_move t) t (item MoreParams ∷ []) (back-param t l)
    (λ ts mid rest w d. (w.0 ∷ d.1.0, (w.1.0, w.1.1, d.1.1), cc (w.2, d.1.2, d.2)))

pub back-more_params : (t : CToken) → Back (ItemWord MoreParams) (m.more_params_move t) t
back-more_params (marked mark.Comma) = λ ts rest d. (d.1.0 ∷ d.2.1.0, (d.1.1.0, d.1.1.1, d.2.1.1), cc (d.1.2, d.2.1.2, d.2.2))
back-more_params (marked mark.CloseParen) = λ ts rest d. ([], tt, cc d)
back-more_params _ = tt

-- a local, and the locals and statements after it
then-body : (t : TypeTree) → IsType t → (front ts rest : List CToken) → front ≡ type_tokens t ts → Words local_wants ts rest → BodyWord front rest
then-body t lt front ts rest h d =
    let x = d.2.1 in
    let b = d.2.2.1 in
    (record { kind = t; name = d.1.0; initial = x.0 } ∷ b.0, b.1, (lt, d.1.1, x.1, b.2), b.3, cc (h, d.1.2, x.2, b.4, d.2.2.2))

-- statements with no local before them
no-local : (ts rest : List CToken) → StmtWord Stmts ts rest → BodyWord ts rest
no-local ts rest w = ([], w.0, tt, w.1, w.2)

back-typed : (w : CWord) → Back BodyWord (followed (m.word_type_move w) local_wants) (keyword w)
back-typed w = back-followed TypeWord BodyWord (m.word_type_move w) (keyword w) local_wants (back-word_type w)
    (λ ts mid rest x d. then-body x.0 x.1 (keyword w ∷ ts) mid rest x.2 d)

back-first_stmt : (t : CToken) → IsToken t → Back BodyWord (followed (m.stmt_move t) (stmt Stmts ∷ [])) t
back-first_stmt t l = back-followed MakesStmt BodyWord (m.stmt_move t) t (stmt Stmts ∷ []) (back-stmt t l)
    (λ ts mid rest w d. no-local (t ∷ ts) rest (then-stmts (t ∷ ts) mid rest w d))

back-word_body : (w : CWord) → Back BodyWord (m.word_body_move w) (keyword w)
back-word_body word.Uint8 = back-typed word.Uint8
back-word_body word.Uint16 = back-typed word.Uint16
back-word_body word.Uint32 = back-typed word.Uint32
back-word_body word.Uint64 = back-typed word.Uint64
back-word_body word.SizeT = back-typed word.SizeT
back-word_body word.Bool = back-typed word.Bool
back-word_body word.Const = back-typed word.Const
back-word_body w = back-first_stmt (keyword w) tt

pub back-body : (t : CToken) → IsToken t → Back (ItemWord Body) (m.body_move t) t
back-body (keyword w) l = back-word_body w
back-body (named n) l = λ ts rest d. let w = d.1 n l in (w.0, w.1, w.2, w.3, cc (w.4, d.2))
back-body (marked mark.CloseBrace) l = λ ts rest d. no-local (close_brace ∷ ts) rest (back-stmts close_brace tt ts rest d)
back-body t l = back-first_stmt t l

pub back-body_name : (t : CToken) → Back (ItemWord BodyName) (m.body_name_move t) t
back-body_name (operator op.Mul) = λ ts rest d. λ n ln. then-body (struct_pointer n) ln (named n ∷ operator op.Mul ∷ ts) ts rest refl d
back-body_name t = back-followed (StmtWord StmtName) (ItemWord BodyName) (m.stmt_name_move t) t (stmt Stmts ∷ []) (back-stmt_name t)
    (λ ts mid rest w d. λ n ln. no-local (named n ∷ t ∷ ts) rest (then-stmts (named n ∷ t ∷ ts) mid rest (w n ln) d))

pub back-local_end : (t : CToken) → Back (ItemWord LocalEnd) (m.local_end_move t) t
back-local_end (marked mark.Semicolon) = λ ts rest d. (None, tt, cc d)
back-local_end (marked mark.Assign) = λ ts rest d. (Some d.1.0, d.1.1, cc (d.1.2, d.2.1, d.2.2))
back-local_end _ = tt

-- Fields.
a-field : (t : TypeTree) → IsType t → (front ts rest : List CToken) → front ≡ type_tokens t ts → Words (token Name ∷ item FieldEnd ∷ []) ts rest → FieldWord front rest
a-field t lt front ts rest h d = (record { kind = plain t; name = d.1.0; count = d.2.1.0 }, (lt, d.1.1, d.2.1.1, tt), cc (h, d.1.2, d.2.1.2, d.2.2))

pub back-field : (t : CToken) → IsToken t → Back (ItemWord Field) (m.field_move t) t
back-field (keyword w) l = back-followed TypeWord FieldWord (m.word_type_move w) (keyword w) (token Name ∷ do_item MakeField ∷ item FieldEnd ∷ []) (back-word_type w)
    (λ ts mid rest x d. a-field x.0 x.1 (keyword w ∷ ts) mid rest x.2 d)
back-field (named n) l = λ ts rest d. let w = d.1 n l in (w.0, w.1, cc (w.2, d.2))
back-field _ l = tt

pub back-field_name : (t : CToken) → IsToken t → Back (ItemWord FieldName) (m.field_name_move t) t
back-field_name (operator op.Mul) l = λ ts rest d. λ n ln. a-field (struct_pointer n) ln (named n ∷ operator op.Mul ∷ ts) ts rest refl d
back-field_name (named f) l = λ ts rest d. λ n ln. (record { kind = inside n; name = f; count = d.1.0 }, (ln, l, d.1.1, tt), cc (d.1.2, d.2))
back-field_name _ l = tt

pub back-field_end : (t : CToken) → Back (ItemWord FieldEnd) (m.field_end_move t) t
back-field_end (marked mark.Semicolon) = λ ts rest d. (None, tt, cc d)
back-field_end (marked mark.OpenBracket) = λ ts rest d. (Some d.1.0, d.1.1, cc (d.1.2, d.2.1, d.2.2.1, d.2.2.2))
back-field_end _ = tt

pub back-more_fields : (t : CToken) → IsToken t → Back (ItemWord MoreFields) (m.more_fields_move t) t
back-more_fields (marked mark.CloseBrace) l = λ ts rest d. ([], tt, cc d)
back-more_fields t l = back-followed (ItemWord Field) (ItemWord MoreFields) (m.field_move t) t (item MoreFields ∷ []) (back-field t l)
    (λ ts mid rest w d. (w.0 ∷ d.1.0, (w.1.0, w.1.1, w.1.2, d.1.1), cc (w.2, d.1.2, d.2)))
