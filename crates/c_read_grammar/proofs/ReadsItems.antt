-- Every text of the grammar is read to its tree.
use Rattle.std.proofs.Common.{◌≡◌, ◌∙◌, ap, sym, ℕ, ◌<◌, true, false, None, Some, Option, IfSome, Bool, ◌||◌, List, [], ◌∷◌, ◌++◌, refl, append_assoc, append-nil, arith}
use Rattle.c_text.specs.declared.kinds.CNumber.{CNumber}
use Rattle.c_text.specs.declared.kinds.CUint.TheVariants.{U8, U16, U32, U64}
use Rattle.c_text.specs.declared.kinds.Linkage.{Linkage}
use Rattle.c_text.specs.declared.kinds.Linkage.TheVariants.{External, Static, StaticInline}
use Rattle.c_text.specs.declared.tokens.CMark.TheVariants as mark
use Rattle.c_text.specs.CSpelling.{CToken, named, marked}
use Rattle.c_text.specs.CGrammar.{expr_tokens, args_tokens, is_literal, is_lvalue, IsExpr, IsCode, code_tokens, type_tokens, field_kind_tokens, count_tokens, fields_tokens, more_params_tokens, params_tokens, initial_tokens, locals_tokens, linkage_tokens, result_tokens, item_tokens, unit_tokens, IsItem, IsUnit, AreLocals}
use Rattle.c_text.specs.CTree.{TypeTree, uint, uint_pointer, ExprTree, number, variable, member, element, Code, assign, call, FieldKind, plain, inside as inside_struct, FieldTree, ParamTree, LocalTree, ItemTree, struct_item, text_item, function_item}
use Rattle.c_read_grammar.specs.declared.symbols.StmtSym.TheVariants.{Stmts, Stmt}
use Rattle.c_read_grammar.specs.declared.symbols.ItemSym.TheVariants.{Unit, Params, Param, MoreParams, Body, LocalEnd, Field, FieldEnd, MoreFields}
use Rattle.c_read_grammar.specs.declared.symbols.TokenSym.TheVariants.{Name}
use Rattle.c_read_grammar.specs.declared.actions.Action.TheVariants as acts
use Rattle.c_read_grammar.specs.declared.actions.ItemAction.TheVariants.{StartFields, MakeField, MakeStructField, AddField, MakeStruct, MakeTextItem, StartParams, AddParam, StartLocals, AddLocal, AddInitialLocal, MakeFunction}
use Rattle.c_read_grammar.specs.declared.actions.Want.{Want}
use Rattle.c_read_grammar.specs.Machine.{stmt, item, token, do_item, function_wants}
use Rattle.c_read_grammar.specs.Values.{Val, a_name, an_expr, a_string, a_type, a_code, a_field, some_fields, a_result, some_params, some_locals, a_unit}
use Rattle.c_read_grammar.specs.Feeding.{reads, start}
use Rattle.c_read_grammar.proofs.Spine.{run, performs}
use Rattle.c_read_grammar.proofs.ReadsExpr.{open_paren, close_paren, close_bracket, awaits, reads-to, reads-expr}
use Rattle.c_read_grammar.proofs.ReadsCode.{open_brace, close_brace, semicolon, goes_on_tail, is_assign, first-stmt, reads-block}

-- Fields.
field-type : (t : TypeTree) (n : List ℕ) (ts : List CToken) (k : List Want) (vs : List Val)
    → run (type_tokens t (named n ∷ ts)) (item Field ∷ k) vs ≡ run ts (do_item MakeField ∷ item FieldEnd ∷ k) (a_name n ∷ a_type t ∷ vs)
field-type (uint U8) n ts k vs = refl
field-type (uint U16) n ts k vs = refl
field-type (uint U32) n ts k vs = refl
field-type (uint U64) n ts k vs = refl
field-type (uint_pointer U8) n ts k vs = refl
field-type (uint_pointer U16) n ts k vs = refl
field-type (uint_pointer U32) n ts k vs = refl
field-type (uint_pointer U64) n ts k vs = refl
field-type _ n ts k vs = refl

field-end : (kind : FieldKind) (n : List ℕ) (count : Option CNumber) (done : List FieldTree) (ts : List CToken) (k : List Want) (vs : List Val)
    → run (count_tokens count (semicolon ∷ ts)) (item FieldEnd ∷ k) (a_field (record { kind = kind; name = n; count = None }) ∷ some_fields done ∷ vs)
    ≡ run ts k (some_fields (done ++ record { kind = kind; name = n; count = count } ∷ []) ∷ vs)
field-end kind n None done ts k vs = performs ts (acts.Item AddField) k (a_field (record { kind = kind; name = n; count = None }) ∷ some_fields done ∷ vs)
field-end kind n (Some c) done ts k vs = performs ts (acts.Item AddField) k (a_field (record { kind = kind; name = n; count = Some c }) ∷ some_fields done ∷ vs)

field-kind : (kind : FieldKind) (n : List ℕ) (ts : List CToken) (k : List Want) (vs : List Val)
    → run (field_kind_tokens kind (named n ∷ ts)) (item Field ∷ k) vs ≡ run ts (item FieldEnd ∷ k) (a_field (record { kind = kind; name = n; count = None }) ∷ vs)
field-kind (plain t) n ts k vs = field-type t n ts k vs ∙ performs ts (acts.Item MakeField) (item FieldEnd ∷ k) (a_name n ∷ a_type t ∷ vs)
field-kind (inside_struct s) n ts k vs = performs ts (acts.Item MakeStructField) (item FieldEnd ∷ k) (a_name n ∷ a_name s ∷ vs)

reads-field : (f : FieldTree) (done : List FieldTree) (ts : List CToken) (k : List Want) (vs : List Val)
    → run (field_kind_tokens f.kind (named f.name ∷ count_tokens f.count (semicolon ∷ ts))) (item Field ∷ k) (some_fields done ∷ vs) ≡ run ts k (some_fields (done ++ f ∷ []) ∷ vs)
reads-field f done ts k vs =
    field-kind f.kind f.name (count_tokens f.count (semicolon ∷ ts)) k (some_fields done ∷ vs)
    ∙ field-end f.kind f.name f.count done ts k vs

more-type : (t : TypeTree) (ts : List CToken) (k : List Want) (vs : List Val)
    → run (type_tokens t ts) (item MoreFields ∷ k) vs ≡ run (type_tokens t ts) (item Field ∷ item MoreFields ∷ k) vs
more-type (uint U8) ts k vs = refl
more-type (uint U16) ts k vs = refl
more-type (uint U32) ts k vs = refl
more-type (uint U64) ts k vs = refl
more-type (uint_pointer U8) ts k vs = refl
more-type (uint_pointer U16) ts k vs = refl
more-type (uint_pointer U32) ts k vs = refl
more-type (uint_pointer U64) ts k vs = refl
more-type _ ts k vs = refl

more-kind : (kind : FieldKind) (ts : List CToken) (k : List Want) (vs : List Val)
    → run (field_kind_tokens kind ts) (item MoreFields ∷ k) vs ≡ run (field_kind_tokens kind ts) (item Field ∷ item MoreFields ∷ k) vs
more-kind (plain t) ts k vs = more-type t ts k vs
more-kind (inside_struct s) ts k vs = refl

reads-fields : (fs done : List FieldTree) (ts : List CToken) (k : List Want) (vs : List Val)
    → run (fields_tokens fs (close_brace ∷ ts)) (item MoreFields ∷ k) (some_fields done ∷ vs) ≡ run ts k (some_fields (done ++ fs) ∷ vs)
reads-fields [] done ts k vs = ap (λ x. run ts k (some_fields x ∷ vs)) (sym (append-nil done))
reads-fields (f ∷ fs) done ts k vs =
    let behind = fields_tokens fs (close_brace ∷ ts) in
    more-kind f.kind (named f.name ∷ count_tokens f.count (semicolon ∷ behind)) k (some_fields done ∷ vs)
    ∙ reads-field f done behind (item MoreFields ∷ k) vs
    ∙ reads-fields fs (done ++ f ∷ []) ts k vs
    ∙ ap (λ x. run ts k (some_fields x ∷ vs)) (append_assoc done (f ∷ []) fs)

reads-struct : (f : FieldTree) (fs : List FieldTree) (n : List ℕ) (done : List ItemTree) (ts : List CToken) (k : List Want) (vs : List Val)
    → run (item_tokens (struct_item (f ∷ fs) n) ts) (item Unit ∷ k) (a_unit done ∷ vs) ≡ run ts (item Unit ∷ k) (a_unit (done ++ struct_item (f ∷ fs) n ∷ []) ∷ vs)
reads-struct f fs n done ts k vs =
    let last = close_brace ∷ named n ∷ semicolon ∷ ts in
    let more = token Name ∷ awaits mark.Semicolon ∷ do_item MakeStruct ∷ item Unit ∷ k in
    performs (fields_tokens (f ∷ fs) last) (acts.Item StartFields) (item Field ∷ item MoreFields ∷ more) (a_unit done ∷ vs)
    ∙ reads-field f [] (fields_tokens fs last) (item MoreFields ∷ more) (a_unit done ∷ vs)
    ∙ reads-fields fs (f ∷ []) (named n ∷ semicolon ∷ ts) more (a_unit done ∷ vs)
    ∙ performs ts (acts.Item MakeStruct) (item Unit ∷ k) (a_name n ∷ some_fields (f ∷ fs) ∷ a_unit done ∷ vs)

-- Parameters.
param-type : (t : TypeTree) (n : List ℕ) (ts : List CToken) (k : List Want) (vs : List Val)
    → run (type_tokens t (named n ∷ ts)) (item Param ∷ k) vs ≡ run ts (do_item AddParam ∷ k) (a_name n ∷ a_type t ∷ vs)
param-type (uint U8) n ts k vs = refl
param-type (uint U16) n ts k vs = refl
param-type (uint U32) n ts k vs = refl
param-type (uint U64) n ts k vs = refl
param-type (uint_pointer U8) n ts k vs = refl
param-type (uint_pointer U16) n ts k vs = refl
param-type (uint_pointer U32) n ts k vs = refl
param-type (uint_pointer U64) n ts k vs = refl
param-type _ n ts k vs = refl

first-param : (t : TypeTree) (n : List ℕ) (ts : List CToken) (k : List Want) (vs : List Val)
    → run (type_tokens t (named n ∷ ts)) (item Params ∷ k) vs ≡ run ts (do_item AddParam ∷ item MoreParams ∷ k) (a_name n ∷ a_type t ∷ vs)
first-param (uint U8) n ts k vs = refl
first-param (uint U16) n ts k vs = refl
first-param (uint U32) n ts k vs = refl
first-param (uint U64) n ts k vs = refl
first-param (uint_pointer U8) n ts k vs = refl
first-param (uint_pointer U16) n ts k vs = refl
first-param (uint_pointer U32) n ts k vs = refl
first-param (uint_pointer U64) n ts k vs = refl
first-param _ n ts k vs = refl

reads-more_params : (ps done : List ParamTree) (ts : List CToken) (k : List Want) (vs : List Val)
    → run (more_params_tokens ps (close_paren ∷ ts)) (item MoreParams ∷ k) (some_params done ∷ vs) ≡ run ts k (some_params (done ++ ps) ∷ vs)
reads-more_params [] done ts k vs = ap (λ x. run ts k (some_params x ∷ vs)) (sym (append-nil done))
reads-more_params (p ∷ ps) done ts k vs =
    let behind = more_params_tokens ps (close_paren ∷ ts) in
    param-type p.kind p.name behind (item MoreParams ∷ k) (some_params done ∷ vs)
    ∙ performs behind (acts.Item AddParam) (item MoreParams ∷ k) (a_name p.name ∷ a_type p.kind ∷ some_params done ∷ vs)
    ∙ reads-more_params ps (done ++ p ∷ []) ts k vs
    ∙ ap (λ x. run ts k (some_params x ∷ vs)) (append_assoc done (p ∷ []) ps)

reads-params : (ps : List ParamTree) (ts : List CToken) (k : List Want) (vs : List Val)
    → run (params_tokens ps (close_paren ∷ ts)) (item Params ∷ k) (some_params [] ∷ vs) ≡ run ts k (some_params ps ∷ vs)
reads-params [] ts k vs = refl
reads-params (p ∷ ps) ts k vs =
    let behind = more_params_tokens ps (close_paren ∷ ts) in
    first-param p.kind p.name behind k (some_params [] ∷ vs)
    ∙ performs behind (acts.Item AddParam) (item MoreParams ∷ k) (a_name p.name ∷ a_type p.kind ∷ some_params [] ∷ vs)
    ∙ reads-more_params ps (p ∷ []) ts k vs

-- Locals, and the statements after them.
local-type : (t : TypeTree) (n : List ℕ) (ts : List CToken) (k : List Want) (vs : List Val)
    → run (type_tokens t (named n ∷ ts)) (item Body ∷ k) vs ≡ run ts (item LocalEnd ∷ item Body ∷ k) (a_name n ∷ a_type t ∷ vs)
local-type (uint U8) n ts k vs = refl
local-type (uint U16) n ts k vs = refl
local-type (uint U32) n ts k vs = refl
local-type (uint U64) n ts k vs = refl
local-type (uint_pointer U8) n ts k vs = refl
local-type (uint_pointer U16) n ts k vs = refl
local-type (uint_pointer U32) n ts k vs = refl
local-type (uint_pointer U64) n ts k vs = refl
local-type _ n ts k vs = refl

local-end : (t : TypeTree) (n : List ℕ) (initial : Option ExprTree) → IfSome initial IsExpr → (done : List LocalTree) (ts : List CToken) (k : List Want) (vs : List Val)
    → run (initial_tokens initial (semicolon ∷ ts)) (item LocalEnd ∷ k) (a_name n ∷ a_type t ∷ some_locals done ∷ vs)
    ≡ run ts k (some_locals (done ++ record { kind = t; name = n; initial = initial } ∷ []) ∷ vs)
local-end t n None l done ts k vs = performs ts (acts.Item AddLocal) k (a_name n ∷ a_type t ∷ some_locals done ∷ vs)
local-end t n (Some e) l done ts k vs =
    reads-to e (reads-expr e l) semicolon refl ts (awaits mark.Semicolon ∷ do_item AddInitialLocal ∷ k) (a_name n ∷ a_type t ∷ some_locals done ∷ vs)
    ∙ performs ts (acts.Item AddInitialLocal) k (an_expr e ∷ a_name n ∷ a_type t ∷ some_locals done ∷ vs)

-- what may follow the expression at the head of a statement
abbrev fits_body : CToken → Bool
fits_body t = goes_on_tail t || is_assign t

name-body : (t : CToken) → fits_body t ≡ true → (n : List ℕ) (ts : List CToken) (k : List Want) (vs : List Val)
    → run (named n ∷ t ∷ ts) (item Body ∷ k) vs ≡ run (named n ∷ t ∷ ts) (stmt Stmt ∷ stmt Stmts ∷ k) vs
name-body (marked mark.Arrow) h n ts k vs = refl
name-body (marked mark.OpenBracket) h n ts k vs = refl
name-body (marked mark.Assign) h n ts k vs = refl
name-body _ h n ts k vs = absurd (cc h)

spine-body : (e : ExprTree) → is_literal e ≡ false → IsExpr e → (t : CToken) → fits_body t ≡ true → (ts : List CToken) (k : List Want) (vs : List Val)
    → run (expr_tokens e (t ∷ ts)) (item Body ∷ k) vs ≡ run (expr_tokens e (t ∷ ts)) (stmt Stmt ∷ stmt Stmts ∷ k) vs
spine-body (number n) h l t w ts k vs = absurd (cc h)
spine-body (variable n) h l t w ts k vs = name-body t w n ts k vs
spine-body (member p f) h l t w ts k vs = spine-body p l.0 l.1 (marked mark.Arrow) refl (named f ∷ t ∷ ts) k vs
spine-body (element p i) h l t w ts k vs = spine-body p l.0 l.1 (marked mark.OpenBracket) refl (expr_tokens i (close_bracket ∷ t ∷ ts)) k vs
spine-body _ h l t w ts k vs = refl

lvalue-body : (e : ExprTree) → is_lvalue e ≡ true → is_literal e ≡ false
lvalue-body (number n) h = absurd (cc h)
lvalue-body _ h = refl

body-code : (c : Code) → IsCode c → (ts : List CToken) (k : List Want) (vs : List Val)
    → run (code_tokens c (close_brace ∷ ts)) (item Body ∷ k) vs ≡ run (code_tokens c (close_brace ∷ ts)) (stmt Stmts ∷ k) vs
body-code (assign target e rest) l ts k vs =
    spine-body target (lvalue-body target l.0.0) l.0.1 (marked mark.Assign) refl (expr_tokens e (semicolon ∷ code_tokens rest (close_brace ∷ ts))) k vs
    ∙ sym (first-stmt (assign target e rest) refl l (close_brace ∷ ts) k vs)
body-code (call (Some target) f args rest) l ts k vs =
    spine-body target (lvalue-body target l.0.0) l.0.1 (marked mark.Assign) refl (named f ∷ open_paren ∷ args_tokens args (close_paren ∷ semicolon ∷ code_tokens rest (close_brace ∷ ts))) k vs
    ∙ sym (first-stmt (call (Some target) f args rest) refl l (close_brace ∷ ts) k vs)
body-code _ l ts k vs = refl

reads-body : (ls : List LocalTree) (c : Code) → AreLocals ls → IsCode c → (done : List LocalTree) (ts : List CToken) (k : List Want) (vs : List Val)
    → run (locals_tokens ls (code_tokens c (close_brace ∷ ts))) (item Body ∷ k) (some_locals done ∷ vs) ≡ run ts k (a_code c ∷ some_locals (done ++ ls) ∷ vs)
reads-body [] c h l done ts k vs =
    body-code c l ts k (some_locals done ∷ vs)
    ∙ reads-block c l ts k (some_locals done ∷ vs) refl
    ∙ ap (λ x. run ts k (a_code c ∷ some_locals x ∷ vs)) (sym (append-nil done))
reads-body (x ∷ ls) c h l done ts k vs =
    let behind = locals_tokens ls (code_tokens c (close_brace ∷ ts)) in
    local-type x.kind x.name (initial_tokens x.initial (semicolon ∷ behind)) k (some_locals done ∷ vs)
    ∙ local-end x.kind x.name x.initial h.2 done behind (item Body ∷ k) vs
    ∙ reads-body ls c h.3 l (done ++ x ∷ []) ts k vs
    ∙ ap (λ y. run ts k (a_code c ∷ some_locals y ∷ vs)) (append_assoc done (x ∷ []) ls)

-- The head of a function.
head-type : (l : Linkage) (t : TypeTree) (n : List ℕ) (ts : List CToken) (k : List Want) (vs : List Val)
    → run (linkage_tokens l (type_tokens t (named n ∷ ts))) (item Unit ∷ k) vs ≡ run (named n ∷ ts) (function_wants ++ item Unit ∷ k) (a_result l (Some t) ∷ vs)
head-type External (uint U8) n ts k vs = refl
head-type External (uint U16) n ts k vs = refl
head-type External (uint U32) n ts k vs = refl
head-type External (uint U64) n ts k vs = refl
head-type External (uint_pointer U8) n ts k vs = refl
head-type External (uint_pointer U16) n ts k vs = refl
head-type External (uint_pointer U32) n ts k vs = refl
head-type External (uint_pointer U64) n ts k vs = refl
head-type External _ n ts k vs = refl
head-type Static (uint U8) n ts k vs = refl
head-type Static (uint U16) n ts k vs = refl
head-type Static (uint U32) n ts k vs = refl
head-type Static (uint U64) n ts k vs = refl
head-type Static (uint_pointer U8) n ts k vs = refl
head-type Static (uint_pointer U16) n ts k vs = refl
head-type Static (uint_pointer U32) n ts k vs = refl
head-type Static (uint_pointer U64) n ts k vs = refl
head-type Static _ n ts k vs = refl
head-type StaticInline (uint U8) n ts k vs = refl
head-type StaticInline (uint U16) n ts k vs = refl
head-type StaticInline (uint U32) n ts k vs = refl
head-type StaticInline (uint U64) n ts k vs = refl
head-type StaticInline (uint_pointer U8) n ts k vs = refl
head-type StaticInline (uint_pointer U16) n ts k vs = refl
head-type StaticInline (uint_pointer U32) n ts k vs = refl
head-type StaticInline (uint_pointer U64) n ts k vs = refl
head-type StaticInline _ n ts k vs = refl

reads-head : (l : Linkage) (r : Option TypeTree) (n : List ℕ) (ts : List CToken) (k : List Want) (vs : List Val)
    → run (linkage_tokens l (result_tokens r (named n ∷ ts))) (item Unit ∷ k) vs ≡ run (named n ∷ ts) (function_wants ++ item Unit ∷ k) (a_result l r ∷ vs)
reads-head External None n ts k vs = refl
reads-head Static None n ts k vs = refl
reads-head StaticInline None n ts k vs = refl
reads-head l (Some t) n ts k vs = head-type l t n ts k vs

reads-function : (l : Linkage) (r : Option TypeTree) (n : List ℕ) (ps : List ParamTree) (ls : List LocalTree) (c : Code) → AreLocals ls → IsCode c → (done : List ItemTree) (ts : List CToken) (k : List Want) (vs : List Val)
    → run (item_tokens (function_item l r n ps ls c) ts) (item Unit ∷ k) (a_unit done ∷ vs) ≡ run ts (item Unit ∷ k) (a_unit (done ++ function_item l r n ps ls c ∷ []) ∷ vs)
reads-function l r n ps ls c hl hc done ts k vs =
    let body = locals_tokens ls (code_tokens c (close_brace ∷ ts)) in
    let params = params_tokens ps (close_paren ∷ open_brace ∷ body) in
    let later = do_item StartLocals ∷ item Body ∷ do_item MakeFunction ∷ item Unit ∷ k in
    let vals = a_name n ∷ a_result l r ∷ a_unit done ∷ vs in
    reads-head l r n (open_paren ∷ params) k (a_unit done ∷ vs)
    ∙ performs params (acts.Item StartParams) (item Params ∷ awaits mark.OpenBrace ∷ later) vals
    ∙ reads-params ps (open_brace ∷ body) (awaits mark.OpenBrace ∷ later) vals
    ∙ performs body (acts.Item StartLocals) (item Body ∷ do_item MakeFunction ∷ item Unit ∷ k) (some_params ps ∷ vals)
    ∙ reads-body ls c hl hc [] ts (do_item MakeFunction ∷ item Unit ∷ k) (some_params ps ∷ vals)
    ∙ performs ts (acts.Item MakeFunction) (item Unit ∷ k) (a_code c ∷ some_locals ls ∷ some_params ps ∷ vals)

-- Items.
no_field : 0 < 0 → ⊥
no_field h = grind (arith, h)

reads-item : (i : ItemTree) → IsItem i → (done : List ItemTree) (ts : List CToken) (k : List Want) (vs : List Val)
    → run (item_tokens i ts) (item Unit ∷ k) (a_unit done ∷ vs) ≡ run ts (item Unit ∷ k) (a_unit (done ++ i ∷ []) ∷ vs)
reads-item (struct_item [] n) l done ts k vs = absurd (no_field l.0)
reads-item (struct_item (f ∷ fs) n) l done ts k vs = reads-struct f fs n done ts k vs
reads-item (text_item n bytes) l done ts k vs = performs ts (acts.Item MakeTextItem) (item Unit ∷ k) (a_string bytes ∷ a_name n ∷ a_unit done ∷ vs)
reads-item (function_item linkage r n ps ls c) l done ts k vs = reads-function linkage r n ps ls c l.3 l.4 done ts k vs

reads-items : (u : List ItemTree) → IsUnit u → (done : List ItemTree) → run (unit_tokens u) (item Unit ∷ []) (a_unit done ∷ []) ≡ Some (a_unit (done ++ u) ∷ [])
reads-items [] l done = ap (λ x. Some (a_unit x ∷ [])) (sym (append-nil done))
reads-items (i ∷ u) l done =
    reads-item i l.0 done (unit_tokens u) [] []
    ∙ reads-items u l.1 (done ++ i ∷ [])
    ∙ ap (λ x. Some (a_unit x ∷ [])) (append_assoc done (i ∷ []) u)

-- Every text of the grammar is read to its tree.
pub reads-unit : (u : List ItemTree) → IsUnit u → reads (unit_tokens u) start ≡ Some (a_unit u ∷ [])
reads-unit u l = reads-items u l []
