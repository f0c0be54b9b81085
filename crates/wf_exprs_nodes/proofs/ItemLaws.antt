-- The items of a unit while it grows.
use Rattle.std.proofs.Common.{◌≡◌, ◌<◌, ℕ, suc, Result, Ok, Err, IfOk, OnErr, Option, None, Some, List, [], ◌∷◌, ◌++◌, length, map, refl, sym, ◌∙◌, ap, subst, arith, length-append, inl, inr}
use Rattle.std.specs.Prelude.{slice_get, IfSome, option_map}
use Rattle.wf_text.specs.declared.faults.NoMemory.{NoMemory}
use Rattle.c_text.specs.declared.ids.CExprId.{CExprId}
use Rattle.c_text.specs.declared.ids.CStmtId.{CStmtId}
use Rattle.c_text.specs.declared.ids.CItemId.{CItemId}
use Rattle.c_text.specs.declared.nodes.CType.{CType}
use Rattle.c_text.specs.declared.nodes.CType.TheVariants as type
use Rattle.c_text.specs.declared.nodes.CFieldType.{CFieldType}
use Rattle.c_text.specs.declared.nodes.CFieldType.TheVariants as held
use Rattle.c_text.specs.declared.nodes.CField.{CField}
use Rattle.c_text.specs.declared.nodes.CParam.{CParam}
use Rattle.c_text.specs.declared.nodes.CLocal.{CLocal}
use Rattle.c_text.specs.declared.nodes.CStmt.{CStmt}
use Rattle.c_text.specs.declared.nodes.CItem.{CItem}
use Rattle.c_text.specs.declared.nodes.CItem.TheVariants as item
use Rattle.c_text.specs.CFits.{HasType, HasFieldType, HasFields, HasParams, HasLocals, FitsItem}
use Rattle.c_text.specs.CNodes.{Nodes, bytes_at, type_in, expr_of, code_of, made_code, value_in, field_kind, field_tree, param_tree, local_tree, made_item, unit_tree}
use Rattle.c_text.specs.CUnit.{IsSound, SharesStmt}
use Rattle.c_text.specs.CTree.{TypeTree, struct_pointer, ExprTree, Code, FieldKind, plain, inside, FieldTree, ParamTree, LocalTree, ItemTree, struct_item, text_item, function_item}
use Rattle.wf_exprs.specs.Grown.{Grows, HasCode}
use Rattle.wf_exprs.proofs.Growing.{grown_stmt, unchanged}
use Rattle.wf_exprs_nodes.specs.Growth.{GrowsBy}

abbrev field_of : FieldKind → List ℕ → CField → FieldTree
field_of kind name f = record { kind = kind; name = name; count = f.count }

abbrev param_of : TypeTree → List ℕ → ParamTree
param_of kind name = record { kind = kind; name = name }

abbrev local_of : TypeTree → List ℕ → Option ExprTree → LocalTree
local_of kind name initial = record { kind = kind; name = name; initial = initial }

-- Items keep their trees.
module _ (old new : Nodes) (g : Grows old new) where
  type_kept : (t : CType) → HasType old t → type_in new.names t ≡ type_in old.names t
  type_kept (type.Uint u) h = refl
  type_kept type.Size h = refl
  type_kept type.Bool h = refl
  type_kept (type.UintPointer u) h = refl
  type_kept (type.StructPointer n) h = ap struct_pointer (g.names n.0 h)
  type_kept type.Text h = refl

  kind_kept : (k : CFieldType) → HasFieldType old k → field_kind new.names k ≡ field_kind old.names k
  kind_kept (held.Plain t) h = ap plain (type_kept t h)
  kind_kept (held.Struct n) h = ap inside (g.names n.0 h)

  fields_kept : (fs : List CField) → HasFields old fs → map (field_tree new.names) fs ≡ map (field_tree old.names) fs
  fields_kept [] h = refl
  fields_kept (f ∷ fs) h =
      let one : field_tree new.names f ≡ field_tree old.names f = ap (λ k. field_of k (bytes_at new.names f.name.0) f) (kind_kept f.kind h.0.0) ∙ ap (λ n. field_of (field_kind old.names f.kind) n f) (g.names f.name.0 h.0.1) in
      ap (λ x. x ∷ map (field_tree new.names) fs) one ∙ ap (λ xs. field_tree old.names f ∷ xs) (fields_kept fs h.1)

  pub params_kept : (ps : List CParam) → HasParams old ps → map (param_tree new.names) ps ≡ map (param_tree old.names) ps
  params_kept [] h = refl
  params_kept (p ∷ ps) h =
      let one : param_tree new.names p ≡ param_tree old.names p = ap (λ k. param_of k (bytes_at new.names p.name.0)) (type_kept p.kind h.0.0) ∙ ap (param_of (type_in old.names p.kind)) (g.names p.name.0 h.0.1) in
      ap (λ x. x ∷ map (param_tree new.names) ps) one ∙ ap (λ xs. param_tree old.names p ∷ xs) (params_kept ps h.1)

  initial_kept : (e : Option CExprId) → IfSome e (λ x. x.0 < length old.exprs) → value_in (expr_of new) e ≡ value_in (expr_of old) e
  initial_kept None h = refl
  initial_kept (Some e) h = ap Some (g.exprs e.0 h)

  locals_kept : (ls : List CLocal) → HasLocals old ls → map (local_tree new.names (expr_of new)) ls ≡ map (local_tree old.names (expr_of old)) ls
  locals_kept [] h = refl
  locals_kept (l ∷ ls) h =
      let one : local_tree new.names (expr_of new) l ≡ local_tree old.names (expr_of old) l =
      ap (λ k. local_of k (bytes_at new.names l.name.0) (value_in (expr_of new) l.initial)) (type_kept l.kind h.0.0)
      ∙ ap (λ n. local_of (type_in old.names l.kind) n (value_in (expr_of new) l.initial)) (g.names l.name.0 h.0.1)
      ∙ ap (local_of (type_in old.names l.kind) (bytes_at old.names l.name.0)) (initial_kept l.initial h.0.2) in
      ap (λ x. x ∷ map (local_tree new.names (expr_of new)) ls) one ∙ ap (λ xs. local_tree old.names (expr_of old) l ∷ xs) (locals_kept ls h.1)

  result_kept : (t : Option CType) → IfSome t (HasType old) → option_map (type_in new.names) t ≡ option_map (type_in old.names) t
  result_kept None h = refl
  result_kept (Some t) h = ap Some (type_kept t h)

  item_kept : (x : CItem) → FitsItem old x → made_item new x ≡ made_item old x
  item_kept (item.Struct fields n) h = ap (λ fs. struct_item fs (bytes_at new.names n.0)) (fields_kept fields h.1) ∙ ap (struct_item (map (field_tree old.names) fields)) (g.names n.0 h.2)
  item_kept (item.Text n s) h = ap (λ name. text_item name (bytes_at new.strings s.0)) (g.names n.0 h.0) ∙ ap (λ (ss : List (List ℕ)). text_item (bytes_at old.names n.0) (bytes_at ss s.0)) g.strings
  item_kept (item.Function linkage result n params locals body) h =
      ap (λ t. function_item linkage t (bytes_at new.names n.0) (map (param_tree new.names) params) (map (local_tree new.names (expr_of new)) locals) (code_of new body.0)) (result_kept result h.0)
      ∙ ap (λ name. function_item linkage (option_map (type_in old.names) result) name (map (param_tree new.names) params) (map (local_tree new.names (expr_of new)) locals) (code_of new body.0)) (g.names n.0 h.1)
      ∙ ap (λ ps. function_item linkage (option_map (type_in old.names) result) (bytes_at old.names n.0) ps (map (local_tree new.names (expr_of new)) locals) (code_of new body.0)) (params_kept params h.2)
      ∙ ap (λ ls. function_item linkage (option_map (type_in old.names) result) (bytes_at old.names n.0) (map (param_tree old.names) params) ls (code_of new body.0)) (locals_kept locals h.3)
      ∙ ap (function_item linkage (option_map (type_in old.names) result) (bytes_at old.names n.0) (map (param_tree old.names) params) (map (local_tree old.names (expr_of old)) locals)) (g.stmts body.0 h.4)

  items_kept : (xs : List CItem) → ((i : ℕ) (x : CItem) → slice_get xs i ≡ Some x → FitsItem old x) → map (made_item new) xs ≡ map (made_item old) xs
  items_kept [] h = refl
  items_kept (x ∷ xs) h = ap (λ t. t ∷ map (made_item new) xs) (item_kept x (h 0 x refl)) ∙ ap (λ ts. made_item old x ∷ ts) (items_kept xs (λ i y is. h (suc i) y is))

  pub unit_kept : IsSound old → unit_tree new ≡ unit_tree old
  unfolding unit_tree
  unit_kept sound = ap (map (made_item new)) g.items ∙ items_kept old.items sound.items

-- Names, expressions and statements first, then items.
pub by_after : (a b c : Nodes) (items : List ItemTree) → IsSound a → Grows a b → GrowsBy items b c → GrowsBy items a c
by_after a b c items sound g h = record {
  more_names = λ n k. h.more_names n (g.more_names n k);
  more_exprs = λ e k. h.more_exprs e (g.more_exprs e k);
  more_stmts = λ s k. h.more_stmts s (g.more_stmts s k);
  names = λ n k. h.names n (g.more_names n k) ∙ g.names n k;
  exprs = λ e k. h.exprs e (g.more_exprs e k) ∙ g.exprs e k;
  stmts = λ s k. h.stmts s (g.more_stmts s k) ∙ g.stmts s k;
  items = h.items ∙ ap (λ ts. ts ++ items) (unit_kept a b g sound);
}

pub by_as : (a b : Nodes) (it other : ItemTree) → it ≡ other → GrowsBy (it ∷ []) a b → GrowsBy (other ∷ []) a b
by_as a b it other same h = subst (λ (x : ItemTree). GrowsBy (x ∷ []) a b) same h

-- One more item.
abbrev pub AddsItem : (old new : Nodes) → CItem → CItemId → Type 0
AddsItem old new x id = (id.0 ≡ length old.items) × (new ≡ record old { items = old.items ++ x ∷ [] }) × (unit_tree new ≡ unit_tree old ++ made_item old x ∷ [])

with_item : (old : Nodes) (x : CItem) → unit_tree (record old { items = old.items ++ x ∷ [] }) ≡ unit_tree old ++ made_item old x ∷ [] → GrowsBy (made_item old x ∷ []) old (record old { items = old.items ++ x ∷ [] })
unfolding expr_of code_of
with_item old x h = record { more_names = λ n k. k; more_exprs = λ e k. k; more_stmts = λ s k. k; names = λ n k. refl; exprs = λ e k. refl; stmts = λ s k. refl; items = h }

pub adds_item : (old new : Nodes) (x : CItem) (id : CItemId) → AddsItem old new x id → GrowsBy (made_item old x ∷ []) old new
adds_item old new x id h =
    let same : record old { items = old.items ++ x ∷ [] } ≡ new = sym h.1 in
    subst (λ (n : Nodes). GrowsBy (made_item old x ∷ []) old n) same (with_item old x (ap unit_tree same ∙ h.2))

-- One more statement.
abbrev pub AddsStmt : (old new : Nodes) → CStmt → Code → CStmtId → Type 0
AddsStmt old new x code id = (id.0 ≡ length old.stmts) × (new ≡ record old { stmts = old.stmts ++ x ∷ [] }) × (code_of new id.0 ≡ code)

pub stmt_grows : (old new : Nodes) (x : CStmt) (code : Code) (r : Result CStmtId NoMemory) → IsSound old → IfOk r (AddsStmt old new x code) → OnErr r (new ≡ old) → Grows old new
stmt_grows old new x code (Ok id) sound ok err = grown_stmt old new x sound ok.1
stmt_grows old new x code (Err refused) sound ok err = unchanged old new err

last_stmt : (old new : Nodes) (x : CStmt) (s : ℕ) (code : Code) → s ≡ length old.stmts → new ≡ record old { stmts = old.stmts ++ x ∷ [] } → code_of new s ≡ code → HasCode new s code
last_stmt old new x s code place is code_is =
    let l = length-append old.stmts (x ∷ []) in
    let longer : s < length (old.stmts ++ x ∷ []) = omega (arith, l, place) in
    record { there = subst (λ (n : Nodes). s < length n.stmts) (sym is) longer; is = code_is }

pub stmt_made : (old new : Nodes) (x : CStmt) (code : Code) (r : Result CStmtId NoMemory) → IfOk r (AddsStmt old new x code) → IfOk r (λ id. HasCode new id.0 code)
stmt_made old new x code (Ok id) ok = last_stmt old new x id.0 code ok.0 ok.1 ok.2
stmt_made old new x code (Err refused) ok = ok

-- Likewise where the statement may have been there.
pub shared_grows : (old new : Nodes) (x : CStmt) (r : Result CStmtId NoMemory) → IsSound old → IfOk r (λ id. SharesStmt old new x id.0) → OnErr r (new ≡ old) → Grows old new
shared_grows old new x (Ok id) sound ok err = elim ok.grown [ inl same ↦ unchanged old new same | inr more ↦ grown_stmt old new x sound more ]
shared_grows old new x (Err refused) sound ok err = unchanged old new err

pub shared_made : (old new : Nodes) (x : CStmt) (r : Result CStmtId NoMemory) → IfOk r (λ id. SharesStmt old new x id.0) → IfOk r (λ id. HasCode new id.0 (made_code old.names (expr_of old) (code_of old) x))
shared_made old new x (Ok id) ok = record { there = ok.there; is = ok.is }
shared_made old new x (Err refused) ok = ok

pub code_kept : {a b : Nodes} (s : ℕ) (code : Code) → Grows a b → HasCode a s code → HasCode b s code
code_kept s code g h = record { there = g.more_stmts s h.there; is = g.stmts s h.there ∙ h.is }

-- A helper is put after the items that there were.
pub helper_put : (a b c : Nodes) (it other : ItemTree) (r : Result (Unit {0}) NoMemory) → IsSound a → Grows a b → it ≡ other → IfOk r (λ _. GrowsBy (it ∷ []) b c) → IfOk r (λ _. GrowsBy (other ∷ []) a c)
helper_put a b c it other (Ok u) sound g same h = by_as a c it other same (by_after a b c (it ∷ []) sound g h)
helper_put a b c it other (Err refused) sound g same h = h
