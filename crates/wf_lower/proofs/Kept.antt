-- What a unit has of the parts of items stays while it grows, and lists of them grow at their ends.
use Rattle.std.proofs.Common.{Result, Ok, Err, OnOk, ◌≡◌, ◌<◌, ℕ, Option, None, Some, IfSome, List, [], ◌∷◌, ◌++◌, length, map, refl, ◌∙◌, ap}
use Rattle.std.specs.Prelude.{option_map, ⊤}
use Rattle.wf_text.specs.declared.faults.NoMemory.{NoMemory}
use Rattle.c_text.specs.declared.ids.CExprId.{CExprId}
use Rattle.c_text.specs.declared.nodes.CArg.{CArg}
use Rattle.c_text.specs.declared.nodes.CArg.TheVariants as arg
use Rattle.c_text.specs.declared.nodes.CType.{CType}
use Rattle.c_text.specs.declared.nodes.CType.TheVariants as type
use Rattle.c_text.specs.declared.nodes.CFieldType.{CFieldType}
use Rattle.c_text.specs.declared.nodes.CFieldType.TheVariants as held
use Rattle.c_text.specs.declared.nodes.CField.{CField}
use Rattle.c_text.specs.declared.nodes.CParam.{CParam}
use Rattle.c_text.specs.declared.nodes.CLocal.{CLocal}
use Rattle.c_text.specs.declared.nodes.CItem.{CItem}
use Rattle.c_text.specs.declared.nodes.CItem.TheVariants as item
use Rattle.c_text.specs.CFits.{HasArg, HasArgs, HasType, HasFieldType, HasField, HasFields, HasParam, HasParams, HasLocal, HasLocals}
use Rattle.c_text.specs.CNodes.{Nodes, args_in, bytes_at, type_in, expr_of, code_of, value_in, field_kind, field_tree, param_tree, local_tree, made_item}
use Rattle.c_text.specs.CTree.{Args, expr_arg, sizeof_arg, TypeTree, struct_pointer, ExprTree, FieldKind, plain, inside, FieldTree, ParamTree, LocalTree, ItemTree, struct_item, text_item, function_item}
use Rattle.wf_exprs.specs.Grown.{Grows}
use Rattle.wf_exprs_nodes.specs.Growth.{GrowsBy}
use Rattle.wf_lower.specs.Made.{HasArgTrees, FitsFunction, FitFunctions, HasParamTree, HasLocalTree, HasFieldTree, HasFunctionTree, HasItemTree, HasParamTrees, HasLocalTrees, HasFieldTrees, HasFunctionTrees, AddsParams, AddsLocals, AddsFields, AddsFunctions, param_trees, local_trees, field_trees, item_trees}

-- Names, expressions and statements stay, whatever becomes of items.
pub record Keeps (old new : Nodes) : Type 0 where
  pub more_names : (n : ℕ) → n < length old.names → n < length new.names
  pub more_exprs : (e : ℕ) → e < length old.exprs → e < length new.exprs
  pub more_stmts : (s : ℕ) → s < length old.stmts → s < length new.stmts
  pub names : (n : ℕ) → n < length old.names → bytes_at new.names n ≡ bytes_at old.names n
  pub exprs : (e : ℕ) → e < length old.exprs → expr_of new e ≡ expr_of old e
  pub stmts : (s : ℕ) → s < length old.stmts → code_of new s ≡ code_of old s

pub keeps : {a b : Nodes} → Grows a b → Keeps a b
keeps g = record { more_names = g.more_names; more_exprs = g.more_exprs; more_stmts = g.more_stmts; names = g.names; exprs = g.exprs; stmts = g.stmts }

pub keeps_by : {a b : Nodes} {items : List ItemTree} → GrowsBy items a b → Keeps a b
keeps_by g = record { more_names = g.more_names; more_exprs = g.more_exprs; more_stmts = g.more_stmts; names = g.names; exprs = g.exprs; stmts = g.stmts }

abbrev pub field_made : FieldKind → List ℕ → CField → FieldTree
field_made kind name f = record { kind = kind; name = name; count = f.count }

abbrev pub param_made : TypeTree → List ℕ → ParamTree
param_made kind name = record { kind = kind; name = name }

abbrev pub local_made : TypeTree → List ℕ → Option ExprTree → LocalTree
local_made kind name initial = record { kind = kind; name = name; initial = initial }

module _ (old new : Nodes) (g : Keeps old new) where
  pub type_there : (t : CType) → HasType old t → HasType new t
  type_there (type.Uint u) h = tt
  type_there type.Size h = tt
  type_there type.Bool h = tt
  type_there (type.UintPointer u) h = tt
  type_there (type.StructPointer n) h = g.more_names n.0 h
  type_there type.Text h = tt

  pub type_same : (t : CType) → HasType old t → type_in new.names t ≡ type_in old.names t
  type_same (type.Uint u) h = refl
  type_same type.Size h = refl
  type_same type.Bool h = refl
  type_same (type.UintPointer u) h = refl
  type_same (type.StructPointer n) h = ap struct_pointer (g.names n.0 h)
  type_same type.Text h = refl

  -- Parameters.
  param_there : (p : CParam) → HasParam old p → HasParam new p
  param_there p h = (type_there p.kind h.0, g.more_names p.name.0 h.1)

  param_same : (p : CParam) → HasParam old p → param_tree new.names p ≡ param_tree old.names p
  param_same p h = ap (λ k. param_made k (bytes_at new.names p.name.0)) (type_same p.kind h.0) ∙ ap (param_made (type_in old.names p.kind)) (g.names p.name.0 h.1)

  params_there : (ps : List CParam) → HasParams old ps → HasParams new ps
  params_there [] h = tt
  params_there (p ∷ ps) h = (param_there p h.0, params_there ps h.1)

  params_same : (ps : List CParam) → HasParams old ps → param_trees new ps ≡ param_trees old ps
  params_same [] h = refl
  params_same (p ∷ ps) h = ap (λ x. x ∷ param_trees new ps) (param_same p h.0) ∙ ap (λ xs. param_tree old.names p ∷ xs) (params_same ps h.1)

  -- Locals.
  initial_there : (e : Option CExprId) → IfSome e (λ x. x.0 < length old.exprs) → IfSome e (λ x. x.0 < length new.exprs)
  initial_there None h = h
  initial_there (Some e) h = g.more_exprs e.0 h

  initial_same : (e : Option CExprId) → IfSome e (λ x. x.0 < length old.exprs) → value_in (expr_of new) e ≡ value_in (expr_of old) e
  initial_same None h = refl
  initial_same (Some e) h = ap Some (g.exprs e.0 h)

  local_there : (l : CLocal) → HasLocal old l → HasLocal new l
  local_there l h = (type_there l.kind h.0, g.more_names l.name.0 h.1, initial_there l.initial h.2)

  local_same : (l : CLocal) → HasLocal old l → local_tree new.names (expr_of new) l ≡ local_tree old.names (expr_of old) l
  local_same l h =
      ap (λ k. local_made k (bytes_at new.names l.name.0) (value_in (expr_of new) l.initial)) (type_same l.kind h.0)
      ∙ ap (λ n. local_made (type_in old.names l.kind) n (value_in (expr_of new) l.initial)) (g.names l.name.0 h.1)
      ∙ ap (local_made (type_in old.names l.kind) (bytes_at old.names l.name.0)) (initial_same l.initial h.2)

  locals_there : (ls : List CLocal) → HasLocals old ls → HasLocals new ls
  locals_there [] h = tt
  locals_there (l ∷ ls) h = (local_there l h.0, locals_there ls h.1)

  locals_same : (ls : List CLocal) → HasLocals old ls → local_trees new ls ≡ local_trees old ls
  locals_same [] h = refl
  locals_same (l ∷ ls) h = ap (λ x. x ∷ local_trees new ls) (local_same l h.0) ∙ ap (λ xs. local_tree old.names (expr_of old) l ∷ xs) (locals_same ls h.1)

  -- Fields.
  kind_there : (k : CFieldType) → HasFieldType old k → HasFieldType new k
  kind_there (held.Plain t) h = type_there t h
  kind_there (held.Struct n) h = g.more_names n.0 h

  kind_same : (k : CFieldType) → HasFieldType old k → field_kind new.names k ≡ field_kind old.names k
  kind_same (held.Plain t) h = ap plain (type_same t h)
  kind_same (held.Struct n) h = ap inside (g.names n.0 h)

  field_there : (f : CField) → HasField old f → HasField new f
  field_there f h = (kind_there f.kind h.0, g.more_names f.name.0 h.1, h.2)

  field_same : (f : CField) → HasField old f → field_tree new.names f ≡ field_tree old.names f
  field_same f h = ap (λ k. field_made k (bytes_at new.names f.name.0) f) (kind_same f.kind h.0) ∙ ap (λ n. field_made (field_kind old.names f.kind) n f) (g.names f.name.0 h.1)

  fields_there : (fs : List CField) → HasFields old fs → HasFields new fs
  fields_there [] h = tt
  fields_there (f ∷ fs) h = (field_there f h.0, fields_there fs h.1)

  fields_same : (fs : List CField) → HasFields old fs → field_trees new fs ≡ field_trees old fs
  fields_same [] h = refl
  fields_same (f ∷ fs) h = ap (λ x. x ∷ field_trees new fs) (field_same f h.0) ∙ ap (λ xs. field_tree old.names f ∷ xs) (fields_same fs h.1)

  -- Functions.
  result_there : (t : Option CType) → IfSome t (HasType old) → IfSome t (HasType new)
  result_there None h = h
  result_there (Some t) h = type_there t h

  result_same : (t : Option CType) → IfSome t (HasType old) → option_map (type_in new.names) t ≡ option_map (type_in old.names) t
  result_same None h = refl
  result_same (Some t) h = ap Some (type_same t h)

  function_there : (x : CItem) → FitsFunction old x → FitsFunction new x
  function_there (item.Struct fields n) h = absurd h
  function_there (item.Text n s) h = absurd h
  function_there (item.Function linkage result n params locals body) h = (result_there result h.0, g.more_names n.0 h.1, params_there params h.2, locals_there locals h.3, g.more_stmts body.0 h.4)

  function_same : (x : CItem) → FitsFunction old x → made_item new x ≡ made_item old x
  function_same (item.Struct fields n) h = absurd h
  function_same (item.Text n s) h = absurd h
  function_same (item.Function linkage result n params locals body) h =
      ap (λ t. function_item linkage t (bytes_at new.names n.0) (param_trees new params) (local_trees new locals) (code_of new body.0)) (result_same result h.0)
      ∙ ap (λ name. function_item linkage (option_map (type_in old.names) result) name (param_trees new params) (local_trees new locals) (code_of new body.0)) (g.names n.0 h.1)
      ∙ ap (λ ps. function_item linkage (option_map (type_in old.names) result) (bytes_at old.names n.0) ps (local_trees new locals) (code_of new body.0)) (params_same params h.2)
      ∙ ap (λ ls. function_item linkage (option_map (type_in old.names) result) (bytes_at old.names n.0) (param_trees old params) ls (code_of new body.0)) (locals_same locals h.3)
      ∙ ap (function_item linkage (option_map (type_in old.names) result) (bytes_at old.names n.0) (param_trees old params) (local_trees old locals)) (g.stmts body.0 h.4)

  functions_there : (xs : List CItem) → FitFunctions old xs → FitFunctions new xs
  functions_there [] h = tt
  functions_there (x ∷ xs) h = (function_there x h.0, functions_there xs h.1)

  functions_same : (xs : List CItem) → FitFunctions old xs → item_trees new xs ≡ item_trees old xs
  functions_same [] h = refl
  functions_same (x ∷ xs) h = ap (λ y. y ∷ item_trees new xs) (function_same x h.0) ∙ ap (λ ys. made_item old x ∷ ys) (functions_same xs h.1)

  -- Arguments.
  arg_there : (x : CArg) → HasArg old (length old.exprs) x → HasArg new (length new.exprs) x
  arg_there (arg.Expr e) h = g.more_exprs e.0 h
  arg_there (arg.SizeOf n) h = g.more_names n.0 h

  args_there : (xs : List CArg) → HasArgs old (length old.exprs) xs → HasArgs new (length new.exprs) xs
  args_there [] h = tt
  args_there (x ∷ xs) h = (arg_there x h.0, args_there xs h.1)

  args_same : (xs : List CArg) → HasArgs old (length old.exprs) xs → args_in new.names (expr_of new) xs ≡ args_in old.names (expr_of old) xs
  args_same [] h = refl
  args_same (arg.Expr e ∷ xs) h = ap (λ t. expr_arg t (args_in new.names (expr_of new) xs)) (g.exprs e.0 h.0) ∙ ap (expr_arg (expr_of old e.0)) (args_same xs h.1)
  args_same (arg.SizeOf n ∷ xs) h = ap (λ t. sizeof_arg t (args_in new.names (expr_of new) xs)) (g.names n.0 h.0) ∙ ap (sizeof_arg (bytes_at old.names n.0)) (args_same xs h.1)

  pub args_kept : {xs : List CArg} {t : Args} → HasArgTrees old xs t → HasArgTrees new xs t
  args_kept {xs} h = record { there = args_there xs h.there; are = args_same xs h.there ∙ h.are }

  pub params_kept : {ps : List CParam} {ts : List ParamTree} → HasParamTrees old ps ts → HasParamTrees new ps ts
  params_kept {ps} h = record { there = params_there ps h.there; are = params_same ps h.there ∙ h.are }

  pub locals_kept : {ls : List CLocal} {ts : List LocalTree} → HasLocalTrees old ls ts → HasLocalTrees new ls ts
  locals_kept {ls} h = record { there = locals_there ls h.there; are = locals_same ls h.there ∙ h.are }

  pub fields_kept : {fs : List CField} {ts : List FieldTree} → HasFieldTrees old fs ts → HasFieldTrees new fs ts
  fields_kept {fs} h = record { there = fields_there fs h.there; are = fields_same fs h.there ∙ h.are }

  pub functions_kept : {xs : List CItem} {ts : List ItemTree} → HasFunctionTrees old xs ts → HasFunctionTrees new xs ts
  functions_kept {xs} h = record { there = functions_there xs h.there; are = functions_same xs h.there ∙ h.are }

-- One more at the end.
module _ (nodes : Nodes) where
  map_last : {C T : Type 0} (f : C → T) (xs : List C) (x : C) (ts : List T) (t : T) → map f xs ≡ ts → f x ≡ t → map f (xs ++ x ∷ []) ≡ ts ++ t ∷ []
  map_last f [] x ts t h k = ap (λ y. y ∷ []) k ∙ ap (λ ys. ys ++ t ∷ []) h
  map_last f (y ∷ ys) x ts t h k = ap (λ zs. f y ∷ zs) (map_last f ys x (map f ys) t refl k) ∙ ap (λ zs. zs ++ t ∷ []) h

  params_last : (ps : List CParam) (p : CParam) → HasParams nodes ps → HasParam nodes p → HasParams nodes (ps ++ p ∷ [])
  params_last [] p h k = (k, tt)
  params_last (q ∷ ps) p h k = (h.0, params_last ps p h.1 k)

  locals_last : (ps : List CLocal) (p : CLocal) → HasLocals nodes ps → HasLocal nodes p → HasLocals nodes (ps ++ p ∷ [])
  locals_last [] p h k = (k, tt)
  locals_last (q ∷ ps) p h k = (h.0, locals_last ps p h.1 k)

  fields_last : (ps : List CField) (p : CField) → HasFields nodes ps → HasField nodes p → HasFields nodes (ps ++ p ∷ [])
  fields_last [] p h k = (k, tt)
  fields_last (q ∷ ps) p h k = (h.0, fields_last ps p h.1 k)

  functions_last : (ps : List CItem) (p : CItem) → FitFunctions nodes ps → FitsFunction nodes p → FitFunctions nodes (ps ++ p ∷ [])
  functions_last [] p h k = (k, tt)
  functions_last (q ∷ ps) p h k = (h.0, functions_last ps p h.1 k)

  pub params_pushed : {ps : List CParam} {ts : List ParamTree} {p : CParam} {t : ParamTree} → HasParamTrees nodes ps ts → HasParamTree nodes p t → HasParamTrees nodes (ps ++ p ∷ []) (ts ++ t ∷ [])
  params_pushed {ps} {ts} {p} {t} h k = record { there = params_last ps p h.there k.there; are = map_last (param_tree nodes.names) ps p ts t h.are k.is }

  pub locals_pushed : {ps : List CLocal} {ts : List LocalTree} {p : CLocal} {t : LocalTree} → HasLocalTrees nodes ps ts → HasLocalTree nodes p t → HasLocalTrees nodes (ps ++ p ∷ []) (ts ++ t ∷ [])
  locals_pushed {ps} {ts} {p} {t} h k = record { there = locals_last ps p h.there k.there; are = map_last (local_tree nodes.names (expr_of nodes)) ps p ts t h.are k.is }

  pub fields_pushed : {ps : List CField} {ts : List FieldTree} {p : CField} {t : FieldTree} → HasFieldTrees nodes ps ts → HasFieldTree nodes p t → HasFieldTrees nodes (ps ++ p ∷ []) (ts ++ t ∷ [])
  fields_pushed {ps} {ts} {p} {t} h k = record { there = fields_last ps p h.there k.there; are = map_last (field_tree nodes.names) ps p ts t h.are k.is }

  pub functions_pushed : {ps : List CItem} {ts : List ItemTree} {p : CItem} {t : ItemTree} → HasFunctionTrees nodes ps ts → HasFunctionTree nodes p t → HasFunctionTrees nodes (ps ++ p ∷ []) (ts ++ t ∷ [])
  functions_pushed {ps} {ts} {p} {t} h k = record { there = functions_last ps p h.there k.there; are = map_last (made_item nodes) ps p ts t h.are k.is }

-- Whatever list the unit had, it has with these after it.
nil : {A : Type 0} (xs : List A) → xs ≡ xs ++ []
nil [] = refl
nil (x ∷ xs) = ap (λ ys. x ∷ ys) (nil xs)

assoc : {A : Type 0} (xs ys zs : List A) → (xs ++ ys) ++ zs ≡ xs ++ (ys ++ zs)
assoc [] ys zs = refl
assoc (x ∷ xs) ys zs = ap (λ l. x ∷ l) (assoc xs ys zs)

pub params_as : {a : Nodes} {ps : List CParam} {ts us : List ParamTree} → ts ≡ us → HasParamTrees a ps ts → HasParamTrees a ps us
params_as e h = record { there = h.there; are = h.are ∙ e }

pub locals_as : {a : Nodes} {ps : List CLocal} {ts us : List LocalTree} → ts ≡ us → HasLocalTrees a ps ts → HasLocalTrees a ps us
locals_as e h = record { there = h.there; are = h.are ∙ e }

pub fields_as : {a : Nodes} {ps : List CField} {ts us : List FieldTree} → ts ≡ us → HasFieldTrees a ps ts → HasFieldTrees a ps us
fields_as e h = record { there = h.there; are = h.are ∙ e }

pub functions_as : {a : Nodes} {ps : List CItem} {ts us : List ItemTree} → ts ≡ us → HasFunctionTrees a ps ts → HasFunctionTrees a ps us
functions_as e h = record { there = h.there; are = h.are ∙ e }

module _ {a b : Nodes} where
  pub no_params : (ps : List CParam) → Grows a b → AddsParams a b ps ps []
  no_params ps g so_far h = params_as (nil so_far) (params_kept a b (keeps g) h)

  pub no_locals : (ps : List CLocal) → Grows a b → AddsLocals a b ps ps []
  no_locals ps g so_far h = locals_as (nil so_far) (locals_kept a b (keeps g) h)

  pub no_fields : (ps : List CField) → Grows a b → AddsFields a b ps ps []
  no_fields ps g so_far h = fields_as (nil so_far) (fields_kept a b (keeps g) h)

  pub no_functions : (ps : List CItem) → Grows a b → AddsFunctions a b ps ps []
  no_functions ps g so_far h = functions_as (nil so_far) (functions_kept a b (keeps g) h)

  pub one_param : (ps qs : List CParam) (p : CParam) (t : ParamTree) → qs ≡ ps ++ p ∷ [] → Grows a b → HasParamTree b p t → AddsParams a b ps qs (t ∷ [])
  one_param ps qs p t e g k so_far h = rw e (params_pushed b (params_kept a b (keeps g) h) k)

  pub one_local : (ps qs : List CLocal) (p : CLocal) (t : LocalTree) → qs ≡ ps ++ p ∷ [] → Grows a b → HasLocalTree b p t → AddsLocals a b ps qs (t ∷ [])
  one_local ps qs p t e g k so_far h = rw e (locals_pushed b (locals_kept a b (keeps g) h) k)

  pub one_field : (ps qs : List CField) (p : CField) (t : FieldTree) → qs ≡ ps ++ p ∷ [] → Grows a b → HasFieldTree b p t → AddsFields a b ps qs (t ∷ [])
  one_field ps qs p t e g k so_far h = rw e (fields_pushed b (fields_kept a b (keeps g) h) k)

  pub one_function : (ps qs : List CItem) (p : CItem) (t : ItemTree) → qs ≡ ps ++ p ∷ [] → Grows a b → HasFunctionTree b p t → AddsFunctions a b ps qs (t ∷ [])
  one_function ps qs p t e g k so_far h = rw e (functions_pushed b (functions_kept a b (keeps g) h) k)

module _ {a b c : Nodes} where
  pub params_on : {ps qs rs : List CParam} (ts us : List ParamTree) → AddsParams a b ps qs ts → AddsParams b c qs rs us → AddsParams a c ps rs (ts ++ us)
  params_on ts us f g so_far h = params_as (assoc so_far ts us) (g (so_far ++ ts) (f so_far h))

  pub locals_on : {ps qs rs : List CLocal} (ts us : List LocalTree) → AddsLocals a b ps qs ts → AddsLocals b c qs rs us → AddsLocals a c ps rs (ts ++ us)
  locals_on ts us f g so_far h = locals_as (assoc so_far ts us) (g (so_far ++ ts) (f so_far h))

  pub fields_on : {ps qs rs : List CField} (ts us : List FieldTree) → AddsFields a b ps qs ts → AddsFields b c qs rs us → AddsFields a c ps rs (ts ++ us)
  fields_on ts us f g so_far h = fields_as (assoc so_far ts us) (g (so_far ++ ts) (f so_far h))

  pub functions_on : {ps qs rs : List CItem} (ts us : List ItemTree) → AddsFunctions a b ps qs ts → AddsFunctions b c qs rs us → AddsFunctions a c ps rs (ts ++ us)
  functions_on ts us f g so_far h = functions_as (assoc so_far ts us) (g (so_far ++ ts) (f so_far h))

-- The same, where the steps may be refused memory.
module _ {a b : Nodes} where
  pub params_push : (ps qs : List CParam) (p : CParam) (t : ParamTree) (r : Result (Unit {0}) NoMemory) → Grows a b → HasParamTree b p t → OnOk r (qs ≡ ps ++ p ∷ []) → OnOk r (AddsParams a b ps qs (t ∷ []))
  params_push ps qs p t (Ok u) g k e = one_param ps qs p t e g k
  params_push ps qs p t (Err refused) g k e = e

module _ (a b c : Nodes) where
  pub params_after : (ps qs : List CParam) (ts us : List ParamTree) (r : Result (Unit {0}) NoMemory) → Grows a b → ts ≡ us → OnOk r (AddsParams b c ps qs ts) → OnOk r (AddsParams a c ps qs us)
  params_after ps qs ts us (Ok u) g e f = λ so_far h. params_as (ap (λ l. so_far ++ l) e) (f so_far (params_kept a b (keeps g) h))
  params_after ps qs ts us (Err refused) g e f = f

  pub params_then : (ps qs rs : List CParam) (ts us : List ParamTree) (r : Result (Unit {0}) NoMemory) → AddsParams a b ps qs ts → OnOk r (AddsParams b c qs rs us) → OnOk r (AddsParams a c ps rs (ts ++ us))
  params_then ps qs rs ts us (Ok u) f g = params_on ts us f g
  params_then ps qs rs ts us (Err refused) f g = g

module _ {a b : Nodes} where
  pub locals_push : (ps qs : List CLocal) (p : CLocal) (t : LocalTree) (r : Result (Unit {0}) NoMemory) → Grows a b → HasLocalTree b p t → OnOk r (qs ≡ ps ++ p ∷ []) → OnOk r (AddsLocals a b ps qs (t ∷ []))
  locals_push ps qs p t (Ok u) g k e = one_local ps qs p t e g k
  locals_push ps qs p t (Err refused) g k e = e

module _ (a b c : Nodes) where
  pub locals_after : (ps qs : List CLocal) (ts us : List LocalTree) (r : Result (Unit {0}) NoMemory) → Grows a b → ts ≡ us → OnOk r (AddsLocals b c ps qs ts) → OnOk r (AddsLocals a c ps qs us)
  locals_after ps qs ts us (Ok u) g e f = λ so_far h. locals_as (ap (λ l. so_far ++ l) e) (f so_far (locals_kept a b (keeps g) h))
  locals_after ps qs ts us (Err refused) g e f = f

  pub locals_then : (ps qs rs : List CLocal) (ts us : List LocalTree) (r : Result (Unit {0}) NoMemory) → AddsLocals a b ps qs ts → OnOk r (AddsLocals b c qs rs us) → OnOk r (AddsLocals a c ps rs (ts ++ us))
  locals_then ps qs rs ts us (Ok u) f g = locals_on ts us f g
  locals_then ps qs rs ts us (Err refused) f g = g

module _ {a b : Nodes} where
  pub fields_push : (ps qs : List CField) (p : CField) (t : FieldTree) (r : Result (Unit {0}) NoMemory) → Grows a b → HasFieldTree b p t → OnOk r (qs ≡ ps ++ p ∷ []) → OnOk r (AddsFields a b ps qs (t ∷ []))
  fields_push ps qs p t (Ok u) g k e = one_field ps qs p t e g k
  fields_push ps qs p t (Err refused) g k e = e

module _ (a b c : Nodes) where
  pub fields_after : (ps qs : List CField) (ts us : List FieldTree) (r : Result (Unit {0}) NoMemory) → Grows a b → ts ≡ us → OnOk r (AddsFields b c ps qs ts) → OnOk r (AddsFields a c ps qs us)
  fields_after ps qs ts us (Ok u) g e f = λ so_far h. fields_as (ap (λ l. so_far ++ l) e) (f so_far (fields_kept a b (keeps g) h))
  fields_after ps qs ts us (Err refused) g e f = f

  pub fields_then : (ps qs rs : List CField) (ts us : List FieldTree) (r : Result (Unit {0}) NoMemory) → AddsFields a b ps qs ts → OnOk r (AddsFields b c qs rs us) → OnOk r (AddsFields a c ps rs (ts ++ us))
  fields_then ps qs rs ts us (Ok u) f g = fields_on ts us f g
  fields_then ps qs rs ts us (Err refused) f g = g

module _ {a b : Nodes} where
  pub functions_push : (ps qs : List CItem) (p : CItem) (t : ItemTree) (r : Result (Unit {0}) NoMemory) → Grows a b → HasFunctionTree b p t → OnOk r (qs ≡ ps ++ p ∷ []) → OnOk r (AddsFunctions a b ps qs (t ∷ []))
  functions_push ps qs p t (Ok u) g k e = one_function ps qs p t e g k
  functions_push ps qs p t (Err refused) g k e = e

abbrev pub FitsFunctionTree : ItemTree → Type 0
FitsFunctionTree (function_item linkage result name params locals body) = ⊤
FitsFunctionTree (struct_item fields name) = ⊥
FitsFunctionTree (text_item name bytes) = ⊥

-- An item that stands for a function is one.
pub function_of : {nodes : Nodes} (x : CItem) (tree : ItemTree) → FitsFunctionTree tree → HasItemTree nodes x tree → HasFunctionTree nodes x tree
function_of (item.Struct fields n) (function_item linkage result name params locals body) k h = absurd (cc h.is)
function_of (item.Text n s) (function_item linkage result name params locals body) k h = absurd (cc h.is)
function_of (item.Function l r n ps ls b) tree k h = record { there = h.there; is = h.is }
function_of (item.Struct fields n) (struct_item fs name) k h = absurd k
function_of (item.Struct fields n) (text_item name bytes) k h = absurd k
function_of (item.Text n s) (struct_item fs name) k h = absurd k
function_of (item.Text n s) (text_item name bytes) k h = absurd k
