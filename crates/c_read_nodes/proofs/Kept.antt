-- What is seen of values stays while the unit grows, and what they name stays there.
use Rattle.std.proofs.Common.{◌≡◌, ◌<◌, ◌≤◌, ℕ, zero, suc, Option, None, Some, List, [], ◌∷◌, ◌++◌, length, map, refl, sym, ◌∙◌, ap, subst, arith, length-append, IfSome}
use Rattle.std.specs.List.{slice_get}
use Rattle.std.specs.Option.{option_map}
use Rattle.c_text.specs.declared.ids.CExprId.{CExprId}
use Rattle.c_text.specs.declared.ids.CNameId.{CNameId}
use Rattle.c_text.specs.declared.ids.CStmtId.{CStmtId}
use Rattle.c_text.specs.declared.nodes.CArg.{CArg}
use Rattle.c_text.specs.declared.nodes.CArg.TheVariants as arg
use Rattle.c_text.specs.declared.nodes.CField.{CField}
use Rattle.c_text.specs.declared.nodes.CFieldType.{CFieldType}
use Rattle.c_text.specs.declared.nodes.CFieldType.TheVariants as held
use Rattle.c_text.specs.declared.nodes.CItem.{CItem}
use Rattle.c_text.specs.declared.nodes.CItem.TheVariants as item
use Rattle.c_text.specs.declared.nodes.CLocal.{CLocal}
use Rattle.c_text.specs.declared.nodes.CParam.{CParam}
use Rattle.c_text.specs.declared.nodes.CType.{CType}
use Rattle.c_text.specs.declared.nodes.CType.TheVariants as type
use Rattle.c_text.specs.CFits.{HasName, HasType, HasExprs, HasArgs, HasTarget, HasField, HasFieldType, HasFields, HasParam, HasParams, HasLocal, HasLocals, FitsItem}
use Rattle.c_text.specs.CGrammar.{is_lvalue, FitsElse}
use Rattle.c_text.specs.CNodes.{Nodes, bytes_at, type_in, operands_in, args_in, value_in, expr_of, code_of, field_kind, field_tree, param_tree, local_tree, made_item, unit_tree}
use Rattle.c_text.specs.CTree.{TypeTree, Code, finish, plain, inside}
use Rattle.c_text.specs.CUnit.{IsSound, Extends}
use Rattle.c_text.proofs.Trees.{bytes_at-front, expr_of-kept, code_of-kept}
use Rattle.c_read_grammar.specs.Values.{a_name, a_string, an_expr, some_args, a_type, a_code, a_statement, a_field, some_fields, a_result, some_params, some_locals, a_unit}
use Rattle.c_read_nodes.specs.declared.statements.Statement.{Statement}
use Rattle.c_read_nodes.specs.declared.statements.Statement.TheVariants as says
use Rattle.c_read_nodes.specs.declared.values.SemanticValue.{SemanticValue}
use Rattle.c_read_nodes.specs.declared.values.SemanticValue.TheVariants as vals
use Rattle.c_read_nodes.specs.Seen.{seen_value, seen_values, ValueFits, ValuesFit}
use Rattle.c_read_nodes.specs.Statements.{code_with, StatementFits}

map_agrees : {X Y : Type 0} (f g : X → Y) (xs : List X) → ((i : ℕ) (x : X) → slice_get xs i ≡ Some x → f x ≡ g x) → map f xs ≡ map g xs
map_agrees f g [] h = refl
map_agrees f g (x ∷ xs) h = let a = h zero x refl in let b = map_agrees f g xs (λ i y e. h (suc i) y e) in cc (a, b)

longer : {X : Type 0} (xs ys zs : List X) → ys ≡ xs ++ zs → length xs ≤ length ys
longer xs ys zs e = omega (arith, ap length e, length-append xs zs)

-- While nodes are added, trees stay.
module _ (old new : Nodes) (sound : IsSound old) (grows : Extends old new) where
  name_same : (n : CNameId) → HasName old n → bytes_at new.names n.0 ≡ bytes_at old.names n.0
  name_same n h = ap (λ (x : List (List ℕ)). bytes_at x n.0) grows.names ∙ bytes_at-front old.names grows.more.names n.0 h

  pub expr_same : (e : CExprId) → e.0 < length old.exprs → expr_of new e.0 ≡ expr_of old e.0
  expr_same e h = expr_of-kept old new sound grows e.0 h

  pub code_same : (s : CStmtId) → s.0 < length old.stmts → code_of new s.0 ≡ code_of old s.0
  code_same s h = code_of-kept old new sound grows s.0 h

  type_same : (t : CType) → HasType old t → type_in new.names t ≡ type_in old.names t
  type_same (type.Uint u) h = refl
  type_same type.Size h = refl
  type_same type.Bool h = refl
  type_same (type.UintPointer u) h = refl
  type_same (type.StructPointer n) h = ap TypeTree.struct_pointer (name_same n h)
  type_same type.Text h = refl

  result_same : (t : Option CType) → IfSome t (HasType old) → option_map (type_in new.names) t ≡ option_map (type_in old.names) t
  result_same None h = refl
  result_same (Some t) h = ap Some (type_same t h)

  operands_same : (es : List CExprId) → HasExprs (length old.exprs) es → operands_in (expr_of new) es ≡ operands_in (expr_of old) es
  operands_same [] h = refl
  operands_same (e ∷ es) h = let a = expr_same e h.0 in let b = operands_same es h.1 in cc (a, b)

  args_same : (args : List CArg) → HasArgs old (length old.exprs) args → args_in new.names (expr_of new) args ≡ args_in old.names (expr_of old) args
  args_same [] h = refl
  args_same (arg.Expr e ∷ args) h = let a = expr_same e h.0 in let b = args_same args h.1 in cc (a, b)
  args_same (arg.SizeOf n ∷ args) h = let a = name_same n h.0 in let b = args_same args h.1 in cc (a, b)

  value_same_in : (v : Option CExprId) → IfSome v (λ e. e.0 < length old.exprs) → value_in (expr_of new) v ≡ value_in (expr_of old) v
  value_same_in None h = refl
  value_same_in (Some e) h = ap Some (expr_same e h)

  target_same : (v : Option CExprId) → IfSome v (HasTarget old (length old.exprs)) → value_in (expr_of new) v ≡ value_in (expr_of old) v
  target_same None h = refl
  target_same (Some e) h = ap Some (expr_same e h.0)

  kind_same : (t : CFieldType) → HasFieldType old t → field_kind new.names t ≡ field_kind old.names t
  kind_same (held.Plain t) h = ap plain (type_same t h)
  kind_same (held.Struct n) h = ap inside (name_same n h)

  field_same : (f : CField) → HasField old f → field_tree new.names f ≡ field_tree old.names f
  field_same f h = let a = kind_same f.kind h.0 in let b = name_same f.name h.1 in cc (a, b)

  fields_same : (fs : List CField) → HasFields old fs → map (field_tree new.names) fs ≡ map (field_tree old.names) fs
  fields_same [] h = refl
  fields_same (f ∷ fs) h = let a = field_same f h.0 in let b = fields_same fs h.1 in cc (a, b)

  param_same : (p : CParam) → HasParam old p → param_tree new.names p ≡ param_tree old.names p
  param_same p h = let a = type_same p.kind h.0 in let b = name_same p.name h.1 in cc (a, b)

  params_same : (ps : List CParam) → HasParams old ps → map (param_tree new.names) ps ≡ map (param_tree old.names) ps
  params_same [] h = refl
  params_same (p ∷ ps) h = let a = param_same p h.0 in let b = params_same ps h.1 in cc (a, b)

  local_same : (l : CLocal) → HasLocal old l → local_tree new.names (expr_of new) l ≡ local_tree old.names (expr_of old) l
  local_same l h = let a = type_same l.kind h.0 in let b = name_same l.name h.1 in let c = value_same_in l.initial h.2 in cc (a, b, c)

  locals_same : (ls : List CLocal) → HasLocals old ls → map (local_tree new.names (expr_of new)) ls ≡ map (local_tree old.names (expr_of old)) ls
  locals_same [] h = refl
  locals_same (l ∷ ls) h = let a = local_same l h.0 in let b = locals_same ls h.1 in cc (a, b)

  pub statement_same : (s : Statement) (rest : Code) → StatementFits old s → code_with new s rest ≡ code_with old s rest
  statement_same (says.Nested inner) rest h = let a = code_same inner h in cc a
  statement_same says.Empty rest h = refl
  statement_same (says.Assign target value) rest h = let a = expr_same target h.0.0 in let b = expr_same value h.1 in cc (a, b)
  statement_same (says.Call target c) rest h = let a = target_same target h.0 in let b = name_same c.function h.1.0 in let d = args_same c.args h.1.1 in cc (a, b, d)
  statement_same (says.Goto label) rest h = let a = name_same label h in cc a
  statement_same (says.If x) rest h = let a = expr_same x.test h.0 in let b = code_same x.body h.1 in let d = code_same x.other h.2 in cc (a, b, d)
  statement_same (says.While test body) rest h = let a = expr_same test h.0 in let b = code_same body h.1 in cc (a, b)
  statement_same (says.Switch on body) rest h = let a = expr_same on h.0 in let b = code_same body h.1 in cc (a, b)
  statement_same (says.Return value) rest h = let a = value_same_in value h in cc a
  statement_same (says.Case number) rest h = refl
  statement_same says.Default rest h = refl
  statement_same (says.Label name) rest h = let a = name_same name h in cc a

  string_same : (n : ℕ) → n < length old.strings → bytes_at new.strings n ≡ bytes_at old.strings n
  string_same n h = ap (λ (x : List (List ℕ)). bytes_at x n) grows.strings ∙ bytes_at-front old.strings grows.more.strings n h

  item_same : (x : CItem) → FitsItem old x → made_item new x ≡ made_item old x
  item_same (item.Struct fields n) h = let a = fields_same fields h.1 in let b = name_same n h.2 in cc (a, b)
  item_same (item.Text n s) h = let a = name_same n h.0 in let b = string_same s.0 h.1 in cc (a, b)
  item_same (item.Function linkage t n params locals body) h =
      let a = result_same t h.0 in let b = name_same n h.1 in let c = params_same params h.2 in let d = locals_same locals h.3 in let e = code_same body h.4 in cc (a, b, c, d, e)

  pub unit_same : new.items ≡ old.items → unit_tree new ≡ unit_tree old
  unfolding unit_tree
  unit_same is = ap (map (made_item new)) is ∙ map_agrees (made_item new) (made_item old) old.items (λ i x e. item_same x (sound.items i x e))

  pub value_same : new.items ≡ old.items → (below : List SemanticValue) (v : SemanticValue) → ValueFits old below v → seen_value new v ≡ seen_value old v
  value_same is below (vals.Name n) h = ap a_name (name_same n h)
  value_same is below (vals.Number n) h = refl
  value_same is below (vals.Text s) h = ap a_string (string_same s.0 h)
  value_same is below (vals.Expr e) h = ap an_expr (expr_same e h)
  value_same is below (vals.Operation o) h = let a = expr_same o.first h.0 in let b = expr_same o.second h.1 in let c = operands_same o.others h.2 in cc (a, b, c)
  value_same is below (vals.Args args) h = ap some_args (args_same args h)
  value_same is below (vals.Type t) h = ap a_type (type_same t h)
  value_same is below vals.Block h = refl
  value_same is below (vals.Code s) h = ap a_code (code_same s h)
  value_same is below (vals.Statement s) h = ap a_statement (statement_same s finish h)
  value_same is below (vals.Arm x) h = let a = expr_same x.test h.0 in let b = code_same x.body h.1 in cc (a, b)
  value_same is below (vals.Field f) h = ap a_field (field_same f h)
  value_same is below (vals.Fields fs) h = ap some_fields (fields_same fs h)
  value_same is below (vals.Outcome o) h = ap (a_result o.linkage) (result_same o.of h)
  value_same is below (vals.Params ps) h = ap some_params (params_same ps h)
  value_same is below (vals.Locals ls) h = ap some_locals (locals_same ls h)
  value_same is below vals.Unit h = ap a_unit (unit_same is)

  pub values_same : new.items ≡ old.items → (vs : List SemanticValue) → ValuesFit old vs → seen_values new vs ≡ seen_values old vs
  values_same is [] h = refl
  values_same is (v ∷ vs) h = let a = value_same is vs v h.0 in let b = values_same is vs h.1 in cc (a, b)

  -- and what is named stays there
  more_names : (n : CNameId) → HasName old n → HasName new n
  more_names n h = omega (arith, h, longer old.names new.names grows.more.names grows.names)

  pub more_exprs : (e : CExprId) → e.0 < length old.exprs → e.0 < length new.exprs
  more_exprs e h = omega (arith, h, longer old.exprs new.exprs grows.more.exprs grows.exprs)

  pub more_stmts : (s : CStmtId) → s.0 < length old.stmts → s.0 < length new.stmts
  more_stmts s h = omega (arith, h, longer old.stmts new.stmts grows.more.stmts grows.stmts)

  more_strings : (n : ℕ) → n < length old.strings → n < length new.strings
  more_strings n h = omega (arith, h, longer old.strings new.strings grows.more.strings grows.strings)

  type_fits : (t : CType) → HasType old t → HasType new t
  type_fits (type.Uint u) h = tt
  type_fits type.Size h = tt
  type_fits type.Bool h = tt
  type_fits (type.UintPointer u) h = tt
  type_fits (type.StructPointer n) h = more_names n h
  type_fits type.Text h = tt

  result_fits : (t : Option CType) → IfSome t (HasType old) → IfSome t (HasType new)
  result_fits None h = tt
  result_fits (Some t) h = type_fits t h

  exprs_fit : (es : List CExprId) → HasExprs (length old.exprs) es → HasExprs (length new.exprs) es
  exprs_fit [] h = tt
  exprs_fit (e ∷ es) h = (more_exprs e h.0, exprs_fit es h.1)

  args_fit : (args : List CArg) → HasArgs old (length old.exprs) args → HasArgs new (length new.exprs) args
  args_fit [] h = tt
  args_fit (arg.Expr e ∷ args) h = (more_exprs e h.0, args_fit args h.1)
  args_fit (arg.SizeOf n ∷ args) h = (more_names n h.0, args_fit args h.1)

  value_fits_in : (v : Option CExprId) → IfSome v (λ e. e.0 < length old.exprs) → IfSome v (λ e. e.0 < length new.exprs)
  value_fits_in None h = tt
  value_fits_in (Some e) h = more_exprs e h

  target_fits : (e : CExprId) → HasTarget old (length old.exprs) e → HasTarget new (length new.exprs) e
  target_fits e h = (more_exprs e h.0, ap is_lvalue (expr_same e h.0) ∙ h.1)

  targets_fit : (v : Option CExprId) → IfSome v (HasTarget old (length old.exprs)) → IfSome v (HasTarget new (length new.exprs))
  targets_fit None h = tt
  targets_fit (Some e) h = target_fits e h

  kind_fits : (t : CFieldType) → HasFieldType old t → HasFieldType new t
  kind_fits (held.Plain t) h = type_fits t h
  kind_fits (held.Struct n) h = more_names n h

  field_fits : (f : CField) → HasField old f → HasField new f
  field_fits f h = (kind_fits f.kind h.0, more_names f.name h.1, h.2)

  fields_fit : (fs : List CField) → HasFields old fs → HasFields new fs
  fields_fit [] h = tt
  fields_fit (f ∷ fs) h = (field_fits f h.0, fields_fit fs h.1)

  params_fit : (ps : List CParam) → HasParams old ps → HasParams new ps
  params_fit [] h = tt
  params_fit (p ∷ ps) h = ((type_fits p.kind h.0.0, more_names p.name h.0.1), params_fit ps h.1)

  locals_fit : (ls : List CLocal) → HasLocals old ls → HasLocals new ls
  locals_fit [] h = tt
  locals_fit (l ∷ ls) h = ((type_fits l.kind h.0.0, more_names l.name h.0.1, value_fits_in l.initial h.0.2), locals_fit ls h.1)

  pub statement_fits : (s : Statement) → StatementFits old s → StatementFits new s
  statement_fits (says.Nested inner) h = more_stmts inner h
  statement_fits says.Empty h = tt
  statement_fits (says.Assign target value) h = (target_fits target h.0, more_exprs value h.1)
  statement_fits (says.Call target c) h = (targets_fit target h.0, (more_names c.function h.1.0, args_fit c.args h.1.1))
  statement_fits (says.Goto label) h = more_names label h
  statement_fits (says.If x) h = (more_exprs x.test h.0, more_stmts x.body h.1, more_stmts x.other h.2, subst (λ (c : Code). FitsElse x.otherwise c) (sym (code_same x.other h.2)) h.3)
  statement_fits (says.While test body) h = (more_exprs test h.0, more_stmts body h.1)
  statement_fits (says.Switch on body) h = (more_exprs on h.0, more_stmts body h.1)
  statement_fits (says.Return value) h = value_fits_in value h
  statement_fits (says.Case number) h = h
  statement_fits says.Default h = tt
  statement_fits (says.Label name) h = more_names name h

  pub value_fits : (below : List SemanticValue) (v : SemanticValue) → ValueFits old below v → ValueFits new below v
  value_fits below (vals.Name n) h = more_names n h
  value_fits below (vals.Number n) h = h
  value_fits below (vals.Text s) h = more_strings s.0 h
  value_fits below (vals.Expr e) h = more_exprs e h
  value_fits below (vals.Operation o) h = (more_exprs o.first h.0, more_exprs o.second h.1, exprs_fit o.others h.2)
  value_fits below (vals.Args args) h = args_fit args h
  value_fits below (vals.Type t) h = type_fits t h
  value_fits below vals.Block h = tt
  value_fits below (vals.Code s) h = more_stmts s h
  value_fits below (vals.Statement s) h = statement_fits s h
  value_fits below (vals.Arm x) h = (more_exprs x.test h.0, more_stmts x.body h.1)
  value_fits below (vals.Field f) h = field_fits f h
  value_fits below (vals.Fields fs) h = fields_fit fs h
  value_fits below (vals.Outcome o) h = result_fits o.of h
  value_fits below (vals.Params ps) h = params_fit ps h
  value_fits below (vals.Locals ls) h = locals_fit ls h
  value_fits below vals.Unit h = h

  pub values_fit : (vs : List SemanticValue) → ValuesFit old vs → ValuesFit new vs
  values_fit [] h = tt
  values_fit (v ∷ vs) h = (value_fits vs v h.0, values_fit vs h.1)
