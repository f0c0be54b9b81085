-- Each unit is a tree of the grammar.
use Rattle.std.proofs.Common.{◌≡◌, ℕ, zero, suc, ◌<◌, List, [], ◌∷◌, length, map, Option, None, Some, IfSome, IsTrue, refl, sym, subst, arith, unwrap_or}
use Rattle.std.specs.List.{slice_get}
use Rattle.std.specs.Option.{option_map}
use Rattle.c_text.specs.declared.kinds.COp.{COp}
use Rattle.c_text.specs.declared.nodes.CType.{CType}
use Rattle.c_text.specs.declared.nodes.CType.TheVariants as type
use Rattle.c_text.specs.declared.nodes.CArg.{CArg}
use Rattle.c_text.specs.declared.nodes.CArg.TheVariants as arg
use Rattle.c_text.specs.declared.nodes.CExpr.{CExpr}
use Rattle.c_text.specs.declared.nodes.CExpr.TheVariants as expr
use Rattle.c_text.specs.declared.nodes.CStmt.{CStmt}
use Rattle.c_text.specs.declared.nodes.CStmt.TheVariants as stmt
use Rattle.c_text.specs.declared.nodes.CItem.{CItem}
use Rattle.c_text.specs.declared.nodes.CItem.TheVariants as item
use Rattle.c_text.specs.declared.nodes.CFieldType.{CFieldType}
use Rattle.c_text.specs.declared.nodes.CFieldType.TheVariants as held
use Rattle.c_text.specs.declared.nodes.CField.{CField}
use Rattle.c_text.specs.declared.nodes.CParam.{CParam}
use Rattle.c_text.specs.declared.nodes.CLocal.{CLocal}
use Rattle.c_text.specs.declared.ids.CExprId.{CExprId}
use Rattle.c_text.specs.CTree.{ExprTree, Code}
use Rattle.c_text.specs.CNodes.{Nodes, bytes_at, type_in, operands_in, args_in, made_expr, expr_of, made_code, code_of, value_in, field_kind, field_tree, param_tree, local_tree, made_item, unit_tree}
use Rattle.c_text.specs.CFits.{FitsExpr, FitsStmt, FitsItem, HasExprs, HasArgs, HasType, HasTarget, HasFieldType, HasFields, HasParams, HasLocals, RepeatsLawfully}
use Rattle.c_text.specs.CSpelling.{is_string}
use Rattle.c_text.specs.CGrammar.{IsName, IsType, IsExpr, IsOperands, IsArgs, MayRepeat, IsTarget, IsCode, IsFieldKind, AreFields, AreParams, AreLocals, IsItem, IsUnit}
use Rattle.c_text.specs.CUnit.{IsSound}
use Rattle.c_text.proofs.Arena.{slice_get-some}
use Rattle.c_text.proofs.Trees.{expr_of-is, code_of-is}

name_is : (nodes : Nodes) → IsSound nodes → (n : ℕ) → n < length nodes.names → IsName (bytes_at nodes.names n)
name_is nodes sound n within =
    let found = slice_get-some nodes.names n within in
    subst (λ (o : Option (List ℕ)). IsName (unwrap_or o [])) (sym found.1) (sound.names n found.0 found.1)

string_is : (nodes : Nodes) → IsSound nodes → (s : ℕ) → s < length nodes.strings → IsTrue (is_string (bytes_at nodes.strings s))
string_is nodes sound s within =
    let found = slice_get-some nodes.strings s within in
    subst (λ (o : Option (List ℕ)). IsTrue (is_string (unwrap_or o []))) (sym found.1) (sound.strings s found.0 found.1)

type_is : (nodes : Nodes) → IsSound nodes → (t : CType) → HasType nodes t → IsType (type_in nodes.names t)
type_is nodes sound (type.Uint u) h = tt
type_is nodes sound type.Size h = tt
type_is nodes sound type.Bool h = tt
type_is nodes sound (type.UintPointer u) h = tt
type_is nodes sound (type.StructPointer n) h = name_is nodes sound n.0 h
type_is nodes sound type.Text h = tt

-- each expression below a number is one of the grammar
abbrev AllBelow : Nodes → ℕ → Type 0
AllBelow nodes below = (p : ℕ) → p < below → IsExpr (expr_of nodes p)

operands_are : (nodes : Nodes) (below : ℕ) → AllBelow nodes below → (es : List CExprId) → HasExprs below es → IsOperands (operands_in (expr_of nodes) es)
operands_are nodes below all [] h = tt
operands_are nodes below all (e ∷ es) h = (all e.0 h.0, operands_are nodes below all es h.1)

repeats_are : (look : ℕ → ExprTree) (op : COp) (es : List CExprId) → RepeatsLawfully op es → MayRepeat op (operands_in look es)
repeats_are look op [] h = tt
repeats_are look op (e ∷ es) h = h

args_are : (nodes : Nodes) → IsSound nodes → (below : ℕ) → AllBelow nodes below → (args : List CArg) → HasArgs nodes below args → IsArgs (args_in nodes.names (expr_of nodes) args)
args_are nodes sound below all [] h = tt
args_are nodes sound below all (arg.Expr e ∷ args) h = (all e.0 h.0, args_are nodes sound below all args h.1)
args_are nodes sound below all (arg.SizeOf n ∷ args) h = (name_is nodes sound n.0 h.0, args_are nodes sound below all args h.1)

made_is : (nodes : Nodes) → IsSound nodes → (below : ℕ) → AllBelow nodes below → (x : CExpr) → FitsExpr nodes below x → IsExpr (made_expr nodes.names (expr_of nodes) x)
made_is nodes sound below all (expr.Number n) h = h
made_is nodes sound below all (expr.Name n) h = name_is nodes sound n.0 h
made_is nodes sound below all (expr.Member e n) h = (h.0.1, all e.0 h.0.0, name_is nodes sound n.0 h.1)
made_is nodes sound below all (expr.Index e i) h = (h.0.1, all e.0 h.0.0, all i.0 h.1)
made_is nodes sound below all (expr.Deref e) h = (h.1, all e.0 h.0)
made_is nodes sound below all (expr.Operation op a b es) h = (all a.0 h.0, all b.0 h.1, operands_are nodes below all es h.2, repeats_are (expr_of nodes) op es h.3)
made_is nodes sound below all (expr.Unary op e) h = all e.0 h
made_is nodes sound below all (expr.Cast t e) h = (type_is nodes sound t h.0, all e.0 h.1)
made_is nodes sound below all (expr.Choice a b c) h = (all a.0 h.0, all b.0 h.1, all c.0 h.2)
made_is nodes sound below all (expr.Call c) h = (name_is nodes sound c.function.0 h.0, args_are nodes sound below all c.args h.1)

exprs_are : (nodes : Nodes) → IsSound nodes → (n : ℕ) (e : ℕ) → e < n → e < length nodes.exprs → IsExpr (expr_of nodes e)
exprs_are nodes sound zero e below within = absurd (omega (arith, below))
exprs_are nodes sound (suc n) e below within =
    let found = slice_get-some nodes.exprs e within in
    let fits = sound.exprs e found.0 found.1 in
    subst (λ (t : ExprTree). IsExpr t) (sym (expr_of-is nodes e found.0 found.1 fits))
    (made_is nodes sound e (λ p less. exprs_are nodes sound n p (omega (arith, less, below)) (omega (arith, less, within))) found.0 fits)

pub expr_is : (nodes : Nodes) → IsSound nodes → (e : ℕ) → e < length nodes.exprs → IsExpr (expr_of nodes e)
expr_is nodes sound e within = exprs_are nodes sound (suc e) e (omega arith) within

value_is : (nodes : Nodes) → IsSound nodes → (v : Option CExprId) → IfSome v (λ e. e.0 < length nodes.exprs) → IfSome (value_in (expr_of nodes) v) IsExpr
value_is nodes sound None h = tt
value_is nodes sound (Some e) h = expr_is nodes sound e.0 h

targets_are : (nodes : Nodes) → IsSound nodes → (v : Option CExprId) → IfSome v (HasTarget nodes (length nodes.exprs)) → IfSome (value_in (expr_of nodes) v) IsTarget
targets_are nodes sound None h = tt
targets_are nodes sound (Some e) h = (h.1, expr_is nodes sound e.0 h.0)

made_code_is : (nodes : Nodes) → IsSound nodes → (below : ℕ) → ((p : ℕ) → p < below → IsCode (code_of nodes p)) → (x : CStmt) → FitsStmt nodes below x → IsCode (made_code nodes.names (expr_of nodes) (code_of nodes) x)
made_code_is nodes sound below all stmt.End h = tt
made_code_is nodes sound below all (stmt.Block b r) h = (all b.0 h.0, all r.0 h.1)
made_code_is nodes sound below all (stmt.Empty r) h = all r.0 h
made_code_is nodes sound below all (stmt.Assign t v r) h = ((h.0.1, expr_is nodes sound t.0 h.0.0), expr_is nodes sound v.0 h.1, all r.0 h.2)
made_code_is nodes sound below all (stmt.Call t c r) h = (targets_are nodes sound t h.0, name_is nodes sound c.function.0 h.1.0, args_are nodes sound (length nodes.exprs) (expr_is nodes sound) c.args h.1.1, all r.0 h.2)
made_code_is nodes sound below all (stmt.Goto n r) h = (name_is nodes sound n.0 h.0, all r.0 h.1)
made_code_is nodes sound below all (stmt.If e b k o r) h = (expr_is nodes sound e.0 h.0, all b.0 h.1, h.3, all o.0 h.2, all r.0 h.4)
made_code_is nodes sound below all (stmt.While e b r) h = (expr_is nodes sound e.0 h.0, all b.0 h.1, all r.0 h.2)
made_code_is nodes sound below all (stmt.Switch e b r) h = (expr_is nodes sound e.0 h.0, all b.0 h.1, all r.0 h.2)
made_code_is nodes sound below all (stmt.Return v r) h = (value_is nodes sound v h.0, all r.0 h.1)
made_code_is nodes sound below all (stmt.Case n r) h = (h.0, h.1.1, all r.0 h.1.0)
made_code_is nodes sound below all (stmt.Default r) h = (h.1, all r.0 h.0)
made_code_is nodes sound below all (stmt.Label n r) h = (name_is nodes sound n.0 h.0, h.1.1, all r.0 h.1.0)

codes_are : (nodes : Nodes) → IsSound nodes → (n : ℕ) (s : ℕ) → s < n → s < length nodes.stmts → IsCode (code_of nodes s)
codes_are nodes sound zero s below within = absurd (omega (arith, below))
codes_are nodes sound (suc n) s below within =
    let found = slice_get-some nodes.stmts s within in
    let fits = sound.stmts s found.0 found.1 in
    subst (λ (c : Code). IsCode c) (sym (code_of-is nodes s found.0 found.1 fits))
    (made_code_is nodes sound s (λ p less. codes_are nodes sound n p (omega (arith, less, below)) (omega (arith, less, within))) found.0 fits)

pub code_is : (nodes : Nodes) → IsSound nodes → (s : ℕ) → s < length nodes.stmts → IsCode (code_of nodes s)
code_is nodes sound s within = codes_are nodes sound (suc s) s (omega arith) within

field_kind_is : (nodes : Nodes) → IsSound nodes → (t : CFieldType) → HasFieldType nodes t → IsFieldKind (field_kind nodes.names t)
field_kind_is nodes sound (held.Plain t) h = type_is nodes sound t h
field_kind_is nodes sound (held.Struct n) h = name_is nodes sound n.0 h

fields_are : (nodes : Nodes) → IsSound nodes → (fs : List CField) → HasFields nodes fs → AreFields (map (field_tree nodes.names) fs)
fields_are nodes sound [] h = tt
fields_are nodes sound (f ∷ fs) h = (field_kind_is nodes sound f.kind h.0.0, name_is nodes sound f.name.0 h.0.1, h.0.2, fields_are nodes sound fs h.1)

params_are : (nodes : Nodes) → IsSound nodes → (ps : List CParam) → HasParams nodes ps → AreParams (map (param_tree nodes.names) ps)
params_are nodes sound [] h = tt
params_are nodes sound (p ∷ ps) h = (type_is nodes sound p.kind h.0.0, name_is nodes sound p.name.0 h.0.1, params_are nodes sound ps h.1)

locals_are : (nodes : Nodes) → IsSound nodes → (ls : List CLocal) → HasLocals nodes ls → AreLocals (map (local_tree nodes.names (expr_of nodes)) ls)
locals_are nodes sound [] h = tt
locals_are nodes sound (l ∷ ls) h = (type_is nodes sound l.kind h.0.0, name_is nodes sound l.name.0 h.0.1, value_is nodes sound l.initial h.0.2, locals_are nodes sound ls h.1)

result_is : (nodes : Nodes) → IsSound nodes → (t : Option CType) → IfSome t (HasType nodes) → IfSome (option_map (type_in nodes.names) t) IsType
result_is nodes sound None h = tt
result_is nodes sound (Some t) h = type_is nodes sound t h

some_fields : (names : List (List ℕ)) (fs : List CField) → 0 < length fs → 0 < length (map (field_tree names) fs)
some_fields names [] h = h
some_fields names (f ∷ fs) h = omega arith

item_is : (nodes : Nodes) → IsSound nodes → (x : CItem) → FitsItem nodes x → IsItem (made_item nodes x)
item_is nodes sound (item.Struct fields n) h = (some_fields nodes.names fields h.0, fields_are nodes sound fields h.1, name_is nodes sound n.0 h.2)
item_is nodes sound (item.Text n s) h = (name_is nodes sound n.0 h.0, string_is nodes sound s.0 h.1)
item_is nodes sound (item.Function linkage result_type n params locals body) h = (result_is nodes sound result_type h.0, name_is nodes sound n.0 h.1, params_are nodes sound params h.2, locals_are nodes sound locals h.3, code_is nodes sound body.0 h.4)

items_are : (nodes : Nodes) → IsSound nodes → (xs : List CItem) → ((i : ℕ) (x : CItem) → slice_get xs i ≡ Some x → FitsItem nodes x) → IsUnit (map (made_item nodes) xs)
items_are nodes sound [] h = tt
items_are nodes sound (x ∷ xs) h = (item_is nodes sound x (h 0 x refl), items_are nodes sound xs (λ i y is. h (suc i) y is))

pub unit_is : (nodes : Nodes) → IsSound nodes → IsUnit (unit_tree nodes)
unfolding unit_tree
unit_is nodes sound = items_are nodes sound nodes.items sound.items
