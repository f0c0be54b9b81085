-- A unit's trees: each is made of those of its parts, and is kept while the unit grows.
use Rattle.std.proofs.Common.{◌≡◌, ℕ, ◌<◌, ◌≤◌, List, [], ◌∷◌, ◌++◌, length, Option, None, Some, refl, sym, ◌∙◌, ap, subst, arith, length-append, unwrap_or, IfSome}
use Rattle.std.specs.List.{slice_get}
use Rattle.c_text.specs.declared.kinds.CNumber.TheVariants.{Int}
use Rattle.c_text.specs.declared.nodes.CType.{CType}
use Rattle.c_text.specs.declared.nodes.CType.TheVariants as type
use Rattle.c_text.specs.declared.nodes.CArg.{CArg}
use Rattle.c_text.specs.declared.nodes.CArg.TheVariants as arg
use Rattle.c_text.specs.declared.nodes.CExpr.{CExpr}
use Rattle.c_text.specs.declared.nodes.CExpr.TheVariants as expr
use Rattle.c_text.specs.declared.nodes.CStmt.{CStmt}
use Rattle.c_text.specs.declared.nodes.CStmt.TheVariants as stmt
use Rattle.c_text.specs.declared.ids.CExprId.{CExprId}
use Rattle.c_text.specs.declared.ids.CNameId.{CNameId}
use Rattle.c_text.specs.CTree.{ExprTree, number, variable, pointed, unary, Code, finish, TypeTree}
use Rattle.c_text.specs.CNodes.{Nodes, bytes_at, type_in, operands_in, args_in, made_expr, expr_of, made_code, code_of, value_in}
use Rattle.c_text.specs.declared.nodes.CCall.{CCall}
use Rattle.c_text.specs.declared.nodes.CItem.{CItem}
use Rattle.c_text.specs.declared.nodes.CItem.TheVariants as item
use Rattle.c_text.specs.declared.nodes.CFieldType.{CFieldType}
use Rattle.c_text.specs.declared.nodes.CFieldType.TheVariants as held
use Rattle.c_text.specs.declared.nodes.CField.{CField}
use Rattle.c_text.specs.declared.nodes.CParam.{CParam}
use Rattle.c_text.specs.declared.nodes.CLocal.{CLocal}
use Rattle.c_text.specs.declared.ids.CStmtId.{CStmtId}
use Rattle.c_text.specs.CGrammar.{is_literal, is_lvalue, is_finish, FitsElse}
use Rattle.c_text.specs.CUnit.{IsSound, Extends}
use Rattle.c_text.specs.CNodes.{tree_at}
use Rattle.c_text.specs.CFits.{FitsExpr, FitsStmt, FitsItem, HasExprs, HasArgs, HasType, HasCall, HasPointer, HasTarget, HasStatement, HasFieldType, HasFields, HasParams, HasLocals}
use Rattle.c_text.proofs.Arena.{slice_get-front, Agrees, tree_at-is, tree_at-kept}

pub bytes_at-front : (names more : List (List ℕ)) (n : ℕ) → n < length names → bytes_at (names ++ more) n ≡ bytes_at names n
bytes_at-front names more n h = ap (λ t. unwrap_or t []) (slice_get-front names more n h)

pub type_in-front : (nodes : Nodes) (more : List (List ℕ)) (t : CType) → HasType nodes t → type_in (nodes.names ++ more) t ≡ type_in nodes.names t
type_in-front nodes more (type.Uint u) h = refl
type_in-front nodes more type.Size h = refl
type_in-front nodes more type.Bool h = refl
type_in-front nodes more (type.UintPointer u) h = refl
type_in-front nodes more (type.StructPointer n) h = ap TypeTree.struct_pointer (bytes_at-front nodes.names more n.0 h)
type_in-front nodes more type.Text h = refl

operands_in-same : (below : ℕ) (f g : ℕ → ExprTree) → ((p : ℕ) → p < below → f p ≡ g p) → (es : List CExprId) → HasExprs below es → operands_in f es ≡ operands_in g es
operands_in-same below f g agree [] h = refl
operands_in-same below f g agree (e ∷ es) h = let a = agree e.0 h.0 in let b = operands_in-same below f g agree es h.1 in cc (a, b)

args_in-same : (nodes : Nodes) (more : List (List ℕ)) (below : ℕ) (f g : ℕ → ExprTree) → ((p : ℕ) → p < below → f p ≡ g p) → (args : List CArg) → HasArgs nodes below args → args_in (nodes.names ++ more) f args ≡ args_in nodes.names g args
args_in-same nodes more below f g agree [] h = refl
args_in-same nodes more below f g agree (arg.Expr e ∷ args) h = let a = agree e.0 h.0 in let b = args_in-same nodes more below f g agree args h.1 in cc (a, b)
args_in-same nodes more below f g agree (arg.SizeOf n ∷ args) h = let a = bytes_at-front nodes.names more n.0 h.0 in let b = args_in-same nodes more below f g agree args h.1 in cc (a, b)

pub made_expr-same : (nodes : Nodes) (more : List (List ℕ)) (below : ℕ) (x : CExpr) → FitsExpr nodes below x → (f g : ℕ → ExprTree) → ((p : ℕ) → p < below → f p ≡ g p) → made_expr (nodes.names ++ more) f x ≡ made_expr nodes.names g x
made_expr-same nodes more below (expr.Number n) h f g agree = refl
made_expr-same nodes more below (expr.Name n) h f g agree = ap variable (bytes_at-front nodes.names more n.0 h)
made_expr-same nodes more below (expr.Member e n) h f g agree = let a = agree e.0 h.0.0 in let b = bytes_at-front nodes.names more n.0 h.1 in cc (a, b)
made_expr-same nodes more below (expr.Index e i) h f g agree = let a = agree e.0 h.0.0 in let b = agree i.0 h.1 in cc (a, b)
made_expr-same nodes more below (expr.Deref e) h f g agree = ap pointed (agree e.0 h.0)
made_expr-same nodes more below (expr.Operation op a b es) h f g agree = let p = agree a.0 h.0 in let q = agree b.0 h.1 in let r = operands_in-same below f g agree es h.2 in cc (p, q, r)
made_expr-same nodes more below (expr.Unary op e) h f g agree = ap (unary op) (agree e.0 h)
made_expr-same nodes more below (expr.Cast t e) h f g agree = let a = type_in-front nodes more t h.0 in let b = agree e.0 h.1 in cc (a, b)
made_expr-same nodes more below (expr.Choice a b c) h f g agree = let p = agree a.0 h.0 in let q = agree b.0 h.1 in let r = agree c.0 h.2 in cc (p, q, r)
made_expr-same nodes more below (expr.Call c) h f g agree = let a = bytes_at-front nodes.names more c.function.0 h.0 in let b = args_in-same nodes more below f g agree c.args h.1 in cc (a, b)

pub append_nil : {A : Type 0} (xs : List A) → xs ++ [] ≡ xs
append_nil [] = refl
append_nil (x ∷ xs) = ap (λ ys. x ∷ ys) (append_nil xs)

pub made_expr-agrees : (nodes : Nodes) (below : ℕ) (x : CExpr) → FitsExpr nodes below x → Agrees (made_expr nodes.names) below x
made_expr-agrees nodes below x h f g agree =
    ap (λ (names : List (List ℕ)). made_expr names f x) (sym (append_nil nodes.names)) ∙ made_expr-same nodes [] below x h f g agree

pub expr_of-is : (nodes : Nodes) (e : ℕ) (x : CExpr) → slice_get nodes.exprs e ≡ Some x → FitsExpr nodes e x → expr_of nodes e ≡ made_expr nodes.names (expr_of nodes) x
unfolding expr_of
expr_of-is nodes e x h fits = tree_at-is (made_expr nodes.names) (number (Int 0)) nodes.exprs e x h (made_expr-agrees nodes e x fits)

value_in-same : (below : ℕ) (f g : ℕ → ExprTree) → ((p : ℕ) → p < below → f p ≡ g p) → (v : Option CExprId) → IfSome v (λ e. e.0 < below) → value_in f v ≡ value_in g v
value_in-same below f g agree None h = refl
value_in-same below f g agree (Some e) h = ap Some (agree e.0 h)

target_below : (nodes : Nodes) (below : ℕ) (v : Option CExprId) → IfSome v (HasTarget nodes below) → IfSome v (λ e. e.0 < below)
target_below nodes below None h = tt
target_below nodes below (Some e) h = h.0

-- `look` and `other` give the trees of expressions, `f` and `g` those of blocks
pub made_code-same : (nodes : Nodes) (more : List (List ℕ)) (look other : ℕ → ExprTree) → ((p : ℕ) → p < length nodes.exprs → look p ≡ other p) → (below : ℕ) (x : CStmt) → FitsStmt nodes below x → (f g : ℕ → Code) → ((p : ℕ) → p < below → f p ≡ g p) → made_code (nodes.names ++ more) look f x ≡ made_code nodes.names other g x
made_code-same nodes more look other same below stmt.End h f g agree = refl
made_code-same nodes more look other same below (stmt.Block b r) h f g agree = let p = agree b.0 h.0 in let q = agree r.0 h.1 in cc (p, q)
made_code-same nodes more look other same below (stmt.Empty r) h f g agree = let p = agree r.0 h in cc (p)
made_code-same nodes more look other same below (stmt.Assign t v r) h f g agree = let p = same t.0 h.0.0 in let q = same v.0 h.1 in let s = agree r.0 h.2 in cc (p, q, s)
made_code-same nodes more look other same below (stmt.Call t c r) h f g agree = let p = value_in-same (length nodes.exprs) look other same t (target_below nodes (length nodes.exprs) t h.0) in let q = bytes_at-front nodes.names more c.function.0 h.1.0 in let s = args_in-same nodes more (length nodes.exprs) look other same c.args h.1.1 in let u = agree r.0 h.2 in cc (p, q, s, u)
made_code-same nodes more look other same below (stmt.Goto n r) h f g agree = let p = bytes_at-front nodes.names more n.0 h.0 in let q = agree r.0 h.1 in cc (p, q)
made_code-same nodes more look other same below (stmt.If e b k o r) h f g agree = let p = same e.0 h.0 in let q = agree b.0 h.1 in let s = agree o.0 h.2 in let u = agree r.0 h.4 in cc (p, q, s, u)
made_code-same nodes more look other same below (stmt.While e b r) h f g agree = let p = same e.0 h.0 in let q = agree b.0 h.1 in let s = agree r.0 h.2 in cc (p, q, s)
made_code-same nodes more look other same below (stmt.Switch e b r) h f g agree = let p = same e.0 h.0 in let q = agree b.0 h.1 in let s = agree r.0 h.2 in cc (p, q, s)
made_code-same nodes more look other same below (stmt.Return v r) h f g agree = let p = value_in-same (length nodes.exprs) look other same v h.0 in let q = agree r.0 h.1 in cc (p, q)
made_code-same nodes more look other same below (stmt.Case n r) h f g agree = let p = agree r.0 h.1.0 in cc (p)
made_code-same nodes more look other same below (stmt.Default r) h f g agree = let p = agree r.0 h.0 in cc (p)
made_code-same nodes more look other same below (stmt.Label n r) h f g agree = let p = bytes_at-front nodes.names more n.0 h.0 in let q = agree r.0 h.1.0 in cc (p, q)

pub made_code-agrees : (nodes : Nodes) (below : ℕ) (x : CStmt) → FitsStmt nodes below x → Agrees (made_code nodes.names (expr_of nodes)) below x
made_code-agrees nodes below x h f g agree =
    ap (λ (names : List (List ℕ)). made_code names (expr_of nodes) f x) (sym (append_nil nodes.names)) ∙ made_code-same nodes [] (expr_of nodes) (expr_of nodes) (λ p less. refl) below x h f g agree

pub code_of-is : (nodes : Nodes) (s : ℕ) (x : CStmt) → slice_get nodes.stmts s ≡ Some x → FitsStmt nodes s x → code_of nodes s ≡ made_code nodes.names (expr_of nodes) (code_of nodes) x
unfolding code_of
code_of-is nodes s x h fits = tree_at-is (made_code nodes.names (expr_of nodes)) finish nodes.stmts s x h (made_code-agrees nodes s x fits)

-- Trees are kept while the unit grows.
pub expr_of-kept : (old new : Nodes) → IsSound old → Extends old new → (e : ℕ) → e < length old.exprs → expr_of new e ≡ expr_of old e
unfolding expr_of
expr_of-kept old new sound grows e within =
    ap (λ (names : List (List ℕ)). tree_at (made_expr names) (number (Int 0)) new.exprs e) grows.names
    ∙ (ap (λ (xs : List CExpr). tree_at (made_expr (old.names ++ grows.more.names)) (number (Int 0)) xs e) grows.exprs
    ∙ tree_at-kept (made_expr old.names) (made_expr (old.names ++ grows.more.names)) (number (Int 0)) old.exprs grows.more.exprs (λ i x is f g agree. made_expr-same old grows.more.names i x (sound.exprs i x is) f g agree) e within)

pub code_of-kept : (old new : Nodes) → IsSound old → Extends old new → (s : ℕ) → s < length old.stmts → code_of new s ≡ code_of old s
unfolding code_of
code_of-kept old new sound grows s within =
    ap (λ (names : List (List ℕ)). tree_at (made_code names (expr_of new)) finish new.stmts s) grows.names
    ∙ (ap (λ (xs : List CStmt). tree_at (made_code (old.names ++ grows.more.names) (expr_of new)) finish xs s) grows.stmts
    ∙ tree_at-kept (made_code old.names (expr_of old)) (made_code (old.names ++ grows.more.names) (expr_of new)) finish old.stmts grows.more.stmts (λ i x is f g agree. made_code-same old grows.more.names (expr_of new) (expr_of old) (λ p less. expr_of-kept old new sound grows p less) i x (sound.stmts i x is) f g agree) s within)

-- Nodes fit while the unit grows.
longer : {X : Type 0} (xs ys zs : List X) → ys ≡ xs ++ zs → length xs ≤ length ys
longer xs ys zs e = omega (arith, ap length e, length-append xs zs)

name_kept : (old new : Nodes) → Extends old new → (n : CNameId) → n.0 < length old.names → n.0 < length new.names
name_kept old new grows n h = omega (arith, h, longer old.names new.names grows.more.names grows.names)

type_kept : (old new : Nodes) → Extends old new → (t : CType) → HasType old t → HasType new t
type_kept old new grows (type.Uint u) h = tt
type_kept old new grows type.Size h = tt
type_kept old new grows type.Bool h = tt
type_kept old new grows (type.UintPointer u) h = tt
type_kept old new grows (type.StructPointer n) h = name_kept old new grows n h
type_kept old new grows type.Text h = tt

args_kept : (old new : Nodes) → Extends old new → (below more : ℕ) → below ≤ more → (args : List CArg) → HasArgs old below args → HasArgs new more args
args_kept old new grows below more le [] h = tt
args_kept old new grows below more le (arg.Expr e ∷ args) h = (omega (arith, le, h.0), args_kept old new grows below more le args h.1)
args_kept old new grows below more le (arg.SizeOf n ∷ args) h = (name_kept old new grows n h.0, args_kept old new grows below more le args h.1)

pointer_kept : (old new : Nodes) → IsSound old → Extends old new → (below : ℕ) → below ≤ length old.exprs → (e : CExprId) → HasPointer old below e → HasPointer new below e
pointer_kept old new sound grows below within e h = (h.0, ap is_literal (expr_of-kept old new sound grows e.0 (omega (arith, within, h.0))) ∙ h.1)

target_kept : (old new : Nodes) → IsSound old → Extends old new → (e : CExprId) → HasTarget old (length old.exprs) e → HasTarget new (length new.exprs) e
target_kept old new sound grows e h = (omega (arith, h.0, longer old.exprs new.exprs grows.more.exprs grows.exprs), ap is_lvalue (expr_of-kept old new sound grows e.0 h.0) ∙ h.1)

statement_kept : (old new : Nodes) → IsSound old → Extends old new → (below : ℕ) → below ≤ length old.stmts → (s : CStmtId) → HasStatement old below s → HasStatement new below s
statement_kept old new sound grows below within s h = (h.0, ap is_finish (code_of-kept old new sound grows s.0 (omega (arith, within, h.0))) ∙ h.1)

pub expr_fits : (old new : Nodes) → IsSound old → Extends old new → (below : ℕ) → below ≤ length old.exprs → (x : CExpr) → FitsExpr old below x → FitsExpr new below x
expr_fits old new sound grows below within (expr.Number n) h = h
expr_fits old new sound grows below within (expr.Name n) h = name_kept old new grows n h
expr_fits old new sound grows below within (expr.Member e n) h = (pointer_kept old new sound grows below within e h.0, name_kept old new grows n h.1)
expr_fits old new sound grows below within (expr.Index e i) h = (pointer_kept old new sound grows below within e h.0, h.1)
expr_fits old new sound grows below within (expr.Deref e) h = pointer_kept old new sound grows below within e h
expr_fits old new sound grows below within (expr.Operation op a b es) h = h
expr_fits old new sound grows below within (expr.Unary op e) h = h
expr_fits old new sound grows below within (expr.Cast t e) h = (type_kept old new grows t h.0, h.1)
expr_fits old new sound grows below within (expr.Choice a b c) h = h
expr_fits old new sound grows below within (expr.Call c) h = (name_kept old new grows c.function h.0, args_kept old new grows below below (omega arith) c.args h.1)

more_exprs : (old new : Nodes) → Extends old new → (e : CExprId) → e.0 < length old.exprs → e.0 < length new.exprs
more_exprs old new grows e h = omega (arith, h, longer old.exprs new.exprs grows.more.exprs grows.exprs)

value_kept : (old new : Nodes) → Extends old new → (v : Option CExprId) → IfSome v (λ e. e.0 < length old.exprs) → IfSome v (λ e. e.0 < length new.exprs)
value_kept old new grows None h = tt
value_kept old new grows (Some e) h = more_exprs old new grows e h

targets_kept : (old new : Nodes) → IsSound old → Extends old new → (v : Option CExprId) → IfSome v (HasTarget old (length old.exprs)) → IfSome v (HasTarget new (length new.exprs))
targets_kept old new sound grows None h = tt
targets_kept old new sound grows (Some e) h = target_kept old new sound grows e h

call_kept : (old new : Nodes) → Extends old new → (c : CCall) → HasCall old (length old.exprs) c → HasCall new (length new.exprs) c
call_kept old new grows c h = (name_kept old new grows c.function h.0, args_kept old new grows (length old.exprs) (length new.exprs) (longer old.exprs new.exprs grows.more.exprs grows.exprs) c.args h.1)

pub stmt_fits : (old new : Nodes) → IsSound old → Extends old new → (below : ℕ) → below ≤ length old.stmts → (x : CStmt) → FitsStmt old below x → FitsStmt new below x
stmt_fits old new sound grows below within stmt.End h = tt
stmt_fits old new sound grows below within (stmt.Block b r) h = h
stmt_fits old new sound grows below within (stmt.Empty r) h = h
stmt_fits old new sound grows below within (stmt.Assign t v r) h = (target_kept old new sound grows t h.0, more_exprs old new grows v h.1, h.2)
stmt_fits old new sound grows below within (stmt.Call t c r) h = (targets_kept old new sound grows t h.0, call_kept old new grows c h.1, h.2)
stmt_fits old new sound grows below within (stmt.Goto n r) h = (name_kept old new grows n h.0, h.1)
stmt_fits old new sound grows below within (stmt.If e b k o r) h = (more_exprs old new grows e h.0, h.1, h.2, subst (λ (c : Code). FitsElse k c) (sym (code_of-kept old new sound grows o.0 (omega (arith, within, h.2)))) h.3, h.4)
stmt_fits old new sound grows below within (stmt.While e b r) h = (more_exprs old new grows e h.0, h.1, h.2)
stmt_fits old new sound grows below within (stmt.Switch e b r) h = (more_exprs old new grows e h.0, h.1, h.2)
stmt_fits old new sound grows below within (stmt.Return v r) h = (value_kept old new grows v h.0, h.1)
stmt_fits old new sound grows below within (stmt.Case n r) h = (h.0, statement_kept old new sound grows below within r h.1)
stmt_fits old new sound grows below within (stmt.Default r) h = statement_kept old new sound grows below within r h
stmt_fits old new sound grows below within (stmt.Label n r) h = (name_kept old new grows n h.0, statement_kept old new sound grows below within r h.1)

field_type_kept : (old new : Nodes) → Extends old new → (t : CFieldType) → HasFieldType old t → HasFieldType new t
field_type_kept old new grows (held.Plain t) h = type_kept old new grows t h
field_type_kept old new grows (held.Struct n) h = name_kept old new grows n h

fields_kept : (old new : Nodes) → Extends old new → (fs : List CField) → HasFields old fs → HasFields new fs
fields_kept old new grows [] h = tt
fields_kept old new grows (f ∷ fs) h = ((field_type_kept old new grows f.kind h.0.0, name_kept old new grows f.name h.0.1, h.0.2), fields_kept old new grows fs h.1)

params_kept : (old new : Nodes) → Extends old new → (ps : List CParam) → HasParams old ps → HasParams new ps
params_kept old new grows [] h = tt
params_kept old new grows (p ∷ ps) h = ((type_kept old new grows p.kind h.0.0, name_kept old new grows p.name h.0.1), params_kept old new grows ps h.1)

locals_kept : (old new : Nodes) → Extends old new → (ls : List CLocal) → HasLocals old ls → HasLocals new ls
locals_kept old new grows [] h = tt
locals_kept old new grows (l ∷ ls) h = ((type_kept old new grows l.kind h.0.0, name_kept old new grows l.name h.0.1, value_kept old new grows l.initial h.0.2), locals_kept old new grows ls h.1)

result_kept : (old new : Nodes) → Extends old new → (t : Option CType) → IfSome t (HasType old) → IfSome t (HasType new)
result_kept old new grows None h = tt
result_kept old new grows (Some t) h = type_kept old new grows t h

pub item_fits : (old new : Nodes) → Extends old new → (x : CItem) → FitsItem old x → FitsItem new x
item_fits old new grows (item.Struct fields n) h = (h.0, fields_kept old new grows fields h.1, name_kept old new grows n h.2)
item_fits old new grows (item.Text n s) h = (name_kept old new grows n h.0, omega (arith, h.1, longer old.strings new.strings grows.more.strings grows.strings))
item_fits old new grows (item.Function linkage result_type n params locals body) h = (result_kept old new grows result_type h.0, name_kept old new grows n h.1, params_kept old new grows params h.2, locals_kept old new grows locals h.3, omega (arith, h.4, longer old.stmts new.stmts grows.more.stmts grows.stmts))

-- the tree of a node that is known
pub expr_of-node : (nodes : Nodes) (e : ℕ) (x y : CExpr) → expr_of nodes e ≡ made_expr nodes.names (expr_of nodes) x → x ≡ y → expr_of nodes e ≡ made_expr nodes.names (expr_of nodes) y
expr_of-node nodes e x y tree is = tree ∙ ap (made_expr nodes.names (expr_of nodes)) is

pub code_of-node : (nodes : Nodes) (s : ℕ) (x y : CStmt) → code_of nodes s ≡ made_code nodes.names (expr_of nodes) (code_of nodes) x → x ≡ y → code_of nodes s ≡ made_code nodes.names (expr_of nodes) (code_of nodes) y
code_of-node nodes s x y tree is = tree ∙ ap (made_code nodes.names (expr_of nodes) (code_of nodes)) is
