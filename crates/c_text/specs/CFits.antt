-- What a node asks of its unit: its parts are nodes of the unit with numbers below its own, `below`, and it is an
-- alternative of the grammar.
use Rattle.std.specs.Prelude.{◌≡◌, ◌<◌, ℕ, true, false, List, [], ◌∷◌, length, ⊤, IsTrue, IfSome}
use Rattle.c_text.specs.declared.ids.CExprId.{CExprId}
use Rattle.c_text.specs.declared.ids.CNameId.{CNameId}
use Rattle.c_text.specs.declared.ids.CStmtId.{CStmtId}
use Rattle.c_text.specs.declared.kinds.COp.{COp}
use Rattle.c_text.specs.declared.nodes.CType.{CType}
use Rattle.c_text.specs.declared.nodes.CType.TheVariants as type
use Rattle.c_text.specs.declared.nodes.CArg.{CArg}
use Rattle.c_text.specs.declared.nodes.CArg.TheVariants as arg
use Rattle.c_text.specs.declared.nodes.CCall.{CCall}
use Rattle.c_text.specs.declared.nodes.CExpr.{CExpr}
use Rattle.c_text.specs.declared.nodes.CExpr.TheVariants as expr
use Rattle.c_text.specs.declared.nodes.CStmt.{CStmt}
use Rattle.c_text.specs.declared.nodes.CStmt.TheVariants as stmt
use Rattle.c_text.specs.declared.nodes.CItem.{CItem}
use Rattle.c_text.specs.declared.nodes.CItem.TheVariants as item
use Rattle.c_text.specs.declared.nodes.CFieldType.{CFieldType}
use Rattle.c_text.specs.declared.nodes.CFieldType.TheVariants as held
use Rattle.c_text.specs.declared.nodes.CField.{CField}
use Rattle.c_text.specs.declared.nodes.CParam.{CParam}
use Rattle.c_text.specs.declared.nodes.CLocal.{CLocal}
use Rattle.c_text.specs.CNodes.{Nodes, expr_of, code_of}
use Rattle.c_text.specs.CSpelling.{IsLiteral}
use Rattle.c_text.specs.CGrammar.{is_literal, is_lvalue, is_finish, repeats, FitsElse}

abbrev pub HasName : Nodes → CNameId → Type 0
HasName nodes n = n.0 < length nodes.names

-- an expression that isn't a literal
abbrev pub HasPointer : Nodes → ℕ → CExprId → Type 0
HasPointer nodes below e = (e.0 < below) × (is_literal (expr_of nodes e.0) ≡ false)

-- an lvalue
abbrev pub HasTarget : Nodes → ℕ → CExprId → Type 0
HasTarget nodes below e = (e.0 < below) × (is_lvalue (expr_of nodes e.0) ≡ true)

-- a block with a statement in it
abbrev pub HasStatement : Nodes → ℕ → CStmtId → Type 0
HasStatement nodes below s = (s.0 < below) × (is_finish (code_of nodes s.0) ≡ false)

abbrev pub HasType : Nodes → CType → Type 0
HasType nodes (type.StructPointer n) = HasName nodes n
HasType nodes _ = ⊤

abbrev pub HasExprs : ℕ → List CExprId → Type 0
HasExprs below [] = ⊤
HasExprs below (e ∷ es) = (e.0 < below) × HasExprs below es

abbrev pub HasArg : Nodes → ℕ → CArg → Type 0
HasArg nodes below (arg.Expr e) = e.0 < below
HasArg nodes below (arg.SizeOf n) = HasName nodes n

abbrev pub HasArgs : Nodes → ℕ → List CArg → Type 0
HasArgs nodes below [] = ⊤
HasArgs nodes below (a ∷ args) = HasArg nodes below a × HasArgs nodes below args

abbrev pub HasCall : Nodes → ℕ → CCall → Type 0
HasCall nodes below c = HasName nodes c.function × HasArgs nodes below c.args

abbrev pub RepeatsLawfully : COp → List CExprId → Type 0
RepeatsLawfully op [] = ⊤
RepeatsLawfully op (_ ∷ _) = IsTrue (repeats op)

abbrev pub FitsExpr : Nodes → (below : ℕ) → CExpr → Type 0
FitsExpr nodes below (expr.Number n) = IsLiteral n
FitsExpr nodes below (expr.Name n) = HasName nodes n
FitsExpr nodes below (expr.Member e n) = HasPointer nodes below e × HasName nodes n
FitsExpr nodes below (expr.Index e i) = HasPointer nodes below e × (i.0 < below)
FitsExpr nodes below (expr.Deref e) = HasPointer nodes below e
FitsExpr nodes below (expr.Operation op a b es) = (a.0 < below) × (b.0 < below) × HasExprs below es × RepeatsLawfully op es
FitsExpr nodes below (expr.Unary op e) = e.0 < below
FitsExpr nodes below (expr.Cast t e) = HasType nodes t × (e.0 < below)
FitsExpr nodes below (expr.Choice a b c) = (a.0 < below) × (b.0 < below) × (c.0 < below)
FitsExpr nodes below (expr.Call c) = HasCall nodes below c

abbrev pub FitsStmt : Nodes → (below : ℕ) → CStmt → Type 0
FitsStmt nodes below stmt.End = ⊤
FitsStmt nodes below (stmt.Block b r) = (b.0 < below) × (r.0 < below)
FitsStmt nodes below (stmt.Empty r) = r.0 < below
FitsStmt nodes below (stmt.Assign t v r) = HasTarget nodes (length nodes.exprs) t × (v.0 < length nodes.exprs) × (r.0 < below)
FitsStmt nodes below (stmt.Call t c r) = IfSome t (HasTarget nodes (length nodes.exprs)) × HasCall nodes (length nodes.exprs) c × (r.0 < below)
FitsStmt nodes below (stmt.Goto n r) = HasName nodes n × (r.0 < below)
FitsStmt nodes below (stmt.If e b k o r) = (e.0 < length nodes.exprs) × (b.0 < below) × (o.0 < below) × FitsElse k (code_of nodes o.0) × (r.0 < below)
FitsStmt nodes below (stmt.While e b r) = (e.0 < length nodes.exprs) × (b.0 < below) × (r.0 < below)
FitsStmt nodes below (stmt.Switch e b r) = (e.0 < length nodes.exprs) × (b.0 < below) × (r.0 < below)
FitsStmt nodes below (stmt.Return v r) = IfSome v (λ e. e.0 < length nodes.exprs) × (r.0 < below)
FitsStmt nodes below (stmt.Case n r) = IsLiteral n × HasStatement nodes below r
FitsStmt nodes below (stmt.Default r) = HasStatement nodes below r
FitsStmt nodes below (stmt.Label n r) = HasName nodes n × HasStatement nodes below r

abbrev pub HasFieldType : Nodes → CFieldType → Type 0
HasFieldType nodes (held.Plain t) = HasType nodes t
HasFieldType nodes (held.Struct n) = HasName nodes n

abbrev pub HasField : Nodes → CField → Type 0
HasField nodes f = HasFieldType nodes f.kind × HasName nodes f.name × IfSome f.count IsLiteral

abbrev pub HasFields : Nodes → List CField → Type 0
HasFields nodes [] = ⊤
HasFields nodes (f ∷ fs) = HasField nodes f × HasFields nodes fs

abbrev pub HasParam : Nodes → CParam → Type 0
HasParam nodes p = HasType nodes p.kind × HasName nodes p.name

abbrev pub HasParams : Nodes → List CParam → Type 0
HasParams nodes [] = ⊤
HasParams nodes (p ∷ ps) = HasParam nodes p × HasParams nodes ps

abbrev pub HasLocal : Nodes → CLocal → Type 0
HasLocal nodes l = HasType nodes l.kind × HasName nodes l.name × IfSome l.initial (λ e. e.0 < length nodes.exprs)

abbrev pub HasLocals : Nodes → List CLocal → Type 0
HasLocals nodes [] = ⊤
HasLocals nodes (l ∷ ls) = HasLocal nodes l × HasLocals nodes ls

abbrev pub FitsItem : Nodes → CItem → Type 0
FitsItem nodes (item.Struct fields n) = (0 < length fields) × HasFields nodes fields × HasName nodes n
FitsItem nodes (item.Text n s) = HasName nodes n × (s.0 < length nodes.strings)
FitsItem nodes (item.Function linkage result_type n params locals body) = IfSome result_type (HasType nodes) × HasName nodes n × HasParams nodes params × HasLocals nodes locals × (body.0 < length nodes.stmts)
