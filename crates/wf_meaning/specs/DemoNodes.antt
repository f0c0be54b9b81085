-- The package `demo` as a list of nodes: what a typed package holds, of which the tree of `Demo.antt` is a function.
use Rattle.std.specs.Prelude.{ℕ, true, false, List, [], ◌∷◌, ◌++◌, Option, None, Some, codes}
use Rattle.wf_text.specs.declared.place.Place.{Place}
use Rattle.wf_base.specs.declared.widths.Width.TheVariants.{W32, W64}
use Rattle.wf_base.specs.declared.marks.Mark.TheVariants.{Pure, Coroutine}
use Rattle.wf_base.specs.declared.base_methods.BaseSig.TheVariants as sigs
use Rattle.wf_base.specs.declared.base_methods.ReadForm.TheVariants.{ReadU8}
use Rattle.wf_ast.specs.declared.numbers.ExprId.{ExprId}
use Rattle.wf_ast.specs.declared.numbers.StmtId.{StmtId}
use Rattle.wf_ast.specs.declared.numbers.TextId.{TextId}
use Rattle.wf_ast.specs.declared.operators.Op.TheVariants as ops
use Rattle.wf_ast.specs.declared.types.Ty.{Ty}
use Rattle.wf_ast.specs.declared.types.Ty.TheVariants as types
use Rattle.wf_ast.specs.declared.typed_code.Expr.{Expr}
use Rattle.wf_ast.specs.declared.typed_code.Expr.TheVariants as exprs
use Rattle.wf_ast.specs.declared.typed_code.ExprNode.{ExprNode}
use Rattle.wf_ast.specs.declared.typed_code.Callee.TheVariants as callees
use Rattle.wf_ast.specs.declared.typed_code.Stmt.{Stmt}
use Rattle.wf_ast.specs.declared.typed_code.Stmt.TheVariants as stmts
use Rattle.wf_ast.specs.declared.typed_code.StmtNode.{StmtNode}
use Rattle.wf_ast.specs.declared.declarations.Var.{Var}
use Rattle.wf_ast.specs.declared.typed_nodes.TypedNodes.{TypedNodes}
use Rattle.wf_ast.specs.BaseStatuses.{base_statuses}
use Rattle.wf_meaning.specs.Examples.{on, byte_ty, word_ty}

abbrev node : Expr → Place → List Place → ExprNode
node expr at signs = record { expr = expr; at = at; signs = signs }

abbrev statement : Stmt → Place → Place → StmtNode
statement stmt at inner = record { stmt = stmt; at = at; inner = inner }

abbrev expr_id : ℕ → ExprId
expr_id n = record { 0 = n }

abbrev stmt_id : ℕ → StmtId
stmt_id n = record { 0 = n }

abbrev text_id : ℕ → TextId
text_id n = record { 0 = n }

abbrev var : (name : ℕ) → Ty → Place → Var
var name ty at = record { name = text_id name; ty = ty; at = at }

abbrev expr_nodes : List ExprNode
expr_nodes =
    node (exprs.Local (record { 0 = 0 })) (on 12 9) []
    ∷ node (exprs.Arg (record { 0 = 0 })) (on 12 13) []
    ∷ node (exprs.Status (record { 0 = 0 })) (on 14 20) []
    ∷ node (exprs.Local (record { 0 = 0 })) (on 13 12) []
    ∷ node (exprs.Number 0) (on 13 17) []
    ∷ node (exprs.Chain ops.Same (expr_id 3 ∷ expr_id 4 ∷ [])) (on 13 14) (on 13 14 ∷ [])
    ∷ node (exprs.Status (record { 0 = 10 })) (on 17 20) []
    ∷ node (exprs.Local (record { 0 = 0 })) (on 16 13) []
    ∷ node (exprs.Number 48) (on 16 17) []
    ∷ node (exprs.Chain ops.Less (expr_id 7 ∷ expr_id 8 ∷ [])) (on 16 15) (on 16 15 ∷ [])
    ∷ node (exprs.Number 57) (on 16 28) []
    ∷ node (exprs.Local (record { 0 = 0 })) (on 16 35) []
    ∷ node (exprs.Chain ops.Less (expr_id 10 ∷ expr_id 11 ∷ [])) (on 16 33) (on 16 33 ∷ [])
    ∷ node (exprs.Chain ops.Or (expr_id 9 ∷ expr_id 12 ∷ [])) (on 16 24) (on 16 24 ∷ [])
    ∷ node (exprs.Local (record { 0 = 0 })) (on 19 9) []
    ∷ node (exprs.Local (record { 0 = 0 })) (on 19 9) []
    ∷ node (exprs.Number 48) (on 19 14) []
    ∷ node (exprs.Chain ops.Sub (expr_id 15 ∷ expr_id 16 ∷ [])) (on 19 11) (on 19 11 ∷ [])
    ∷ node (exprs.Field (record { 0 = 0 })) (on 21 13) []
    ∷ node (exprs.Number 10) (on 21 25) []
    ∷ node (exprs.Field (record { 0 = 0 })) (on 21 30) []
    ∷ node (exprs.Chain ops.Mul (expr_id 19 ∷ expr_id 20 ∷ [])) (on 21 28) (on 21 28 ∷ [])
    ∷ node (exprs.Local (record { 0 = 0 })) (on 21 43) []
    ∷ node (exprs.Convert (expr_id 22) W32) (on 21 45) (on 21 45 ∷ [])
    ∷ node (exprs.Chain ops.Add (expr_id 21 ∷ expr_id 23 ∷ [])) (on 21 40) (on 21 40 ∷ [])
    ∷ node (exprs.Status (record { 0 = 11 })) (on 24 20) []
    ∷ node (exprs.Field (record { 0 = 0 })) (on 20 12) []
    ∷ node (exprs.Number 429496729) (on 20 23) []
    ∷ node (exprs.Chain ops.Less (expr_id 26 ∷ expr_id 27 ∷ [])) (on 20 21) (on 20 21 ∷ [])
    ∷ node (exprs.Field (record { 0 = 0 })) (on 23 20) []
    ∷ node (exprs.Number 429496729) (on 23 31) []
    ∷ node (exprs.Chain ops.Greater (expr_id 29 ∷ expr_id 30 ∷ [])) (on 23 29) (on 23 29 ∷ [])
    ∷ node (exprs.Local (record { 0 = 0 })) (on 23 48) []
    ∷ node (exprs.Number 5) (on 23 52) []
    ∷ node (exprs.Chain ops.Greater (expr_id 32 ∷ expr_id 33 ∷ [])) (on 23 50) (on 23 50 ∷ [])
    ∷ node (exprs.Chain ops.Or (expr_id 31 ∷ expr_id 34 ∷ [])) (on 23 44) (on 23 44 ∷ [])
    ∷ node (exprs.Field (record { 0 = 0 })) (on 26 9) []
    ∷ node (exprs.Number 10) (on 26 21) []
    ∷ node (exprs.Field (record { 0 = 0 })) (on 26 26) []
    ∷ node (exprs.Chain ops.Mul (expr_id 37 ∷ expr_id 38 ∷ [])) (on 26 24) (on 26 24 ∷ [])
    ∷ node (exprs.Local (record { 0 = 0 })) (on 26 39) []
    ∷ node (exprs.Convert (expr_id 40) W32) (on 26 41) (on 26 41 ∷ [])
    ∷ node (exprs.Chain ops.Add (expr_id 39 ∷ expr_id 41 ∷ [])) (on 26 36) (on 26 36 ∷ [])
    ∷ node (exprs.Truth true) (on 11 11) []
    ∷ node (exprs.Field (record { 0 = 0 })) (on 7 12) []
    ∷ node (exprs.Local (record { 0 = 0 })) (on 10 9) []
    ∷ []

abbrev expr_types : List Ty
expr_types =
    byte_ty
    ∷ types.Reader
    ∷ types.Status
    ∷ byte_ty
    ∷ types.Num W64 0 18446744073709551615
    ∷ types.Flag
    ∷ types.Status
    ∷ byte_ty
    ∷ types.Num W64 0 18446744073709551615
    ∷ types.Flag
    ∷ types.Num W64 0 18446744073709551615
    ∷ byte_ty
    ∷ types.Flag
    ∷ types.Flag
    ∷ byte_ty
    ∷ byte_ty
    ∷ types.Num W64 0 18446744073709551615
    ∷ byte_ty
    ∷ word_ty
    ∷ types.Num W64 0 18446744073709551615
    ∷ word_ty
    ∷ word_ty
    ∷ byte_ty
    ∷ word_ty
    ∷ word_ty
    ∷ types.Status
    ∷ word_ty
    ∷ types.Num W64 0 18446744073709551615
    ∷ types.Flag
    ∷ word_ty
    ∷ types.Num W64 0 18446744073709551615
    ∷ types.Flag
    ∷ byte_ty
    ∷ types.Num W64 0 18446744073709551615
    ∷ types.Flag
    ∷ types.Flag
    ∷ word_ty
    ∷ types.Num W64 0 18446744073709551615
    ∷ word_ty
    ∷ word_ty
    ∷ byte_ty
    ∷ word_ty
    ∷ word_ty
    ∷ types.Flag
    ∷ word_ty
    ∷ byte_ty
    ∷ []

abbrev expr_constants : List (Option ℕ)
expr_constants =
    None
    ∷ None
    ∷ None
    ∷ None
    ∷ Some 0
    ∷ None
    ∷ None
    ∷ None
    ∷ Some 48
    ∷ None
    ∷ Some 57
    ∷ None
    ∷ None
    ∷ None
    ∷ None
    ∷ None
    ∷ Some 48
    ∷ None
    ∷ None
    ∷ Some 10
    ∷ None
    ∷ None
    ∷ None
    ∷ None
    ∷ None
    ∷ None
    ∷ None
    ∷ Some 429496729
    ∷ None
    ∷ None
    ∷ Some 429496729
    ∷ None
    ∷ None
    ∷ Some 5
    ∷ None
    ∷ None
    ∷ None
    ∷ Some 10
    ∷ None
    ∷ None
    ∷ None
    ∷ None
    ∷ None
    ∷ None
    ∷ None
    ∷ None
    ∷ []

abbrev stmt_nodes : List StmtNode
stmt_nodes =
    statement (stmts.Return (Some (expr_id 44))) (on 7 5) (on 7 5)
    ∷ statement (stmts.Call (Some (expr_id 0)) false (callees.Base (expr_id 1) (sigs.Read ReadU8)) []) (on 12 9) (on 12 22)
    ∷ statement (stmts.Return (Some (expr_id 2))) (on 14 13) (on 14 13)
    ∷ statement (stmts.If (record { cond = expr_id 5; body = (record { items = (stmt_id 2 ∷ []) }) } ∷ []) None) (on 13 9) (on 13 9)
    ∷ statement (stmts.Return (Some (expr_id 6))) (on 17 13) (on 17 13)
    ∷ statement (stmts.If (record { cond = expr_id 13; body = (record { items = (stmt_id 4 ∷ []) }) } ∷ []) None) (on 16 9) (on 16 9)
    ∷ statement (stmts.Assign (expr_id 14) (Some ops.Sub) (expr_id 17)) (on 19 9) (on 19 9)
    ∷ statement (stmts.Assign (expr_id 18) None (expr_id 24)) (on 21 13) (on 21 13)
    ∷ statement (stmts.Continue (stmt_id 12)) (on 22 13) (on 22 13)
    ∷ statement (stmts.Return (Some (expr_id 25))) (on 24 13) (on 24 13)
    ∷ statement (stmts.If (record { cond = expr_id 28; body = (record { items = (stmt_id 7 ∷ stmt_id 8 ∷ []) }) } ∷ record { cond = expr_id 35; body = (record { items = (stmt_id 9 ∷ []) }) } ∷ []) None) (on 20 9) (on 20 9)
    ∷ statement (stmts.Assign (expr_id 36) None (expr_id 42)) (on 26 9) (on 26 9)
    ∷ statement (stmts.While (record { cond = expr_id 43; clauses = []; has_break = false }) (record { items = (stmt_id 1 ∷ stmt_id 3 ∷ stmt_id 5 ∷ stmt_id 6 ∷ stmt_id 10 ∷ stmt_id 11 ∷ []) })) (on 11 5) (on 27 5)
    ∷ []

abbrev pub demo_nodes : TypedNodes
demo_nodes =
    record { «package» = codes "demo"; statuses = base_statuses ++ (codes "#demo: not a digit" ∷ codes "#demo: too large" ∷ []); texts = codes "parser" ∷ codes "val" ∷ codes "value" ∷ codes "parse" ∷ codes "src" ∷ codes "c" ∷ []; exprs = expr_nodes; types = expr_types; constants = expr_constants; stmts = stmt_nodes; structs = record { name = text_id 0; public = true; fields = var 1 word_ty (on 4 5) ∷ []; at = on 3 12 } ∷ []; methods = record { name = text_id 2; of = record { 0 = 0 }; public = true; mark = Pure; args = []; locals = []; gives = Some word_ty; at = on 6 17 } ∷ record { name = text_id 3; of = record { 0 = 0 }; public = true; mark = Coroutine; args = var 4 types.Reader (on 9 24) ∷ []; locals = var 5 byte_ty (on 10 9) ∷ []; gives = None; at = on 9 17 } ∷ []; bodies = record { items = stmt_id 0 ∷ [] } ∷ record { items = stmt_id 12 ∷ [] } ∷ []; first_locals = expr_id 0 ∷ expr_id 45 ∷ []; order = 0 ∷ 1 ∷ []; struct_order = 0 ∷ [] }
