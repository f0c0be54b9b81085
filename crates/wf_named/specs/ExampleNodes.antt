-- The package `counting` of the examples as its nodes, of which its tree is a function.
use Rattle.std.specs.Prelude.{ℕ, true, false, List, [], ◌∷◌, None, Some, codes}
use Rattle.wf_text.specs.declared.place.Place.{Place}
use Rattle.wf_base.specs.declared.widths.Width.TheVariants.{W8, W32}
use Rattle.wf_base.specs.declared.marks.Mark.TheVariants.{Impure, Coroutine}
use Rattle.wf_base.specs.declared.base_methods.ReadForm.TheVariants.{ReadU8}
use Rattle.wf_base.specs.declared.base_methods.BaseSig.TheVariants.{Read}
use Rattle.wf_ast.specs.declared.numbers.ExprId.{ExprId}
use Rattle.wf_ast.specs.declared.numbers.StmtId.{StmtId}
use Rattle.wf_ast.specs.declared.operators.Op.TheVariants as ops
use Rattle.wf_ast.specs.declared.parsed.Block.{Block}
use Rattle.wf_ast.specs.declared.parsed.Link.{Link}
use Rattle.wf_ast.specs.declared.parsed.Name.{Name}
use Rattle.wf_named.specs.declared.nodes.BaseType.{BaseType}
use Rattle.wf_named.specs.declared.nodes.BaseType.TheVariants as bases
use Rattle.wf_named.specs.declared.nodes.NamedCallee.TheVariants as callees
use Rattle.wf_named.specs.declared.nodes.NamedCore.TheVariants as cores
use Rattle.wf_named.specs.declared.nodes.NamedExpr.{NamedExpr}
use Rattle.wf_named.specs.declared.nodes.NamedExpr.TheVariants as exprs
use Rattle.wf_named.specs.declared.nodes.NamedExprNode.{NamedExprNode}
use Rattle.wf_named.specs.declared.nodes.NamedStmt.{NamedStmt}
use Rattle.wf_named.specs.declared.nodes.NamedStmt.TheVariants as stmts
use Rattle.wf_named.specs.declared.nodes.NamedStmtNode.{NamedStmtNode}
use Rattle.wf_named.specs.declared.nodes.NamedTarget.TheVariants as targets
use Rattle.wf_named.specs.declared.nodes.NamedType.{NamedType}
use Rattle.wf_named.specs.declared.declarations.NamedMethod.{NamedMethod}
use Rattle.wf_named.specs.declared.declarations.NamedVar.{NamedVar}
use Rattle.wf_named.specs.NamedParts.{NamedParts}
use Rattle.wf_named.specs.Examples.{at, local, field, arg, constant, own}

abbrev node : NamedExpr → Place → NamedExprNode
node expr p = record { expr = expr; at = p }

abbrev statement : NamedStmt → Place → NamedStmtNode
statement stmt p = record { stmt = stmt; at = p }

abbrev expr_id : ℕ → ExprId
expr_id n = record { 0 = n }

abbrev stmt_id : ℕ → StmtId
stmt_id n = record { 0 = n }

abbrev name : ℕ → Place → Name
name n p = record { text = record { 0 = n }; at = p }

abbrev linked : Place → ℕ → Link
linked p e = record { sign = p; operand = expr_id e }

abbrev base : BaseType → Place → NamedType
base of p = record { prefixes = []; core = cores.Base (Some of) p; bounds = None }

abbrev var : ℕ → Place → NamedType → NamedVar
var n p of = record { name = name n p; of = of }

abbrev block : List StmtId → Place → Block
block items p = record { items = items; close = p }

abbrev expr_nodes : List NamedExprNode
expr_nodes =
    node (exprs.Number 48) (at 2 28)
    ∷ node (exprs.Truth true) (at 8 11)
    ∷ node (exprs.Call (record { callee = callees.Base (arg 0 (at 9 13)) (Read ReadU8); at = at 9 22; mark = Coroutine; args = [] })) (at 9 22)
    ∷ node (exprs.Path (local 0 (at 10 12))) (at 10 12)
    ∷ node (exprs.Number 0) (at 10 17)
    ∷ node (exprs.Chain ops.Same (expr_id 3) (linked (at 10 14) 4 ∷ [])) (at 10 14)
    ∷ node (exprs.Path (local 0 (at 12 19))) (at 12 19)
    ∷ node (exprs.Path (constant 0 (at 12 23))) (at 12 23)
    ∷ node (exprs.Chain ops.Less (expr_id 6) (linked (at 12 21) 7 ∷ [])) (at 12 21)
    ∷ node (exprs.Status (record { 0 = 10 })) (at 13 20)
    ∷ node (exprs.Number 1) (at 15 24)
    ∷ node (exprs.Path (arg 0 (at 19 24))) (at 19 24)
    ∷ node (exprs.Convert (expr_id 11) (base (bases.Number W32) (at 19 35))) (at 19 32)
    ∷ []

abbrev stmt_nodes : List NamedStmtNode
stmt_nodes =
    statement (stmts.Assign (targets.Path (local 0 (at 9 9))) None (at 9 11) (expr_id 2)) (at 9 9)
    ∷ statement (stmts.Break 0) (at 11 13)
    ∷ statement (stmts.Return (Some (expr_id 9))) (at 13 13)
    ∷ statement (stmts.If (record { condition = expr_id 5; body = block (stmt_id 1 ∷ []) (at 12 9) } ∷ record { condition = expr_id 8; body = block (stmt_id 2 ∷ []) (at 14 9) } ∷ []) None) (at 10 9)
    ∷ statement (stmts.Call (record { callee = own 1; at = at 15 14; mark = Impure; args = expr_id 10 ∷ [] })) (at 15 9)
    ∷ statement (stmts.While (expr_id 1) [] (block (stmt_id 0 ∷ stmt_id 3 ∷ stmt_id 4 ∷ []) (at 16 5))) (at 8 5)
    ∷ statement (stmts.Assign (targets.Path (field 0 (at 19 5))) (Some ops.ModAdd) (at 19 17) (expr_id 12)) (at 19 5)
    ∷ []

abbrev count_method : NamedMethod
count_method =
    record {
      name = name 4 (at 6 18);
      of = record { 0 = 0 };
      public = true;
      mark = Coroutine;
      args = var 5 (at 6 25) (base bases.Reader (at 6 30)) ∷ [];
      locals = var 6 (at 7 9) (base (bases.Number W8) (at 7 13)) ∷ [];
      gives = None;
      body = block (stmt_id 5 ∷ []) (at 17 1);
    }

abbrev step_method : NamedMethod
step_method =
    record {
      name = name 7 (at 18 18);
      of = record { 0 = 0 };
      public = false;
      mark = Impure;
      args = var 8 (at 18 24) (base (bases.Number W8) (at 18 28)) ∷ [];
      locals = [];
      gives = None;
      body = block (stmt_id 6 ∷ []) (at 20 1);
    }

abbrev pub counting_nodes : NamedParts
counting_nodes =
    record {
      package_name = codes "demo";
      texts = codes "#not a digit" ∷ codes "ZERO" ∷ codes "counter" ∷ codes "digits" ∷ codes "count" ∷ codes "src" ∷ codes "c" ∷ codes "step" ∷ codes "by" ∷ [];
      exprs = expr_nodes;
      stmts = stmt_nodes;
      consts = record { name = name 1 (at 2 11); of = base (bases.Number W8) (at 2 18); value = expr_id 0 } ∷ [];
      statuses = name 0 (at 1 12) ∷ [];
      structs = record { name = name 2 (at 3 12); public = true; fields = var 3 (at 4 5) (base (bases.Number W32) (at 4 14)) ∷ [] } ∷ [];
      methods = count_method ∷ step_method ∷ [];
      order = 1 ∷ 0 ∷ [];
      struct_order = 0 ∷ [];
    }
