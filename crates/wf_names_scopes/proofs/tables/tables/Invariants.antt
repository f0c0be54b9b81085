use Rattle.std.proofs.Common.{take}
use Rattle.wf_ast.specs.ParsedTrees.{expr_trees, stmt_trees, decls_made}
use Rattle.wf_names_rules.specs.Declarations.{declared}
use Rattle.wf_names_scopes.specs.Agreeing.{TellsPackage}
use Rattle.wf_names_scopes.proofs.tables.tables.Given as goal

abbrev pub invariant-loop-number : goal.invariant-loop-number
invariant-loop-number l =
    TellsPackage (declared l.parsed.texts (decls_made (expr_trees l.parsed.exprs) (stmt_trees l.parsed.exprs l.parsed.stmts) (take l.number l.parsed.decls))) l.tables
