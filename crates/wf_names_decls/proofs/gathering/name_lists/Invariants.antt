use Rattle.std.proofs.Common.{drop}
use Rattle.wf_ast.specs.ParsedTrees.{expr_trees, stmt_trees, decls_made}
use Rattle.wf_names_decls.proofs.DeclSteps.{GatherUpTo}
use Rattle.wf_names_decls.proofs.gathering.name_lists.Given as goal

abbrev pub invariant-loop-number : goal.invariant-loop-number
invariant-loop-number l =
    GatherUpTo (decls_made (expr_trees l.parsed.exprs) (stmt_trees l.parsed.exprs l.parsed.stmts) (drop l.number l.parsed.decls))
    (decls_made (expr_trees l.parsed.exprs) (stmt_trees l.parsed.exprs l.parsed.stmts) l.parsed.decls) l.names
