use Rattle.std.proofs.Common.{drop}
use Rattle.wf_ast.specs.ParsedTrees.{stmt_trees, items_at}
use Rattle.wf_names_rules.specs.Declarations.{locals_of}
use Rattle.wf_names_scopes.specs.Growing.{TellsUpTo}
use Rattle.wf_names_scopes.proofs.variables.locals.Given as goal

abbrev pub invariant-loop-s : goal.invariant-loop-s
invariant-loop-s l =
    TellsUpTo l.parsed.texts (locals_of (items_at (stmt_trees l.parsed.exprs l.parsed.stmts) (drop l.s-index l.body.items) l.body.close))
    (locals_of (items_at (stmt_trees l.parsed.exprs l.parsed.stmts) l.body.items l.body.close)) l.table
