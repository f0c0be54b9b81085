use Rattle.std.proofs.Common.{drop}
use Rattle.wf_ast.specs.ParsedTrees.{stmt_trees, items_at}
use Rattle.wf_names_rules.specs.Declarations.{locals_of}
use Rattle.wf_names_resolve.specs.Standing.{standing_here}
use Rattle.wf_names_nodes.proofs.DeclaringLemmas.{VariablesMade}
use Rattle.wf_names_nodes.proofs.variables.resolve_locals.Given as goal

abbrev pub invariant-loop-s : goal.invariant-loop-s
invariant-loop-s l =
    VariablesMade (standing_here l.here) (locals_of (items_at (stmt_trees l.here.parsed.now.exprs l.here.parsed.now.stmts) (drop l.s-index l.body.items) l.body.close))
    (locals_of (items_at (stmt_trees l.here.parsed.now.exprs l.here.parsed.now.stmts) l.body.items l.body.close)) l.fn.nodes l.nodes l.made
