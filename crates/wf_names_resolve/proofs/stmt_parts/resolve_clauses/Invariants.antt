use Rattle.wf_ast.specs.ParsedTrees.{expr_trees}
use Rattle.wf_names_resolve.specs.Standing.{standing_here}
use Rattle.wf_names_resolve.proofs.StmtLemmas.{ClausesMade}
use Rattle.wf_names_resolve.proofs.stmt_parts.resolve_clauses.Given as goal

abbrev pub invariant-loop-clause : goal.invariant-loop-clause
invariant-loop-clause l = ClausesMade (standing_here l.here) (expr_trees l.here.parsed.now.exprs) l.clauses l.clause-index l.fn.nodes l.nodes l.made
