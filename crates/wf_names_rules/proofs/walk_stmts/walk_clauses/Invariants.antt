use Rattle.std.proofs.Common.{◌≡◌, drop}
use Rattle.wf_ast.specs.ParsedTrees.{expr_trees, clauses_at}
use Rattle.wf_names_rules.specs.Uses.{clause_uses}
use Rattle.wf_names_rules.specs.Here.{known_here}
use Rattle.wf_names_rules.specs.Judged.{walked}
use Rattle.wf_names_rules.specs.Called.{with_calls}
use Rattle.wf_names_rules.proofs.walk_stmts.walk_clauses.Given as goal

abbrev pub invariant-loop-clause : goal.invariant-loop-clause
invariant-loop-clause l =
    (walked (known_here l.here) l.seen (clause_uses (clauses_at (expr_trees l.here.parsed.now.exprs) (drop l.clause-index l.clauses)))
    ≡ walked (known_here l.here) l.fn.seen (clause_uses (clauses_at (expr_trees l.here.parsed.now.exprs) l.clauses)))
    × (with_calls (known_here l.here) l.row (clause_uses (clauses_at (expr_trees l.here.parsed.now.exprs) (drop l.clause-index l.clauses)))
    ≡ with_calls (known_here l.here) l.fn.row (clause_uses (clauses_at (expr_trees l.here.parsed.now.exprs) l.clauses)))
