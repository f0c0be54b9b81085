use Rattle.std.proofs.Common.{◌≡◌, drop}
use Rattle.wf_named.specs.NamedTrees.{expr_trees, clauses_at}
use Rattle.wf_types_rules.specs.Parts.{clauses_parts}
use Rattle.wf_types_exprs.specs.Judged.{judged}
use Rattle.wf_types_stmts.proofs.results.judge_clauses.Given as goal

abbrev pub invariant-loop-clause : goal.invariant-loop-clause
invariant-loop-clause l =
    judged l.here.around.now l.found (clauses_parts (clauses_at (expr_trees l.here.nodes.now.exprs) (drop l.clause-index l.clauses)))
    ≡ judged l.here.around.now l.fn.found (clauses_parts (clauses_at (expr_trees l.here.nodes.now.exprs) l.clauses))
