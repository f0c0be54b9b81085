use Rattle.std.proofs.Common.{◌∙◌}
use Rattle.wf_ast.specs.ParsedTrees.{expr_trees}
use Rattle.wf_names_rules.specs.Here.{known_here}
use Rattle.wf_names_rules.proofs.StmtLemmas.{clause_step}
use Rattle.wf_names_rules.proofs.CalledLemmas.{row_clause_step}
use Rattle.wf_names_rules.proofs.walk_stmts.walk_clauses.Goals as goal

pub loop-clause-preserved : goal.loop-clause-preserved
loop-clause-preserved c =
    let k = known_here c.args.here.now in
    let ts = expr_trees c.args.here.now.parsed.now.exprs in (
      clause_step k c.loop-clause.seen _ ts c.args.clauses.now c.loop-clause.clause-index _ c.loop-clause-test.true c.in_ok-walk_expr.ensures.seen ∙ c.loop-clause.invariant.0,
      row_clause_step k c.loop-clause.row c.walk_expr.new.row ts c.args.clauses.now c.loop-clause.clause-index _ c.loop-clause-test.true c.in_ok-walk_expr.ensures.row ∙ c.loop-clause.invariant.1,
    )
