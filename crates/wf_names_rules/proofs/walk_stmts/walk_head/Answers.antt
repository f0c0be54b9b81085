use Rattle.wf_ast.specs.ParsedTrees.{expr_trees, expr_at, clauses_at}
use Rattle.wf_names_rules.specs.Uses.{uses_of, clause_uses}
use Rattle.wf_names_rules.specs.Here.{known_here}
use Rattle.wf_names_rules.proofs.StmtLemmas.{ok_append}
use Rattle.wf_names_rules.proofs.CalledLemmas.{row_append}
use Rattle.wf_names_rules.proofs.walk_stmts.walk_head.Goals as goal

pub returns-clause-seen : goal.returns-clause-seen
returns-clause-seen c =
    let k = known_here c.args.here.now in
    let ts = expr_trees c.args.here.now.parsed.now.exprs in
    ok_append k c.args.seen.now c.walk_expr.new.seen (uses_of (expr_at ts c.args.condition)) (clause_uses (clauses_at ts c.args.clauses.now)) c.walk_clauses.result c.walk_clauses.new.seen c.in_ok-walk_expr.ensures.seen c.walk_clauses.ensures.seen

pub returns-clause-row : goal.returns-clause-row
returns-clause-row c =
    let k = known_here c.args.here.now in
    let ts = expr_trees c.args.here.now.parsed.now.exprs in
    row_append k c.args.row.now c.walk_expr.new.row (uses_of (expr_at ts c.args.condition)) (clause_uses (clauses_at ts c.args.clauses.now)) c.walk_clauses.result c.walk_clauses.new.row c.in_ok-walk_expr.ensures.row c.walk_clauses.ensures.row
