use Rattle.wf_ast.specs.ParsedTrees.{expr_trees, expr_at, type_at}
use Rattle.wf_names_rules.specs.Uses.{uses_of, type_uses}
use Rattle.wf_names_rules.specs.Here.{known_here}
use Rattle.wf_names_rules.proofs.CalledLemmas.{row_append}
use Rattle.wf_names_rules.proofs.StmtLemmas.{ok_append}
use Rattle.wf_names_scopes.proofs.declared_uses.walk_constant.Goals as goal

pub returns-clause-seen : goal.returns-clause-seen
returns-clause-seen c =
    let k = known_here c.args.here.now in
    let es = expr_trees c.args.here.now.parsed.now.exprs in
    ok_append k c.args.seen.now c.walk_type.new.seen (type_uses (type_at es c.args.of.now)) (uses_of (expr_at es c.args.value)) c.walk_expr.result c.walk_expr.new.seen c.in_ok-walk_type.ensures.seen c.walk_expr.ensures.seen

pub returns-clause-row : goal.returns-clause-row
returns-clause-row c =
    let k = known_here c.args.here.now in
    let es = expr_trees c.args.here.now.parsed.now.exprs in
    row_append k c.args.row.now c.walk_type.new.row (type_uses (type_at es c.args.of.now)) (uses_of (expr_at es c.args.value)) c.walk_expr.result c.walk_expr.new.row c.in_ok-walk_type.ensures.row c.walk_expr.ensures.row
