use Rattle.wf_ast.specs.ParsedTrees.{expr_trees, stmt_trees, result_at, block_at}
use Rattle.wf_names_rules.specs.Uses.{result_uses, block_uses}
use Rattle.wf_names_rules.specs.Here.{known_here}
use Rattle.wf_names_rules.proofs.CalledLemmas.{row_append}
use Rattle.wf_names_rules.proofs.StmtLemmas.{ok_append}
use Rattle.wf_names_scopes.proofs.declared_uses.walk_inside.Goals as goal

pub returns-clause-seen : goal.returns-clause-seen
returns-clause-seen c =
    let k = known_here c.args.here.now in
    let es = expr_trees c.args.here.now.parsed.now.exprs in
    let ts = stmt_trees c.args.here.now.parsed.now.exprs c.args.here.now.parsed.now.stmts in
    ok_append k c.args.seen.now c.walk_result.new.seen (result_uses (result_at es c.args.gives.now)) (block_uses (block_at ts c.args.body.now)) c.walk_block.result c.walk_block.new.seen c.in_ok-walk_result.ensures.seen c.walk_block.ensures.seen

pub returns-clause-row : goal.returns-clause-row
returns-clause-row c =
    let k = known_here c.args.here.now in
    let es = expr_trees c.args.here.now.parsed.now.exprs in
    let ts = stmt_trees c.args.here.now.parsed.now.exprs c.args.here.now.parsed.now.stmts in
    row_append k c.args.gathered.now.row c.walk_result.new.row (result_uses (result_at es c.args.gives.now)) (block_uses (block_at ts c.args.body.now)) c.walk_block.result c.walk_block.new.gathered.row c.in_ok-walk_result.ensures.row c.walk_block.ensures.row
