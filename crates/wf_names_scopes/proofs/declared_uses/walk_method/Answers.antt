use Rattle.std.proofs.Common.{◌++◌, ap}
use Rattle.wf_ast.specs.ParsedTrees.{expr_trees, stmt_trees, fields_at, result_at, block_at}
use Rattle.wf_names_rules.specs.Declarations.{variables}
use Rattle.wf_names_rules.specs.Uses.{result_uses, block_uses, variable_uses}
use Rattle.wf_names_rules.specs.Here.{known_here}
use Rattle.wf_names_rules.specs.Judged.{walked}
use Rattle.wf_names_rules.proofs.WalkLemmas.{ok_same}
use Rattle.wf_names_rules.proofs.CalledLemmas.{row_append}
use Rattle.wf_names_rules.proofs.StmtLemmas.{ok_append}
use Rattle.wf_names_scopes.proofs.declared_uses.walk_method.Goals as goal

pub returns-clause-seen : goal.returns-clause-seen
returns-clause-seen c =
    let k = known_here c.args.here.now in
    let es = expr_trees c.args.here.now.parsed.now.exprs in
    let ts = stmt_trees c.args.here.now.parsed.now.exprs c.args.here.now.parsed.now.stmts in
    let args = variable_uses (variables (fields_at es c.args.method.args.now)) in
    let inside = result_uses (result_at es c.args.method.gives.now) ++ block_uses (block_at ts c.args.method.body.now) in
    ok_same c.walk_inside.result c.walk_inside.new.seen _ _ (ap (λ s. walked k s (args ++ inside)) (c.walk_struct.ensures c.args.here.now.parsed.now.texts c.args.here.now.scope.now))
    (ok_append k c.walk_struct.new.seen c.walk_fields.new.seen args inside c.walk_inside.result c.walk_inside.new.seen c.in_ok-walk_fields.ensures.seen c.walk_inside.ensures.seen)

pub returns-clause-row : goal.returns-clause-row
returns-clause-row c =
    let k = known_here c.args.here.now in
    let es = expr_trees c.args.here.now.parsed.now.exprs in
    let ts = stmt_trees c.args.here.now.parsed.now.exprs c.args.here.now.parsed.now.stmts in
    let args = variable_uses (variables (fields_at es c.args.method.args.now)) in
    let inside = result_uses (result_at es c.args.method.gives.now) ++ block_uses (block_at ts c.args.method.body.now) in
    row_append k c.args.gathered.now.row c.walk_fields.new.row args inside c.walk_inside.result c.walk_inside.new.gathered.row c.in_ok-walk_fields.ensures.row c.walk_inside.ensures.row
