use Rattle.std.proofs.Common.{◌∷◌, ◌++◌}
use Rattle.wf_ast.specs.ParsedTrees.{expr_trees, stmt_trees, fields_at, result_at, block_at}
use Rattle.wf_names_rules.specs.Declarations.{variables, locals_of, declared_in}
use Rattle.wf_names_rules.specs.Uses.{structure, variable_uses, result_uses, block_uses}
use Rattle.wf_names_scopes.specs.Growing.{scope_in}
use Rattle.wf_names_scopes.proofs.PackageLemmas.{on_ok}
use Rattle.wf_names_scopes.proofs.RowLemmas.{called-there}
use Rattle.wf_names_scopes.proofs.UseLemmas.{walk_judged}
use Rattle.wf_names_scopes.proofs.uses.method_uses.Goals as goal

pub returns-clause-found : goal.returns-clause-found
returns-clause-found c =
    let d = declared_in c.args.whole.now.parsed.now in
    let es = expr_trees c.args.whole.now.parsed.now.exprs in
    let ts = stmt_trees c.args.whole.now.parsed.now.exprs c.args.whole.now.parsed.now.stmts in
    let args = variables (fields_at es c.args.method.args.now) in
    let uses = structure c.args.method.owner ∷ (variable_uses args ++ (result_uses (result_at es c.args.method.gives.now) ++ block_uses (block_at ts c.args.method.body.now))) in
    on_ok c.walk_method.result
    (walk_judged c.args.whole.now.parsed.now c.args.whole.now.tables.now c.args.scope.now (scope_in d c.args.method.owner args (locals_of (block_at ts c.args.method.body.now))) c.args.seen.now c.walk_method.new.seen
    uses c.requires.tables c.requires.inside) c.walk_method.ensures.seen

pub returns-clause-row : goal.returns-clause-row
returns-clause-row c =
    let p = c.args.whole.now.parsed.now in
    let es = expr_trees p.exprs in
    let ts = stmt_trees p.exprs p.stmts in
    let args = variables (fields_at es c.args.method.args.now) in
    let uses = variable_uses args ++ (result_uses (result_at es c.args.method.gives.now) ++ block_uses (block_at ts c.args.method.body.now)) in
    on_ok c.walk_method.result
    (called-there p c.args.whole.now.tables.now c.args.scope.now (scope_in (declared_in p) c.args.method.owner args (locals_of (block_at ts c.args.method.body.now))) c.args.gathered.now.row c.walk_method.new.gathered.row uses
    c.requires.tables c.requires.inside) c.walk_method.ensures.row
