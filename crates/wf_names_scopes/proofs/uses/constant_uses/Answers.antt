use Rattle.std.proofs.Common.{◌++◌}
use Rattle.wf_ast.specs.ParsedTrees.{expr_trees, expr_at, type_at}
use Rattle.wf_names_rules.specs.Uses.{constant_scope, uses_of, type_uses}
use Rattle.wf_names_scopes.proofs.UseLemmas.{walk_judged}
use Rattle.wf_names_scopes.proofs.uses.constant_uses.Goals as goal

pub returns : goal.returns
returns c =
    let es = expr_trees c.args.here.now.parsed.now.exprs in
    λ known h. walk_judged c.args.here.now.parsed.now c.args.here.now.tables.now c.args.here.now.scope.now (constant_scope known) c.args.seen.now c.walk_constant.new.seen
    (type_uses (type_at es c.args.of.now) ++ uses_of (expr_at es c.args.value)) c.requires.tables h c.in_ok-walk_constant.ensures.seen
