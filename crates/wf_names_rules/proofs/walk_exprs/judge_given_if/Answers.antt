use Rattle.wf_ast.specs.ParsedTrees.{expr_trees}
use Rattle.wf_names_rules.proofs.WalkLemmas.{given_names_same}
use Rattle.wf_names_rules.proofs.walk_exprs.judge_given_if.Goals as goal

pub returns-then-known : goal.returns-then-known
returns-then-known c =
    let h = rw c.as_slice.ensures at c.judge_given.ensures in
    let names = given_names_same (expr_trees c.args.here.now.parsed.now.exprs) c.args.call.now.args in
    rw c.if-known.true (rw names at h)
