use Rattle.std.proofs.Common.{◌∙◌, sym, ap}
use Rattle.wf_named.specs.NamedTrees.{expr_trees, expr_at}
use Rattle.wf_types_exprs.specs.Judged.{judged}
use Rattle.wf_types_stmts.proofs.StatementLemmas.{plain_right, plain_parts, plain_lacks}
use Rattle.wf_types_stmts.proofs.assignments.judge_plain.Goals as goal

pub returns-clause-found : goal.returns-clause-found
returns-clause-found c =
    let e = expr_at (expr_trees c.args.here.now.nodes.now.exprs) c.args.e in
    c.in_ok-value.ensures.found ∙ sym (ap (judged c.args.here.now.around.now c.args.found.now) (plain_parts e c.requires.plain))

pub returns-clause-value : goal.returns-clause-value
returns-clause-value c =
    let e = expr_at (expr_trees c.args.here.now.nodes.now.exprs) c.args.e in
    c.in_ok-value.ensures.value ∙ sym (plain_right c.args.here.now.around.now e c.requires.plain)

pub returns-clause-lacks : goal.returns-clause-lacks
returns-clause-lacks c =
    let e = expr_at (expr_trees c.args.here.now.nodes.now.exprs) c.args.e in
    sym (plain_lacks c.args.here.now.around.now e c.requires.plain)
