use Rattle.wf_named.specs.NamedTrees.{expr_trees, expr_at}
use Rattle.wf_types_stmts.proofs.StatementLemmas.{element_found, element_value}
use Rattle.wf_types_stmts.proofs.targets.judge_target.Goals as goal

pub returns-in_ok-of-in-Element-clause-found : goal.returns-in_ok-of-in-Element-clause-found
returns-in_ok-of-in-Element-clause-found c =
    let i = expr_at (expr_trees c.args.here.now.nodes.now.exprs) c.in-Element.index in
    rw c.in-Element.is
    (element_found c.args.here.now.around.now c.args.found.now c.tell_target.new.found c.judge_element.new.found c.in-Element.base i c.in-Element.at (c.tell_target.ensures (expr_trees c.args.here.now.nodes.now.exprs))
    (c.in_ok-of-in-Element.ensures.found c.in-Element.at))

pub returns-in_ok-of-in-Element-clause-value : goal.returns-in_ok-of-in-Element-clause-value
returns-in_ok-of-in-Element-clause-value c =
    let i = expr_at (expr_trees c.args.here.now.nodes.now.exprs) c.in-Element.index in
    rw c.in-Element.is (element_value c.args.here.now.around.now c.in-Element.base i c.in-Element.at c.in_ok-of-in-Element.of (c.in_ok-of-in-Element.ensures.of c.in-Element.at))
