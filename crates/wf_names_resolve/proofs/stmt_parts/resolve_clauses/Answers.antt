use Rattle.std.proofs.Common.{arith}
use Rattle.std.proofs.lemmas.List.{drop_all}
use Rattle.wf_ast.specs.ParsedTrees.{expr_trees}
use Rattle.wf_names_resolve.specs.Standing.{standing_here}
use Rattle.wf_names_resolve.proofs.StmtLemmas.{clauses_start, clause_made, clauses_made}
use Rattle.wf_names_resolve.proofs.stmt_parts.resolve_clauses.Goals as goal

pub loop-clause-init : goal.loop-clause-init
loop-clause-init c =
    let k = standing_here c.args.here.now in
    let es = expr_trees c.args.here.now.parsed.now.exprs in
    clauses_start k es c.args.nodes.now c.args.clauses.now c.new-made.result c.new-made.ensures

pub loop-clause-preserved : goal.loop-clause-preserved
loop-clause-preserved c =
    let k = standing_here c.args.here.now in
    let es = expr_trees c.args.here.now.parsed.now.exprs in
    rw c.in_ok-push.ensures.ok (clause_made k es c.args.nodes.now c.loop-clause.nodes c.resolve_expr.new.nodes c.loop-clause.clause-index c.args.clauses.now c.loop-clause.made _ c.in_ok-condition.condition c.loop-clause-test.true c.loop-clause.invariant c.in_ok-condition.ensures.grows c.in_ok-condition.ensures.below c.in_ok-condition.ensures.made)

pub returns-clause-grows : goal.returns-clause-grows
returns-clause-grows c =
    c.loop-clause.invariant.grows

pub returns-clause-below : goal.returns-clause-below
returns-clause-below c =
    c.loop-clause.invariant.below

pub returns-clause-made : goal.returns-clause-made
returns-clause-made c =
    let k = standing_here c.args.here.now in
    let es = expr_trees c.args.here.now.parsed.now.exprs in
    clauses_made k es c.args.nodes.now c.loop-clause.nodes c.loop-clause.nodes c.loop-clause.clause-index c.args.clauses.now c.loop-clause.made (drop_all c.loop-clause.clause-index c.args.clauses.now (omega (arith, c.loop-clause-test.false))) c.loop-clause.invariant
