use Rattle.wf_named.specs.NamedParts.{named_package}
use Rattle.wf_named.specs.NamedTrees.{expr_trees}
use Rattle.wf_typed_stmts.specs.Right.{known_in}
use Rattle.wf_typed_stmts.proofs.ListLemmas.{clauses_added}
use Rattle.wf_typed_stmts.proofs.heads.add_clauses.Goals as goal

pub loop-clause-preserved : goal.loop-clause-preserved
loop-clause-preserved c =
    let l = c.loop-clause in
    rw c.in_ok-push.ensures.ok
    (clauses_added c.args.here.now.around.now (known_in (named_package c.args.here.now.nodes.now)) c.args.here.now.nodes.now (expr_trees c.args.here.now.nodes.now.exprs) c.args.clauses.now l.clause-index c.args.nodes.now l.nodes c.add_tree.new.nodes l.made _
    c.in_ok-e.e c.loop-clause-test.true l.invariant c.in_ok-e.ensures.grows c.in_ok-e.ensures.begun c.in_ok-e.ensures.made c.in_ok-e.ensures.entries)
