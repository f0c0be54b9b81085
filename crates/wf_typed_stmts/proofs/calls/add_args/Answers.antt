use Rattle.wf_named.specs.NamedParts.{named_package}
use Rattle.wf_named.specs.NamedTrees.{expr_trees}
use Rattle.wf_typed_stmts.specs.Right.{known_in}
use Rattle.wf_typed_stmts.proofs.ListLemmas.{args_added}
use Rattle.wf_typed_stmts.proofs.calls.add_args.Goals as goal

pub loop-arg-preserved : goal.loop-arg-preserved
loop-arg-preserved c =
    let l = c.loop-arg in
    rw c.in_ok-push.ensures.ok
    (args_added c.args.here.now.around.now (known_in (named_package c.args.here.now.nodes.now)) c.args.here.now.nodes.now (expr_trees c.args.here.now.nodes.now.exprs) c.args.args.now l.arg-index c.args.nodes.now l.nodes c.add_arg.new.nodes l.made _ c.in_ok-e.e
    c.loop-arg-test.true l.invariant c.in_ok-e.ensures.grows c.in_ok-e.ensures.begun c.in_ok-e.ensures.made c.in_ok-e.ensures.entries)
