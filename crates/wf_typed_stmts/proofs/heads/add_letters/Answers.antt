use Rattle.std.proofs.Common.{length}
use Rattle.wf_named.specs.NamedParts.{named_package}
use Rattle.wf_named.specs.NamedTrees.{expr_trees}
use Rattle.wf_typed_stmts.specs.Right.{known_in}
use Rattle.wf_typed_stmts.proofs.ListLemmas.{letters_added, given_there}
use Rattle.wf_typed_stmts.proofs.heads.add_letters.Goals as goal

pub loop-one-preserved : goal.loop-one-preserved
loop-one-preserved c =
    let l = c.loop-one in
    rw c.in_ok-push.ensures.ok
    (letters_added c.args.here.now.around.now (known_in (named_package c.args.here.now.nodes.now)) c.args.here.now.nodes.now (expr_trees c.args.here.now.nodes.now.exprs) c.args.given.now l.one-index c.args.nodes.now l.nodes c.add_tree.new.nodes l.made _ c.in_ok-e.e
    c.loop-one-test.true (given_there (length c.args.here.now.nodes.now.texts) (length c.args.here.now.nodes.now.exprs) c.args.given.now l.one-index _ c.loop-one-test.true c.requires.below) l.invariant c.in_ok-e.ensures.grows c.in_ok-e.ensures.begun c.in_ok-e.ensures.made c.in_ok-e.ensures.entries)
