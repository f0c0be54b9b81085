use Rattle.std.proofs.Common.{length}
use Rattle.wf_named.specs.NamedTree.{answer, call}
use Rattle.wf_typed_exprs.proofs.FormLaws.{answer-right, answer-makes}
use Rattle.wf_typed_exprs.proofs.WalkLemmas.{right_kept}
use Rattle.wf_typed_exprs.proofs.walk.elaborate_answer.Goals as goal

pub elaborate_path-requires : goal.elaborate_path-requires
elaborate_path-requires c =
    let right = rw c.in-Base.is at c.requires.right in
    answer-right c.args.here.now.around.now c.args.nodes.now (length c.args.nodes.now.statuses) c.in-Base.on c.in-Base.sig c.args.call.now.at c.args.call.now.mark c.requires.args right

pub unreachable-requires : goal.unreachable-requires
unreachable-requires c = let means = rw c.in-Own.is at c.requires.right.means in absurd (cc means)

pub returns-clause-made : goal.returns-clause-made
returns-clause-made c = λ args.
    let s = c.args.here.now.around.now in
    let nodes = c.elaborate_path.new.nodes in
    let right = rw c.in-Base.is at c.requires.right in
    let inner = rw c.in-Base.is at (c.inner_answer.ensures args) in
    let made =
    answer-makes s nodes c.in-Base.on c.in-Base.sig c.args.call.now.at c.args.call.now.mark c.requires.args c.in_ok-asked-in-Base.asked.node
    (right_kept s c.args.nodes.now nodes c.in_ok-asked-in-Base.ensures.grows (answer (call _ c.args.call.now.at c.args.call.now.mark c.requires.args)) right) c.in_ok-asked-in-Base.ensures.stands in
    rw (c.in-Base.is, c.unsigned.ensures, inner) made

pub returns-clause-entries : goal.returns-clause-entries
returns-clause-entries c = rw c.in-Base.is c.in_ok-asked-in-Base.ensures.entries
