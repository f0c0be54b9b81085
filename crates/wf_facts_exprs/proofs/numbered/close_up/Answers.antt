use Rattle.std.proofs.Common.{◌<◌, length, arith}
use Rattle.wf_facts_exprs.proofs.ClosedLemmas.{Leaves-closed}
use Rattle.wf_facts_exprs.proofs.NumberedLemmas.{Leaves-same, MovesSets-more, MovesSets-same, words_got}
use Rattle.wf_facts_exprs.proofs.numbered.close_up.Goals as goal

pub loop-k-preserved-then-first-n : goal.loop-k-preserved-then-first-n
loop-k-preserved-then-first-n c =
    let within : c.loop-k.k < length c.loop-k.sets = omega arith in
    MovesSets-same c.args.dropped.now.words c.args.n c.args.sets.now c.loop-k.sets c.loop-k.k c.loop-k.invariant _ (words_got c.loop-k.sets c.loop-k.k _ within)
    (Leaves-same c.args.dropped.now.words c.args.n c.args.first _ (omega (arith, c.requires.first)) c.requires.few c.requires.before
    (λ k a b. c.first.ensures.before k a (omega (arith, b, c.if-first-n.true))))

pub loop-k-preserved : goal.loop-k-preserved
loop-k-preserved c =
    let within : c.loop-k.k < length c.loop-k.sets = omega arith in
    MovesSets-more c.args.dropped.now.words c.args.n c.args.sets.now c.loop-k.sets c.loop-k.k c.loop-k.invariant within _ c.closed_up.result
    (words_got c.loop-k.sets c.loop-k.k _ within)
    (Leaves-closed c.args.dropped.now.words _ c.closed_up.result.words c.args.first c.args.n c.requires.few c.requires.first c.requires.here c.requires.before c.requires.behind c.closed_up.ensures.before c.closed_up.ensures.behind c.closed_up.ensures.last)
