use Rattle.std.proofs.Common.{◌<◌, length, arith}
use Rattle.wf_facts_exprs.proofs.NumberedLemmas.{Leaves-moved, Leaves-same, MovesSets-more, MovesSets-same, words_got}
use Rattle.wf_facts_exprs.proofs.numbered.move_each.Goals as goal

pub loop-k-preserved-then-first-n : goal.loop-k-preserved-then-first-n
loop-k-preserved-then-first-n c =
    let within : c.loop-k.k < length c.loop-k.sets = omega arith in
    MovesSets-same c.args.dropped.now.words c.args.n c.args.sets.now c.loop-k.sets c.loop-k.k c.loop-k.invariant _ (words_got c.loop-k.sets c.loop-k.k _ within)
    (Leaves-same c.args.dropped.now.words c.args.n c.args.first _ (omega (arith, c.requires.first)) c.requires.few c.requires.before
    (λ k a b. c.first.ensures.before k a (omega (arith, b, c.if-first-n.true))))

pub loop-k-preserved : goal.loop-k-preserved
loop-k-preserved c =
    let within : c.loop-k.k < length c.loop-k.sets = omega arith in
    MovesSets-more c.args.dropped.now.words c.args.n c.args.sets.now c.loop-k.sets c.loop-k.k c.loop-k.invariant within _ c.moved.result
    (words_got c.loop-k.sets c.loop-k.k _ within) (Leaves-moved c.args.dropped.now.words c.args.n _ c.moved.result.words c.requires.few c.moved.ensures)
