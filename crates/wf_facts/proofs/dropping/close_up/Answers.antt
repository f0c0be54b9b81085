use Rattle.std.proofs.Common.{◌<◌, length, sym, ◌∙◌, arith}
use Rattle.wf_facts.proofs.DropLemmas.{Closes-dropped, Closes-kept, Closes-first}
use Rattle.wf_facts.proofs.dropping.close_up.Goals as goal

pub loop-i-init : goal.loop-i-init
loop-i-init c = Closes-first c.args.dropped.now.words c.args.list.now c.args.first c.requires.before

pub loop-i-preserved-then-has : goal.loop-i-preserved-then-has
loop-i-preserved-then-has c =
    let within : c.loop-i.i < length c.loop-i.list = omega arith in
    Closes-dropped c.args.dropped.now.words c.args.list.now c.loop-i.list c.loop-i.stay c.loop-i.i c.loop-i.invariant within (sym c.has.ensures ∙ c.if-has.true)

pub loop-i-preserved : goal.loop-i-preserved
loop-i-preserved c =
    let within : c.loop-i.i < length c.loop-i.list = omega arith in
    Closes-kept c.args.dropped.now.words c.args.list.now c.loop-i.list c.loop-i.stay c.loop-i.i c.loop-i.invariant within _ (sym c.has.ensures ∙ c.if-has.false)
