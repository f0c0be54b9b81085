use Rattle.std.proofs.Common.{◌<◌, sym, ◌∙◌, arith}
use Rattle.wf_facts_exprs.proofs.SetLemmas.{HasMoved-gone, HasMoved-kept, HasMoved-on, staying_few}
use Rattle.wf_facts_exprs.proofs.sets.FactSet.moved.Goals as goal

pub returns-then-i-n : goal.returns-then-i-n
returns-then-i-n c =
    HasMoved-on c.args.dropped.now.words c.args.self.now.words c.loop-from.moved.words c.loop-from.from c.args.n c.loop-from.invariant.0 c.loop-from.invariant.1
    (λ k a b. c.first-i.ensures.before k a (omega (arith, b, c.if-i-n.true)))

pub insert-requires : goal.insert-requires
insert-requires c =
    let below : c.first-i.result < c.args.n = omega (arith, c.if-i-n.false) in
    omega (arith, c.requires.places c.first-i.result below, staying_few c.args.dropped.now.words c.first-i.result, below, c.requires.few)

pub loop-from-preserved-then-has : goal.loop-from-preserved-then-has
loop-from-preserved-then-has c =
    let below : c.first-i.result < c.args.n = omega (arith, c.if-i-n.false) in
    let here = HasMoved-on c.args.dropped.now.words c.args.self.now.words c.loop-from.moved.words c.loop-from.from c.first-i.result c.first-i.ensures.start c.loop-from.invariant.1 c.first-i.ensures.before in (
      omega (arith, below),
      HasMoved-gone c.args.dropped.now.words c.args.self.now.words c.loop-from.moved.words c.first-i.result here (sym c.has.ensures ∙ c.if-has.true),
    )

pub loop-from-preserved : goal.loop-from-preserved
loop-from-preserved c =
    let below : c.first-i.result < c.args.n = omega (arith, c.if-i-n.false) in
    let here = HasMoved-on c.args.dropped.now.words c.args.self.now.words c.loop-from.moved.words c.loop-from.from c.first-i.result c.first-i.ensures.start c.loop-from.invariant.1 c.first-i.ensures.before in (
      omega (arith, below),
      HasMoved-kept c.args.dropped.now.words c.args.self.now.words c.loop-from.moved.words c.first-i.result here (sym c.has.ensures ∙ c.if-has.false) (c.first-i.ensures.here below)
          _ (c.requires.places c.first-i.result below) c.insert.new.self.words c.insert.ensures,
    )
