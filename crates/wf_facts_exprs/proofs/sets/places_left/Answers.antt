use Rattle.std.proofs.Common.{◌<◌, length, sym, ap, ◌∙◌, ◌+◌, arith}
use Rattle.std.proofs.lemmas.List.{length-set}
use Rattle.wf_facts_exprs.proofs.SetLemmas.{places-more, staying-dropped, staying-kept, staying_few}
use Rattle.wf_facts_exprs.proofs.sets.places_left.Goals as goal

pub overflow_add-stays : goal.overflow_add-stays
overflow_add-stays c = omega (arith, c.loop-i.invariant.next, staying_few c.args.dropped.now.words c.loop-i.i)

pub loop-i-preserved-then-has : goal.loop-i-preserved-then-has
loop-i-preserved-then-has c =
    let within : c.loop-i.i < length c.loop-i.places = omega (arith, c.loop-i.invariant.whole, c.requires) in
    record {
      so_far = places-more c.args.dropped.now.words c.loop-i.places c.loop-i.i c.loop-i.stays within c.loop-i.invariant.next c.loop-i.invariant.so_far;
      whole = length-set c.loop-i.places c.loop-i.i c.loop-i.stays ∙ c.loop-i.invariant.whole;
      next = c.loop-i.invariant.next ∙ staying-dropped c.args.dropped.now.words c.loop-i.i (sym c.has.ensures ∙ c.if-has.true);
    }

pub loop-i-preserved : goal.loop-i-preserved
loop-i-preserved c =
    let within : c.loop-i.i < length c.loop-i.places = omega (arith, c.loop-i.invariant.whole, c.requires) in
    record {
      so_far = places-more c.args.dropped.now.words c.loop-i.places c.loop-i.i c.loop-i.stays within c.loop-i.invariant.next c.loop-i.invariant.so_far;
      whole = length-set c.loop-i.places c.loop-i.i c.loop-i.stays ∙ c.loop-i.invariant.whole;
      next = ap (λ n. n + 1) c.loop-i.invariant.next ∙ staying-kept c.args.dropped.now.words c.loop-i.i (sym c.has.ensures ∙ c.if-has.false);
    }
