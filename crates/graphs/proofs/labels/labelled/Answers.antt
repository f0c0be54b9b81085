use Rattle.std.proofs.Common.{◌≡◌, ℕ, length, subst, arith}
use Rattle.graphs.specs.Labels.{goes_back, AreJoined}
use Rattle.graphs.proofs.LabelLemmas.{none-given, all-given}
use Rattle.graphs.proofs.labels.labelled.Goals as goal

pub loop-i-init : goal.loop-i-init
loop-i-init c =
    let order = c.args.order.now.items in
    let whole : length order ≡ c.len-i.result = omega (arith, c.len-i.ensures) in (
      none-given (length c.args.turned.now) (goes_back c.args.turned.now) order c.in_ok-labels.labels.items c.new-queue.result.items c.len-i.result whole c.in_ok-labels.ensures.len c.in_ok-labels.ensures.zero c.new-queue.ensures.items,
      omega (arith, whole),
    )

pub returns : goal.returns
returns c =
    let n = length c.args.turned.now in
    let step = goes_back c.args.turned.now in
    let over : c.loop-i.i ≡ 0 = omega (arith, c.loop-i-test.false) in
    let P : ℕ → Type 0 = AreJoined n step c.args.order.now.items c.loop-i.labels.items c.loop-i.queue.items in
    all-given n step c.args.order.now.items c.loop-i.labels.items c.loop-i.queue.items c.requires.leaving (subst P over c.loop-i.invariant.0)
