use Rattle.std.proofs.Common.{◌≡◌, ◌<◌, ◌≤◌, ◌∙◌, ℕ, length, sym, subst, arith}
use Rattle.graphs.proofs.NumberLemmas.{holds_at}
use Rattle.graphs.specs.Labels.{goes_back, IsRound}
use Rattle.graphs.proofs.LabelLemmas.{place-read, label-read, next-label, round-begins, round-skipped, round-ends, queue-few}
use Rattle.graphs.proofs.labels.round.Goals as goal

pub index-requires-2 : goal.index-requires-2
index-requires-2 c =
    let order = c.args.order.now.items in
    let r = c.index.result.now in
    omega (arith, c.requires.leaving.within r (holds_at order c.args.i r (place-read order c.args.i r c.requires.i c.index.ensures)), c.requires.joined.given.len)

pub returns-then-index-ne0 : goal.returns-then-index-ne0
returns-then-index-ne0 c =
    let order = c.args.order.now.items in
    let labels = c.args.labels.now.items in
    let r = c.index.result.now in
    let is = place-read order c.args.i r c.requires.i c.index.ensures in
    let inside : r < length labels = omega (arith, c.requires.leaving.within r (holds_at order c.args.i r is), c.requires.joined.given.len) in
    let one = label-read labels r c.index-2.result.now inside c.index-2.ensures in
    round-skipped (length c.args.turned.now) (goes_back c.args.turned.now) order labels c.args.queue.now.items c.args.i r c.requires.joined is (λ e. c.if-index-ne0.true (sym one ∙ e))

pub give-requires : goal.give-requires
give-requires c =
    let order = c.args.order.now.items in
    let r = c.index.result.now in
    omega (arith, c.requires.leaving.within r (holds_at order c.args.i r (place-read order c.args.i r c.requires.i c.index.ensures)), c.requires.joined.given.len)

pub loop-p-init : goal.loop-p-init
loop-p-init c =
    let n = length c.args.turned.now in
    let step = goes_back c.args.turned.now in
    let order = c.args.order.now.items in
    let labels = c.args.labels.now.items in
    let queue = c.args.queue.now.items in
    let r = c.index.result.now in
    let is = place-read order c.args.i r c.requires.i c.index.ensures in
    let below : r < n = c.requires.leaving.within r (holds_at order c.args.i r is) in
    let one = label-read labels r c.index-2.result.now (omega (arith, below, c.requires.joined.given.len)) c.index-2.ensures in
    let long : length queue ≡ c.len-p.result = omega arith in
    let P : ℕ → Type 0 = λ p. IsRound n step order c.give.new.labels.items c.give.new.queue.items p c.args.i in
    subst P long (round-begins n step order labels c.give.new.labels.items queue c.give.new.queue.items c.args.i r c.requires.leaving c.requires.joined is (one ∙ c.if-index-ne0.false) below
    c.in_ok-give.ensures.len c.in_ok-give.ensures.queue (next-label labels c.give.new.labels.items r c.args.i c.in_ok-give.ensures.set))

pub loop-p-smaller : goal.loop-p-smaller
loop-p-smaller c =
    let few = queue-few (length c.args.turned.now) (goes_back c.args.turned.now) c.args.order.now.items c.loop-p.labels.items c.loop-p.queue.items c.args.i c.loop-p.invariant.given in
    omega (arith, few, c.loop-p-test.true, c.len.ensures)

pub returns : goal.returns
returns c =
    let over : length c.loop-p.queue.items ≤ c.loop-p.p = omega (arith, c.loop-p-test.false, c.len.ensures) in
    round-ends (length c.args.turned.now) (goes_back c.args.turned.now) c.args.order.now.items c.loop-p.labels.items c.loop-p.queue.items c.args.i c.loop-p.p over c.loop-p.invariant
