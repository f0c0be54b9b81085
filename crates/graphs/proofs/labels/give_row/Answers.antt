use Rattle.std.proofs.Common.{◌≡◌, ◌<◌, ◌≤◌, ◌∙◌, ◌+◌, ℕ, Bool, true, if◌then◌else◌, List, Vec, Global, nat_eq, length, slice_index_or, inl, inr, refl, sym, ap, arith}
use Rattle.graphs.specs.Graphs.{holds, goes}
use Rattle.graphs.proofs.NumberLemmas.{holds_at, holds_index}
use Rattle.graphs.specs.Labels.{goes_back, label}
use Rattle.graphs.proofs.WalkLemmas.{take-more, take-whole}
use Rattle.graphs.proofs.LabelLemmas.{place-read, label-read, label-held, next-label, place-labelled, row-ends}
use Rattle.graphs.proofs.labels.give_row.Goals as goal
use Rattle.graphs.proofs.labels.give_row.Goals.{then-index-eq0+in_ok-give, else-index-eq0}

pub row-row-requires : goal.row-row-requires
row-row-requires c =
    let queue = c.args.queue.now.items in
    let b = c.index-b.result.now in
    c.requires.round.given.within b (holds_at queue c.args.p b (place-read queue c.args.p b c.requires.p c.index-b.ensures))

pub loop-a-init : goal.loop-a-init
loop-a-init c = (c.requires.round, place-read c.args.queue.now.items c.args.p c.index-b.result.now c.requires.p c.index-b.ensures, λ a h. absurd (cc h))

pub index-requires : goal.index-requires
index-requires c =
    let a = slice_index_or c.row-row.result.now c.loop-a.a-index 0 in
    let goes_on : goes c.args.turned.now c.index-b.result.now a ≡ true = ap (λ l. holds l a) (sym c.row-row.ensures) ∙ holds_index c.row-row.result.now c.loop-a.a-index 0 c.loop-a-test.true in
    omega (arith, c.requires.within c.index-b.result.now a goes_on, c.loop-a.invariant.0.given.len)

pub give-requires : goal.give-requires
give-requires c =
    let a = slice_index_or c.row-row.result.now c.loop-a.a-index 0 in
    let goes_on : goes c.args.turned.now c.index-b.result.now a ≡ true = ap (λ l. holds l a) (sym c.row-row.ensures) ∙ holds_index c.row-row.result.now c.loop-a.a-index 0 c.loop-a-test.true in
    omega (arith, c.requires.within c.index-b.result.now a goes_on, c.loop-a.invariant.0.given.len)

pub loop-a-preserved : goal.loop-a-preserved
loop-a-preserved c = elim c.if-index-eq0.branch [
  | then-index-eq0+in_ok-give w ↦
      let new = c.if-index-eq0.labels.items in
      let longer = c.if-index-eq0.queue.items in
      let set : (q d : ℕ) → q < length labels → slice_index_or w.give.new.labels.items q d ≡ (if nat_eq q a then i + 1 else slice_index_or labels q d) = w.in_ok-give.ensures.set in
      place-labelled n step order labels new queue longer i a c.loop-a.invariant.0.given (one ∙ w.if-index-eq0.true) below
      (ap (λ (v : Vec ℕ Global). length v.items) w.labels-is ∙ w.in_ok-give.ensures.len)
      (ap (λ (v : Vec ℕ Global). v.items) w.queue-is ∙ w.in_ok-give.ensures.queue)
      (λ q d l. ap (λ (v : Vec ℕ Global). slice_index_or v.items q d) w.labels-is ∙ next-label labels w.give.new.labels.items a i set q d l)
      p b row c.loop-a.a-index c.requires.leaving c.loop-a.invariant.0 c.loop-a.invariant.1 goes_on c.loop-a-test.true refl c.loop-a.invariant.2
  | else-index-eq0 w ↦
      let held = label-held n step order labels queue i a c.loop-a.invariant.0.given (λ e. w.if-index-eq0.false (sym one ∙ e)) in
      rw (w.labels-is, w.queue-is) (c.loop-a.invariant.0, c.loop-a.invariant.1, λ q h. elim (take-more row c.loop-a.a-index q 0 c.loop-a-test.true h) [ inl u ↦ c.loop-a.invariant.2 q u | inr s ↦ ap (holds queue) s ∙ held ])
]
  where
    n : ℕ
    n = length c.args.turned.now

    step : ℕ → ℕ → Bool
    step = goes_back c.args.turned.now

    order : List ℕ
    order = c.args.order.now.items

    labels : List ℕ
    labels = c.loop-a.labels.items

    queue : List ℕ
    queue = c.loop-a.queue.items

    i : ℕ
    i = c.args.i

    p : ℕ
    p = c.args.p

    b : ℕ
    b = c.index-b.result.now

    row : List ℕ
    row = c.row-row.result.now

    a : ℕ
    a = slice_index_or row c.loop-a.a-index 0

    goes_on : goes c.args.turned.now b a ≡ true
    goes_on = ap (λ l. holds l a) (sym c.row-row.ensures) ∙ holds_index row c.loop-a.a-index 0 c.loop-a-test.true

    below : a < n
    below = c.requires.within b a goes_on

    one : label labels a ≡ c.index.result.now
    one = label-read labels a c.index.result.now (omega (arith, below, c.loop-a.invariant.0.given.len)) c.index.ensures

pub returns : goal.returns
returns c =
    let queue = c.loop-a.queue.items in
    let over : length c.row-row.result.now ≤ c.loop-a.a-index = omega (arith, c.loop-a-test.false) in
    row-ends (length c.args.turned.now) (goes_back c.args.turned.now) c.args.order.now.items c.loop-a.labels.items queue c.args.i c.args.p c.index-b.result.now c.loop-a.invariant.0 c.loop-a.invariant.1
    (λ a g. c.loop-a.invariant.2 a (take-whole c.row-row.result.now c.loop-a.a-index a over (ap (λ l. holds l a) c.row-row.ensures ∙ g)))
