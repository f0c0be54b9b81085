use Rattle.std.proofs.Common.{◌<◌, refl, sym, ◌∙◌, arith}
use Rattle.wf_facts.proofs.LeftLemmas.{few_left, all_left, room_made}
use Rattle.wf_facts.proofs.list.Facts.push.Goals as goal

pub returns-then-stands-clause-room : goal.returns-then-stands-clause-room
returns-then-stands-clause-room c = few_left c.args.t.now c.args.self.now c.requires.over

pub returns-then-first-ge512-clause-full : goal.returns-then-first-ge512-clause-full
returns-then-first-ge512-clause-full c = (
  record {
    many = all_left c.args.t.now c.args.self.now _ c.self.view_is c.requires.over (omega (arith, c.len.ensures.value, c.len.ensures.few, c.if-len-lt512.false)) (λ k h. c.first.ensures.before k (omega arith) (omega (arith, h, c.if-first-ge512.true)));
    other = sym c.stands.ensures ∙ c.if-stands.false;
  },
  refl,
)

pub append-requires-2-clause-over : goal.append-requires-2-clause-over
append-requires-2-clause-over c = c.settle.ensures.over c.args.t.now c.requires.over

pub append-requires-2-clause-room : goal.append-requires-2-clause-room
append-requires-2-clause-room c =
    let low : c.first.result < 512 = omega (arith, c.if-first-ge512.false) in
    room_made c.args.t.now c.args.self.now _ c.self.view_is c.requires.over (omega (arith, c.len.ensures.value, c.len.ensures.few, c.if-len-lt512.false)) c.first.result low (c.first.ensures.here low) c.settle.new.self.slots.list c.settle.ensures.whole
