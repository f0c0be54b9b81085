use Rattle.std.proofs.Common.{rules, ◌<◌, length, [], ◌∷◌}
use Rattle.pens.specs.PenLaws.{writes_joined}
use Rattle.pens.proofs.PenLemmas.{byte_waits, dropped}
use Rattle.pens.proofs.writing.SinkPen.write_byte.Goals as goal

pub returns-then-not-self-clause-writes : goal.returns-then-not-self-clause-writes
returns-then-not-self-clause-writes g c =
    let within : c.make_room.new.self.filled < length c.make_room.new.self.buffer = search rules in
    writes_joined _ _ _ [] (c.args.byte ∷ []) c.make_room.ensures.writes (byte_waits _ _ _ _ c.make_room.new.self.buffer c.make_room.new.self.filled c.make_room.new.self.sent c.make_room.new.self.failed c.args.byte c.make_room.ensures.sent c.if-not-self.true within)

pub returns-else-not-self-clause-writes : goal.returns-else-not-self-clause-writes
returns-else-not-self-clause-writes g c = writes_joined _ _ _ [] (c.args.byte ∷ []) c.make_room.ensures.writes (dropped _ (c.args.byte ∷ []) c.if-not-self.false)
