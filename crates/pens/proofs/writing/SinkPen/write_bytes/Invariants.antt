use Rattle.std.proofs.Common.{◌≡◌, ◌-◌, ◌^◌, ◌<◌, ◌≤◌, false, take}
use Rattle.pens.specs.Pens.{Wrote, pen_state}
use Rattle.pens.proofs.writing.SinkPen.write_bytes.Given as goal

abbrev pub invariant-loop-byte : goal.invariant-loop-byte
invariant-loop-byte g l = record {
  same : l.self.out.ghost_name ≡ l.initial.self.out.ghost_name;
  filled : l.self.filled ≤ 4096;
  sent : l.self.sent < 2 ^ 64;
  countable : l.self.failed ≡ false → g.O.Sink.faults l.self.out.now < 2 ^ 64 - 1;
  writes : Wrote (pen_state (g.O.Sink.written l.initial.self.out.now) (g.O.Sink.room l.initial.self.out.now) (g.O.Sink.longest l.initial.self.out.now) (g.O.Sink.faults l.initial.self.out.now) l.initial.self.buffer l.initial.self.filled l.initial.self.sent l.initial.self.failed) (pen_state (g.O.Sink.written l.self.out.now) (g.O.Sink.room l.self.out.now) (g.O.Sink.longest l.self.out.now) (g.O.Sink.faults l.self.out.now) l.self.buffer l.self.filled l.self.sent l.self.failed) (take l.byte-index l.piece);
}
