use Rattle.std.proofs.Common.{length, ◌-◌, ◌≤◌, take}
use Rattle.std.specs.Io.KnownBytes.{Appends}
use Rattle.wf_outside.proofs.std_sink.write_whole.Given as goal

abbrev pub invariant-loop-gone : goal.invariant-loop-gone
invariant-loop-gone g l = record {
  within : l.gone ≤ length l.piece;
  taken : Appends (g.W.Write.contents l.fn.output) (g.W.Write.contents l.output) (take l.gone l.piece);
}

abbrev pub decreases-loop-gone : goal.decreases-loop-gone
decreases-loop-gone g l = length l.piece - l.gone
