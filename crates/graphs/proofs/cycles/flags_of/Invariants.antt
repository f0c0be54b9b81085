use Rattle.graphs.specs.Graphs.{AreCycles}
use Rattle.graphs.proofs.cycles.flags_of.Given as goal

abbrev pub invariant-loop-a : goal.invariant-loop-a
invariant-loop-a l = AreCycles l.rows l.flags.items l.a
