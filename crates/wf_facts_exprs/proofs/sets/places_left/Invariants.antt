use Rattle.std.proofs.Common.{◌≡◌, length}
use Rattle.wf_facts_exprs.specs.Sets.{staying, ArePlaces}
use Rattle.wf_facts_exprs.proofs.sets.places_left.Given as goal

abbrev pub invariant-loop-i : goal.invariant-loop-i
invariant-loop-i l = record {
  so_far : ArePlaces l.dropped.words l.places l.i;
  whole : length l.places ≡ 512;
  next : l.stays ≡ staying l.dropped.words l.i;
}
