use Rattle.std.proofs.Common.{◌≡◌, ◌≤◌, ◌<◌, ℕ, length}
use Rattle.std.specs.Prelude.{slice_index, bit_or}
use Rattle.wf_facts_exprs.proofs.sets.FactSet.join.Given as goal

-- The words so far have been joined, and the others stand.
abbrev pub invariant-loop-w : goal.invariant-loop-w
invariant-loop-w l = record {
  long : length l.self.words ≡ 8;
  done : (j : ℕ) → j < l.w → slice_index l.self.words j ≡ bit_or (slice_index l.fn.self.words j) (slice_index l.other.words j);
  rest : (j : ℕ) → l.w ≤ j → slice_index l.self.words j ≡ slice_index l.fn.self.words j;
}
