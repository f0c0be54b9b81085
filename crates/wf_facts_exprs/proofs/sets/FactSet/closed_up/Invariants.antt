use Rattle.std.proofs.Common.{◌≡◌, ◌≤◌, ◌<◌, ◌+◌, ◌/◌, ℕ, length}
use Rattle.std.specs.Prelude.{slice_index}
use Rattle.wf_facts_exprs.proofs.ClosedLemmas.{shifted_word}
use Rattle.wf_facts_exprs.proofs.sets.FactSet.closed_up.Given as goal

-- The words so far from the one of the place on have been shifted, and the others stand.
abbrev pub invariant-loop-w : goal.invariant-loop-w
invariant-loop-w l = record {
  long : length l.words ≡ 8;
  done : (j : ℕ) → l.place / 64 ≤ j → j < l.w → slice_index l.words j ≡ shifted_word (slice_index l.self.words j) (slice_index l.self.words (j + 1));
  rest : (j : ℕ) → j < l.place / 64 → slice_index l.words j ≡ slice_index l.self.words j;
}
