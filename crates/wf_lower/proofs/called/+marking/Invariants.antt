use Rattle.std.proofs.Common.{◌≡◌, ◌+◌, ◌*◌, ◌||◌, ℕ, drop, length}
use Rattle.wf_lower_stmts.specs.BodyNodes.{stands_at, stands_among, stands_in_arms}
use Rattle.wf_lower.specs.Called.{calls}
use Rattle.wf_lower.specs.Flags.{is_set}
use Rattle.wf_lower.proofs.called.+marking.Given as goal

abbrev pub decreases-mark_at : goal.decreases-mark_at
decreases-mark_at l = 4 * l.s.0 + 3

abbrev pub decreases-mark_if : goal.decreases-mark_if
decreases-mark_if l = 4 * l.s.0 + 2

abbrev pub decreases-mark_arms : goal.decreases-mark_arms
decreases-mark_arms l = 4 * l.s.0 + 1

abbrev pub decreases-mark_else : goal.decreases-mark_else
decreases-mark_else l = 4 * l.s.0 + 1

abbrev pub decreases-mark_block : goal.decreases-mark_block
decreases-mark_block l = 4 * l.s.0

-- A flag is set, or what is left calls the method, where it was set or the whole calls the method.
abbrev pub invariant-mark_arms-loop-arm : goal.invariant-mark_arms-loop-arm
invariant-mark_arms-loop-arm l = record {
  sized : length l.called.items ≡ length l.fn.called.items;
  left : (n : ℕ) → (is_set l.called.items n || stands_in_arms (stands_at l.t (calls n)) (drop l.arm-index l.arms)) ≡ (is_set l.fn.called.items n || stands_in_arms (stands_at l.t (calls n)) l.arms);
}

abbrev pub invariant-mark_block-loop-inner : goal.invariant-mark_block-loop-inner
invariant-mark_block-loop-inner l = record {
  sized : length l.called.items ≡ length l.fn.called.items;
  left : (n : ℕ) → (is_set l.called.items n || stands_among (stands_at l.t (calls n)) (drop l.inner-index l.inner-items)) ≡ (is_set l.fn.called.items n || stands_among (stands_at l.t (calls n)) l.inner-items);
}
