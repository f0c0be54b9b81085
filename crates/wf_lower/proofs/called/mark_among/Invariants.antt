use Rattle.std.proofs.Common.{◌≡◌, ◌||◌, ℕ, drop, length}
use Rattle.wf_lower_stmts.specs.BodyNodes.{stands_at, stands_among}
use Rattle.wf_lower.specs.Called.{calls}
use Rattle.wf_lower.specs.Flags.{is_set}
use Rattle.wf_lower.proofs.called.mark_among.Given as goal

-- A flag is set, or a statement that is left calls the method, where it was set or one of all calls the method.
abbrev pub invariant-loop-s : goal.invariant-loop-s
invariant-loop-s l = record {
  sized : length l.called.items ≡ length l.fn.called.items;
  left : (n : ℕ) → (is_set l.called.items n || stands_among (stands_at l.t (calls n)) (drop l.s-index l.items)) ≡ (is_set l.fn.called.items n || stands_among (stands_at l.t (calls n)) l.items);
}
