use Rattle.std.proofs.Common.{◌≡◌, ◌+◌, ◌*◌, ◌≤◌, ◌||◌, ℕ, List, length}
use Rattle.c_text.specs.CNodes.{code_of}
use Rattle.wf_exprs.specs.Reads.{code_reads}
use Rattle.wf_exprs_nodes.specs.Marks.{is_marked}
use Rattle.wf_exprs_nodes.proofs.marks.+marking_code.Given as goal

abbrev pub decreases-mark_code : goal.decreases-mark_code
decreases-mark_code l = 3 * l.s.0 + 1

abbrev pub decreases-mark_stmt : goal.decreases-mark_stmt
decreases-mark_stmt l = 3 * l.s.0

abbrev pub decreases-mark_other : goal.decreases-mark_other
decreases-mark_other l = 3 * l.other.0 + 2

-- A name is there, or the statements that are left read it, where it was there or all read it.
abbrev pub invariant-mark_code-loop-next : goal.invariant-mark_code-loop-next
invariant-mark_code-loop-next l = record {
  within : l.at.0 ≤ l.fn.s.0;
  sized : length l.read ≡ length l.fn.read;
  left : (name : List ℕ) → (is_marked l.u.names l.read name || code_reads name (code_of l.u l.at.0)) ≡ (is_marked l.u.names l.fn.read name || code_reads name (code_of l.u l.fn.s.0));
}

abbrev pub decreases-mark_code-loop-next : goal.decreases-mark_code-loop-next
decreases-mark_code-loop-next l = l.at.0
