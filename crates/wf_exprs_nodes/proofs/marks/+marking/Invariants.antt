use Rattle.std.proofs.Common.{◌≡◌, ◌+◌, ◌*◌, ◌||◌, ℕ, List, drop, length}
use Rattle.c_text.specs.CNodes.{args_in, expr_of, operands_in}
use Rattle.wf_exprs.specs.Reads.{args_read, operands_read}
use Rattle.wf_exprs_nodes.specs.Marks.{is_marked}
use Rattle.wf_exprs_nodes.proofs.marks.+marking.Given as goal

abbrev pub decreases-mark_expr : goal.decreases-mark_expr
decreases-mark_expr l = 4 * l.e.0 + 3

abbrev pub decreases-mark_operands : goal.decreases-mark_operands
decreases-mark_operands l = 4 * l.e.0 + 2

abbrev pub decreases-mark_call : goal.decreases-mark_call
decreases-mark_call l = 4 * l.e.0 + 2

abbrev pub decreases-mark_args : goal.decreases-mark_args
decreases-mark_args l = 4 * l.e.0 + 1

abbrev pub decreases-mark_arg : goal.decreases-mark_arg
decreases-mark_arg l = 4 * l.e.0

-- A name is there, or one of those that are left reads it, where it was there or one of all reads it.
abbrev pub invariant-mark_operands-loop-operand : goal.invariant-mark_operands-loop-operand
invariant-mark_operands-loop-operand l = record {
  sized : length l.read ≡ length l.fn.read;
  left : (name : List ℕ) → (is_marked l.u.names l.read name || operands_read name (operands_in (expr_of l.u) (drop l.operand-index l.operands))) ≡ (is_marked l.u.names l.fn.read name || operands_read name (operands_in (expr_of l.u) l.operands));
}

abbrev pub invariant-mark_args-loop-arg : goal.invariant-mark_args-loop-arg
invariant-mark_args-loop-arg l = record {
  sized : length l.read ≡ length l.fn.read;
  left : (name : List ℕ) → (is_marked l.u.names l.read name || args_read name (args_in l.u.names (expr_of l.u) (drop l.arg-index l.args))) ≡ (is_marked l.u.names l.fn.read name || args_read name (args_in l.u.names (expr_of l.u) l.args));
}
