use Rattle.std.proofs.Common.{◌≡◌, ◌+◌, ◌*◌, drop}
use Rattle.c_text.specs.CNodes.{expr_of, operands_in}
use Rattle.wf_exprs.specs.Exprs.{any_or}
use Rattle.wf_exprs.proofs.ors.+ors.Given as goal

abbrev pub decreases-has_or : goal.decreases-has_or
decreases-has_or l = 2 * l.e.0 + 1

abbrev pub decreases-any_or : goal.decreases-any_or
decreases-any_or l = 2 * l.e.0

-- No or stands in the operands so far, so one does in all where one does in those that are left.
abbrev pub invariant-any_or-loop-i : goal.invariant-any_or-loop-i
invariant-any_or-loop-i l = any_or (operands_in (expr_of l.u) (drop l.i l.operands)) ≡ any_or (operands_in (expr_of l.u) l.operands)
