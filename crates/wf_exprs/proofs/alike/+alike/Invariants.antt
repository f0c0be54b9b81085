use Rattle.std.proofs.Common.{◌≡◌, ◌+◌, ◌*◌, drop}
use Rattle.c_text.specs.CNodes.{expr_of, operands_in}
use Rattle.wf_exprs.specs.Exprs.{all_alike}
use Rattle.wf_exprs.proofs.alike.+alike.Given as goal

abbrev pub decreases-are_alike : goal.decreases-are_alike
decreases-are_alike l = 2 * l.e.0 + 1

abbrev pub decreases-all_alike : goal.decreases-all_alike
decreases-all_alike l = 2 * l.e.0

-- The operands so far are alike, so all are where those that are left are.
abbrev pub invariant-all_alike-loop-i : goal.invariant-all_alike-loop-i
invariant-all_alike-loop-i l = all_alike (operands_in (expr_of l.u) (drop l.i l.operands)) (operands_in (expr_of l.u) (drop l.i l.others)) ≡ all_alike (operands_in (expr_of l.u) l.operands) (operands_in (expr_of l.u) l.others)
