use Rattle.std.proofs.Common.{◌<◌, ◌≤◌, ◌+◌, ◌*◌, drop}
use Rattle.c_text.specs.CNodes.{expr_of}
use Rattle.c_text.specs.CFits.{HasArgs, HasExprs}
use Rattle.c_text.specs.CLinks.{link_count, links_text}
use Rattle.pens.proofs.Progress.{Progress, Shifted}
use Rattle.c_text.proofs.Parts.{args_written, operands_written}
use Rattle.c_text.proofs.print_exprs.+print_exprs.Given as goal

abbrev pub decreases-expr : goal.decreases-expr
decreases-expr g l = 16 * l.e.0 + 10

abbrev pub decreases-any_expr : goal.decreases-any_expr
decreases-any_expr g l = 16 * l.e.0 + 9

abbrev pub decreases-chain : goal.decreases-chain
decreases-chain g l = 16 * l.whole.0 + 8

abbrev pub decreases-links : goal.decreases-links
decreases-links g l = 16 * l.e.0 + 7

abbrev pub decreases-link : goal.decreases-link
decreases-link g l = 16 * l.e.0 + 6

abbrev pub decreases-links-loop-left : goal.decreases-links-loop-left
decreases-links-loop-left g l = l.left

abbrev pub invariant-links-loop-left : goal.invariant-links-loop-left
invariant-links-loop-left g l = record {
  ready : g.P.Pen.ready l.pen;
  some : 0 < l.left;
  within : l.left ≤ link_count (expr_of l.u l.e.0);
  so_far : Shifted g.P.Pen.writes l.initial.pen l.pen (links_text (expr_of l.u l.e.0) l.initial.left) (links_text (expr_of l.u l.e.0) l.left);
}

abbrev pub decreases-call : goal.decreases-call
decreases-call g l = 16 * l.below + 5

abbrev pub decreases-args : goal.decreases-args
decreases-args g l = 16 * l.below + 4

abbrev pub decreases-more_args : goal.decreases-more_args
decreases-more_args g l = 16 * l.below + 3

abbrev pub decreases-argument : goal.decreases-argument
decreases-argument g l = 16 * l.below + 2

abbrev pub decreases-operation : goal.decreases-operation
decreases-operation g l = 16 * l.below + 2

abbrev pub decreases-operands : goal.decreases-operands
decreases-operands g l = 16 * l.below + 1

abbrev pub decreases-choice : goal.decreases-choice
decreases-choice g l = 16 * l.below

abbrev pub invariant-more_args-loop-other : goal.invariant-more_args-loop-other
invariant-more_args-loop-other g l = record {
  ready : g.P.Pen.ready l.pen;
  has : HasArgs l.u l.below (drop l.other-index l.others);
  so_far : Progress g.P.Pen.writes (args_written l.u) l.others l.initial.pen l.pen l.other-index;
}

abbrev pub invariant-operands-loop-other : goal.invariant-operands-loop-other
invariant-operands-loop-other g l = record {
  ready : g.P.Pen.ready l.pen;
  has : HasExprs l.below (drop l.other-index l.others);
  so_far : Progress g.P.Pen.writes (operands_written l.u l.op) l.others l.initial.pen l.pen l.other-index;
}
