use Rattle.std.proofs.Common.{◌≤◌, ◌-◌}
use Rattle.c_text.specs.CLayout.{indented}
use Rattle.c_text.proofs.print_code.indent.Given as goal

abbrev pub invariant-loop-left : goal.invariant-loop-left
invariant-loop-left g l = record {
  within : l.left ≤ l.depth;
  ready : g.P.Pen.ready l.pen;
  writes : g.P.Pen.writes l.initial.pen l.pen (indented (l.depth - l.left));
}

abbrev pub decreases-loop-left : goal.decreases-loop-left
decreases-loop-left g l = l.left
