use Rattle.std.proofs.Common.{◌++◌, drop}
use Rattle.c_text.specs.CNodes.{unit_tree}
use Rattle.c_text.specs.CSpelling.{includes}
use Rattle.c_text.specs.CLayout.{items_text}
use Rattle.pens.proofs.Progress.{Shifted}
use Rattle.c_text.proofs.print_items.unit.Given as goal

abbrev pub invariant-loop-i : goal.invariant-loop-i
invariant-loop-i g l = record {
  ready : g.P.Pen.ready l.pen;
  so_far : Shifted g.P.Pen.writes l.fn.pen l.pen (includes ++ items_text (unit_tree l.u)) (items_text (drop l.i (unit_tree l.u)));
}
