use Rattle.std.proofs.Common.{drop}
use Rattle.pens.proofs.Progress.{Progress}
use Rattle.c_text.specs.CFits.{HasLocals}
use Rattle.c_text.proofs.Parts.{locals_written}
use Rattle.c_text.proofs.print_items.locals.Given as goal

abbrev pub invariant-loop-one : goal.invariant-loop-one
invariant-loop-one g l = record {
  ready : g.P.Pen.ready l.pen;
  has : HasLocals l.u (drop l.one-index l.locals);
  so_far : Progress g.P.Pen.writes (locals_written l.u) l.locals l.initial.pen l.pen l.one-index;
}
