use Rattle.std.proofs.Common.{drop}
use Rattle.pens.proofs.Progress.{Progress}
use Rattle.c_text.specs.CFits.{HasFields}
use Rattle.c_text.proofs.Parts.{fields_written}
use Rattle.c_text.proofs.print_items.fields.Given as goal

abbrev pub invariant-loop-one : goal.invariant-loop-one
invariant-loop-one g l = record {
  ready : g.P.Pen.ready l.pen;
  has : HasFields l.u (drop l.one-index l.fields);
  so_far : Progress g.P.Pen.writes (fields_written l.u) l.fields l.initial.pen l.pen l.one-index;
}
