use Rattle.std.proofs.Common.{drop}
use Rattle.pens.proofs.Progress.{Progress}
use Rattle.c_text.specs.CFits.{HasParams}
use Rattle.c_text.proofs.Parts.{params_written}
use Rattle.c_text.proofs.print_items.more_params.Given as goal

abbrev pub invariant-loop-one : goal.invariant-loop-one
invariant-loop-one g l = record {
  ready : g.P.Pen.ready l.pen;
  has : HasParams l.u (drop l.one-index l.params);
  so_far : Progress g.P.Pen.writes (params_written l.u) l.params l.initial.pen l.pen l.one-index;
}
