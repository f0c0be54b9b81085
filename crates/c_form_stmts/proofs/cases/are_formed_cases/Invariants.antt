use Rattle.std.proofs.Common.{◌≡◌, [], false, map, drop}
use Rattle.c_form_stmts.specs.Lines.{line_in, HasLines}
use Rattle.c_form_stmts.specs.Cases.{cases_fit}
use Rattle.c_form_stmts.proofs.cases.are_formed_cases.Given as goal

abbrev pub invariant-loop-line : goal.invariant-loop-line
invariant-loop-line l = record {
  so_far : cases_fit l.seen.keys l.has_default (map (line_in l.unit) (drop l.line-index l.lines)) ≡ cases_fit [] false (map (line_in l.unit) l.lines);
  has : HasLines l.unit (drop l.line-index l.lines);
}
