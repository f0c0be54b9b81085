use Rattle.std.proofs.Common.{◌≡◌, ◌≤◌, ◌-◌, map, drop, length}
use Rattle.c_form_exprs.specs.Tables.{named}
use Rattle.c_form_stmts.specs.Lines.{line_in, HasLines}
use Rattle.c_form_stmts.specs.Statements.{checked_in, formed_lines}
use Rattle.c_form_stmts.proofs.statements.Frame.are_formed.Given as goal

abbrev pub invariant-loop-i : goal.invariant-loop-i
invariant-loop-i l = record {
  so_far : formed_lines (checked_in l.self) (named l.self.labels) l.i (map (line_in l.self.within.front.nodes) (drop l.i l.lines)) ≡ formed_lines (checked_in l.self) (named l.self.labels) 0 (map (line_in l.self.within.front.nodes) l.lines);
  within : l.i ≤ length l.lines;
  has : HasLines l.self.within.front.nodes (drop l.i l.lines);
}

abbrev pub decreases-loop-i : goal.decreases-loop-i
decreases-loop-i l = length l.lines - l.i
