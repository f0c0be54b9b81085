use Rattle.std.proofs.Common.{◌≡◌, ◌++◌, map, false}
use Rattle.c_text.specs.CNodes.{code_of}
use Rattle.c_form_stmts.specs.Lines.{lines_of, line_in, HasLines, left_of, size_of}
use Rattle.c_form_stmts.proofs.lines.lines.Given as goal

abbrev pub invariant-loop-at : goal.invariant-loop-at
invariant-loop-at l = record {
  so_far : map (line_in l.unit) l.listed.items ++ left_of l.unit l.enters l.left.items ≡ lines_of l.enters false (code_of l.unit l.fn.body.0);
  has_left : HasLines l.unit l.left.items;
  has_listed : HasLines l.unit l.listed.items;
}

abbrev pub decreases-loop-at : goal.decreases-loop-at
decreases-loop-at l = size_of l.unit l.left.items
