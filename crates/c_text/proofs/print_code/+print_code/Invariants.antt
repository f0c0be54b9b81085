use Rattle.std.proofs.Common.{◌+◌, ◌*◌, ◌<◌, length, true, false, IsTrue}
use Rattle.c_text.specs.CNodes.{code_of}
use Rattle.c_text.specs.CLayout.{code_text}
use Rattle.c_text.specs.CLines.{is_branch}
use Rattle.pens.proofs.Progress.{Shifted}
use Rattle.c_text.proofs.print_code.+print_code.Given as goal

abbrev pub decreases-line : goal.decreases-line
decreases-line g l = 6 * l.s.0 + 2

abbrev pub decreases-branch_line : goal.decreases-branch_line
decreases-branch_line g l = 6 * l.s.0 + 1

abbrev pub decreases-branch_arm : goal.decreases-branch_arm
decreases-branch_arm g l = 6 * l.s.0

abbrev pub decreases-code : goal.decreases-code
decreases-code g l = 6 * l.s.0 + 3

abbrev pub decreases-braces : goal.decreases-braces
decreases-braces g l = 6 * l.inner.0 + 4

abbrev pub decreases-tested_block : goal.decreases-tested_block
decreases-tested_block g l = 6 * l.body.0 + 5

abbrev pub decreases-code-loop-at : goal.decreases-code-loop-at
decreases-code-loop-at g l = l.at.0

abbrev pub decreases-branch_line-loop-next : goal.decreases-branch_line-loop-next
decreases-branch_line-loop-next g l = l.at.0

abbrev pub invariant-code-loop-at : goal.invariant-code-loop-at
invariant-code-loop-at g l = record {
  ready : g.P.Pen.ready l.pen;
  has : l.at.0 < length l.u.stmts;
  before : l.at.0 < l.initial.at.0 + 1;
  so_far : Shifted g.P.Pen.writes l.initial.pen l.pen (code_text (code_of l.u l.initial.at.0) false l.depth) (code_text (code_of l.u l.at.0) false l.depth);
}

abbrev pub invariant-branch_line-loop-next : goal.invariant-branch_line-loop-next
invariant-branch_line-loop-next g l = record {
  ready : g.P.Pen.ready l.pen;
  has : l.at.0 < length l.u.stmts;
  branch : IsTrue (is_branch (code_of l.u l.at.0));
  before : l.at.0 < l.initial.at.0 + 1;
  so_far : Shifted g.P.Pen.writes l.initial.pen l.pen (code_text (code_of l.u l.initial.at.0) true l.depth) (code_text (code_of l.u l.at.0) true l.depth);
}
