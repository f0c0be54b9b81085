use Rattle.std.proofs.Common.{◌≡◌, ◌≤◌, ◌<◌, ◌+◌}
use Rattle.c_text.specs.CNodes.{expr_of}
use Rattle.c_text.specs.CLinks.{link_count, without_links}
use Rattle.c_text.proofs.print_exprs.before_links.Given as goal

abbrev pub invariant-loop-left : goal.invariant-loop-left
invariant-loop-left l = record {
  below : l.at.0 + l.count ≤ l.fn.e.0 + l.left;
  upto : l.left ≤ l.count;
  more : l.left < link_count (expr_of l.u l.at.0);
  is : without_links (expr_of l.u l.at.0) l.left ≡ without_links (expr_of l.u l.fn.e.0) l.count;
  links : link_count (expr_of l.u l.at.0) + l.count ≡ link_count (expr_of l.u l.fn.e.0) + l.left;
}

abbrev pub decreases-loop-left : goal.decreases-loop-left
decreases-loop-left l = l.left
