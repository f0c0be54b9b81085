use Rattle.std.proofs.Common.{◌≡◌, ◌≤◌, ◌<◌, ◌+◌, ◌^◌, length}
use Rattle.c_text.specs.CNodes.{expr_of}
use Rattle.c_text.specs.CLinks.{link_count}
use Rattle.c_text.proofs.print_exprs.count_links.Given as goal

abbrev pub invariant-loop-of : goal.invariant-loop-of
invariant-loop-of l = record {
  has : l.at.0 < length l.u.exprs;
  some : 0 < l.count;
  most : length l.u.exprs < 2 ^ 64;
  few : l.at.0 + l.count ≤ l.fn.e.0 + 1;
  counted : l.count + link_count (expr_of l.u l.at.0) ≡ link_count (expr_of l.u l.fn.e.0) + 1;
}

abbrev pub decreases-loop-of : goal.decreases-loop-of
decreases-loop-of l = l.at.0
