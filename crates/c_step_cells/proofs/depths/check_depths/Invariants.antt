use Rattle.std.proofs.Common.{◌≡◌, true}
use Rattle.std.specs.Prelude.{nat_le}
use Rattle.std.specs.List.{list_all}
use Rattle.c_step_cells.specs.Depths.{depths_of, most_calls}
use Rattle.c_step_cells.proofs.depths.check_depths.Given as goal

abbrev pub invariant-loop-k : goal.invariant-loop-k
invariant-loop-k l = record {
  depths : l.depths.items ≡ depths_of l.code l.k;
  shallow : list_all (λ depth. nat_le depth most_calls) l.depths.items ≡ true;
}
