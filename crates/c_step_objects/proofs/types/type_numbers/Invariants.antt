use Rattle.std.proofs.Common.{◌≡◌, ◌≤◌, ℕ, nat_eq, length, drop}
use Rattle.indexmap.specs.IndexMap.{get}
use Rattle.c_step_objects.specs.Shapes.{number_in}
use Rattle.c_step_objects.specs.Types.{numbered_type}
use Rattle.c_step_objects.proofs.types.type_numbers.Given as goal

abbrev pub invariant-loop-i : goal.invariant-loop-i
invariant-loop-i l = record {
  within : l.i ≤ length l.structs;
  so_far : (k : ℕ) → get nat_eq l.numbers k ≡ numbered_type (number_in l.names) l.of_package (drop l.i l.structs) k;
}

abbrev pub decreases-loop-i : goal.decreases-loop-i
decreases-loop-i l = l.i
