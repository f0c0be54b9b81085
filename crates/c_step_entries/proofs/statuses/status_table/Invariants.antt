use Rattle.std.proofs.Common.{◌≡◌, ◌≤◌, ◌-◌, ℕ, List, length, map, take, drop}
use Rattle.std.specs.Prelude.{vec_items}
use Rattle.c_form_exprs.specs.Tables.{named}
use Rattle.c_step_entries.specs.Known.{known_among}
use Rattle.c_step_entries.proofs.statuses.status_table.Given as goal

abbrev pub invariant-loop-i : goal.invariant-loop-i
invariant-loop-i l = record {
  past : 1 ≤ l.i;
  so_far : (text : List ℕ) → named l.table text ≡ known_among (drop 1 (take l.i (map vec_items l.statuses))) (map vec_items l.statuses) text;
}

abbrev pub decreases-loop-i : goal.decreases-loop-i
decreases-loop-i l = length l.statuses - l.i
