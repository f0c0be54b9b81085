use Rattle.std.proofs.Common.{◌≡◌, ◌≤◌, ◌++◌, length, drop, map, reverse}
use Rattle.wf_mean.specs.Sizes.{structs_in}
use Rattle.wf_mean.proofs.fresh.put_inside.Given as goal

-- The fields that follow are put.
abbrev pub invariant-loop-i : goal.invariant-loop-i
invariant-loop-i l = record {
  within : l.i ≤ length l.declared;
  so_far : reverse l.left.items ≡ structs_in (map (λ x. x.ty) (drop l.i l.declared)) ++ reverse l.fn.left.items;
}

abbrev pub decreases-loop-i : goal.decreases-loop-i
decreases-loop-i l = l.i
