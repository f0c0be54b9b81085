use Rattle.std.proofs.Common.{◌≡◌, ◌≤◌, ◌+◌, ◌++◌, length, drop, reverse, vec_len, vec_capacity}
use Rattle.stacks.proofs.stack.push_back.Given as goal

abbrev pub invariant-loop-left : goal.invariant-loop-left
invariant-loop-left g l = record {
  within : l.left ≤ length l.items;
  pushed : l.list.items ≡ l.fn.list.items ++ reverse (drop l.left l.items);
  room : vec_len l.list + l.left ≤ vec_capacity l.list;
}

abbrev pub decreases-loop-left : goal.decreases-loop-left
decreases-loop-left g l = l.left
