use Rattle.std.proofs.Common.{◌≡◌, ◌≤◌, take}
use Rattle.std.specs.Prelude.{reverse}
use Rattle.c_step_exprs.specs.Stacks.{on_stack, most}
use Rattle.c_step_engine.proofs.hosts.put_all.Given as goal

abbrev pub invariant-loop-v : goal.invariant-loop-v
invariant-loop-v l = record {
  values : on_stack l.stack ≡ reverse (take l.v-index l.given);
  room : most l.fn.stack ≤ most l.stack;
}
