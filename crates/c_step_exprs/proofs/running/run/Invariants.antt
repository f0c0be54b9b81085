use Rattle.std.proofs.Common.{◌≡◌, ℕ, ◌+◌, ◌-◌, ◌≤◌, List, Option, length}
use Rattle.c_meaning.specs.declared.values.CValue.{CValue}
use Rattle.c_mem.specs.MemoryViews.{memory}
use Rattle.c_step_exprs.specs.Running.{run_from}
use Rattle.c_step_exprs.specs.Stacks.{on_stack, most}
use Rattle.c_step_exprs.specs.Values.{placed}
use Rattle.c_step_exprs.proofs.running.run.Given as goal

abbrev pub invariant-loop-at : goal.invariant-loop-at
invariant-loop-at l =
    (l.at ≤ length l.code)
    × ((length (on_stack l.stack) + length l.code ≤ most l.stack + l.at)
    × ((most l.fn.stack ≤ most l.stack)
    × ((l.fn.from ≤ l.at)
    × ((length (on_stack l.stack) + l.fn.from ≤ length (on_stack l.fn.stack) + l.at)
    × ((called : ℕ → List CValue → Option CValue) → run_from (placed l.frame (memory l.mem) called) l.code l.fn.from (on_stack l.fn.stack) ≡ run_from (placed l.frame (memory l.mem) called) l.code l.at (on_stack l.stack))))))

abbrev pub decreases-loop-at : goal.decreases-loop-at
decreases-loop-at l = length l.code - l.at
