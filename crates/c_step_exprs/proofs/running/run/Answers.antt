use Rattle.std.proofs.Common.{arith, ◌∙◌}
use Rattle.c_mem.specs.MemoryViews.{memory}
use Rattle.c_step_exprs.specs.Stacks.{on_stack}
use Rattle.c_step_exprs.specs.Values.{placed}
use Rattle.c_step_exprs.proofs.Skips.{ends_there, goes_there}
use Rattle.c_step_exprs.proofs.running.run.Goals as goal

pub returns-then-skip-code-clause-stops : goal.returns-then-skip-code-clause-stops
returns-then-skip-code-clause-stops c = λ called. c.loop-at.invariant.1.1.1.1.1 called
    ∙ ends_there (placed c.args.frame (memory c.args.mem.now) called) c.args.code.now c.loop-at.at c.in-Some.skip _ (on_stack c.loop-at.stack) (on_stack c.act.new.stack)
    (omega arith) (c.in-Some.ensures.step called) (omega arith)

pub loop-at-preserved : goal.loop-at-preserved
loop-at-preserved c = (
  omega arith,
  (
    omega (arith, c.in-Some.ensures.room, c.in-Some.ensures.grown),
    (
      omega (arith, c.in-Some.ensures.room),
      (
        omega arith,
        (
          omega (arith, c.in-Some.ensures.grown),
          λ called. c.loop-at.invariant.1.1.1.1.1 called
              ∙ goes_there (placed c.args.frame (memory c.args.mem.now) called) c.args.code.now c.loop-at.at c.in-Some.skip _ (on_stack c.loop-at.stack) (on_stack c.act.new.stack)
              (omega arith) (c.in-Some.ensures.step called),
        ),
      ),
    ),
  ),
)
