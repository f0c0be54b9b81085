use Rattle.std.proofs.Common.{arith, sym, ◌∙◌}
use Rattle.c_step_exprs.specs.Stacks.{on_stack}
use Rattle.c_step_run.proofs.EvalSteps.{stack_changed}
use Rattle.c_step_run.proofs.RunSteps.{nothing_on_top, stored_keeps}
use Rattle.c_step_run.proofs.code.Code.move_given.Goals as goal

pub returns-clause-keeps : goal.returns-clause-keeps
returns-clause-keeps c =
    stored_keeps c.args.st.now (record c.given.new.st { stack = c.pop-4.new.self }) c.move_cells.new.mem c.move_cells.result
    (stack_changed c.args.st.now c.given.new.st c.pop-4.new.self c.given.ensures.keeps (omega (arith, c.pop.ensures.room, c.pop-2.ensures.room, c.pop-3.ensures.room, c.pop-4.ensures.room)))
    (nothing_on_top (on_stack c.pop-3.new.self) (on_stack c.pop-4.new.self) c.pop-4.result c.pop-4.ensures.top c.pop-4.ensures.rest (sym c.is_some.ensures ∙ c.if-is_some.false)) c.move_cells.ensures.shape c.move_cells.ensures.room
