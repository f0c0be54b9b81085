use Rattle.c_meaning.specs.declared.cells.CellType.TheVariants.{U8}
use Rattle.c_mem.proofs.Stored.{found_is}
use Rattle.c_step_exprs.specs.Stacks.{on_stack}
use Rattle.c_step_frames.proofs.Arguments.{passes_fit, passes_one}
use Rattle.c_step_frames.proofs.passing.pass_one.Goals as goal

pub store-requires : goal.store-requires
store-requires c =
    passes_fit c.args.types.now c.args.object.now c.args.field _ c.in_ok-v.v c.in_ok-cell.cell c.requires.shaped (found_is c.args.types.now c.args.field U8 c.requires.field) c.in_ok-cell.ensures

pub returns-clause-passes : goal.returns-clause-passes
returns-clause-passes c =
    passes_one c.args.types.now c.args.object.now c.store.new.self c.args.field _ c.in_ok-v.v c.in_ok-cell.cell (on_stack c.args.stack.now) (on_stack c.pop.new.self) c.store.result
    c.requires.shaped (found_is c.args.types.now c.args.field U8 c.requires.field) c.in_ok-v.ensures.top c.in_ok-v.ensures.rest c.in_ok-cell.ensures c.store.ensures
