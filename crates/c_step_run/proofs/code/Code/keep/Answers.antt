use Rattle.c_step_run.proofs.RunSteps.{stored_keeps}
use Rattle.c_step_run.proofs.code.Code.keep.Goals as goal

pub returns-clause-keeps : goal.returns-clause-keeps
returns-clause-keeps c =
    stored_keeps c.args.st.now c.place-after.new.st c.assign_to.new.mem c.assign_to.result c.place-after.ensures.keeps c.place-after.ensures.empty c.assign_to.ensures.shape c.assign_to.ensures.room
