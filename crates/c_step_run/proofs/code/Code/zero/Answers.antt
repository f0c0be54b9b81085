use Rattle.c_step_run.proofs.RunSteps.{stored_keeps}
use Rattle.c_step_run.proofs.code.Code.zero.Goals as goal

pub returns-clause-keeps : goal.returns-clause-keeps
returns-clause-keeps c =
    stored_keeps c.args.st.now c.place-p.new.st c.zero_at.new.mem c.zero_at.result c.place-p.ensures.keeps c.place-p.ensures.empty c.zero_at.ensures.shape c.zero_at.ensures.room
