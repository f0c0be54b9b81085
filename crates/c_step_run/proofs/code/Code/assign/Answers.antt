use Rattle.c_step_run.proofs.EvalSteps.{kept_memory}
use Rattle.c_step_run.proofs.RunSteps.{can_run, stored_keeps}
use Rattle.c_step_run.proofs.code.Code.assign.Goals as goal

pub value-requires : goal.value-requires
value-requires c = record { ready = can_run c.args.self.now c.args.at c.args.st.now c.place.new.st c.requires.ready c.place.ensures.keeps c.place.ensures.empty }

pub returns-clause-keeps : goal.returns-clause-keeps
returns-clause-keeps c =
    stored_keeps c.args.st.now c.value.new.st c.assign_to.new.mem c.assign_to.result
    (kept_memory c.args.st.now c.place.new.st c.value.new.st c.place.ensures.keeps c.value.ensures.keeps) c.value.ensures.empty c.assign_to.ensures.shape c.assign_to.ensures.room
