use Rattle.c_step_calls.proofs.Calls.{rests_after_init}
use Rattle.c_step_calls.proofs.Endings.{done_so}
use Rattle.c_step_calls.proofs.calling.init_receiver.Goals as goal

pub returns-clause-rests : goal.returns-clause-rests
returns-clause-rests c = done_so c.init_by_host.result _ _ (rests_after_init c.args.text.code.now c.args.room.now c.args.st.now c.init_by_host.new.st c.requires.rests) c.init_by_host.ensures.keeps
