use Rattle.wf_mean.proofs.EngineLaws.{load-told}
use Rattle.wf_mean.proofs.engine.SourceEngine.load.Goals as goal

pub returns : goal.returns
returns c = load-told c.typed-t.result.now c.args.a.now.nodes c.in_ok-machine.machine.receivers.items c.args.receivers.now c.typed-t.ensures.same c.in_ok-machine.ensures.declared c.in_ok-machine.ensures.fresh
