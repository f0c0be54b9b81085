use Rattle.wf_bufs.specs.HostSeen.{host_of}
use Rattle.wf_script_drive.proofs.steps.perform.Goals as goal

pub returns-in-Init-clause-responds : goal.returns-in-Init-clause-responds
returns-in-Init-clause-responds g c = rw c.in-Init.is (c.init.ensures.responds (host_of c.args.host.now))
