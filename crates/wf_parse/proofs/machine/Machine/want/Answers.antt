use Rattle.wf_parse_nodes.specs.Makers.{nodes}
use Rattle.wf_parse.specs.Machines.{state_of}
use Rattle.wf_parse.proofs.Keeping.{wanted_so, wanted_size}
use Rattle.wf_parse.proofs.machine.Machine.want.Goals as goal

pub returns-clause-wanted : goal.returns-clause-wanted
returns-clause-wanted c = wanted_so c.in_ok-lead.lead c.args.wants.now (state_of c.args.self.now) (record { room = 0; wants = _; made = _ }) c.in_ok-lead.ensures c.in_ok-perform_lead.ensures.made

pub returns-clause-size : goal.returns-clause-size
returns-clause-size c = wanted_size c.in_ok-lead.lead c.args.wants.now c.args.self.now.wants _ (nodes c.args.self.now.maker) _ c.in_ok-lead.ensures c.in_ok-perform_lead.ensures.grows c.requires.few
