use Rattle.std.proofs.Common.{ap, ◌∙◌}
use Rattle.wf_parse_grammar.specs.Wanted.{led_by}
use Rattle.wf_parse_nodes.specs.Makers.{nodes}
use Rattle.wf_parse.specs.Machines.{state_of}
use Rattle.wf_parse.proofs.Keeping.{led_before, wanted_so, wanted_size}
use Rattle.wf_parse.proofs.machine.Machine.want_led.Goals as goal

pub returns-clause-wanted : goal.returns-clause-wanted
returns-clause-wanted c =
    wanted_so c.args.lead (led_by c.args.lead c.args.wants.now) (state_of c.args.self.now) (record { room = 0; wants = _; made = _ })
    (ap (led_by c.args.lead) c.in_ok-push_all.ensures ∙ led_before c.args.lead c.args.wants.now c.args.self.now.wants) c.in_ok-perform_lead.ensures.made

pub returns-clause-size : goal.returns-clause-size
returns-clause-size c =
    wanted_size c.args.lead (led_by c.args.lead c.args.wants.now) c.args.self.now.wants _ (nodes c.args.self.now.maker) _
    (ap (led_by c.args.lead) c.in_ok-push_all.ensures ∙ led_before c.args.lead c.args.wants.now c.args.self.now.wants) c.in_ok-perform_lead.ensures.grows c.requires.few
