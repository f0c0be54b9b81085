use Rattle.std.proofs.Common.{map}
use Rattle.wf_bufs.specs.SurfaceViews.{receiver_of}
use Rattle.c_text.specs.CNodes.{unit_tree}
use Rattle.c_step.proofs.LoaderLaws.{first_surface, first_receivers, first_goes_on, first_seen}
use Rattle.c_step.proofs.c_machine.CMachineLoader.load.Goals as goal

pub returns-clause-surface : goal.returns-clause-surface
returns-clause-surface c = first_surface (unit_tree c.args.u) c.args.surface.now (map receiver_of c.args.receivers.now) c.load.result c.load.ensures.state

pub returns-clause-receivers : goal.returns-clause-receivers
returns-clause-receivers c = first_receivers (unit_tree c.args.u) c.args.surface.now (map receiver_of c.args.receivers.now) c.load.result c.load.ensures.state

pub returns-clause-goes_on : goal.returns-clause-goes_on
returns-clause-goes_on c = first_goes_on (unit_tree c.args.u) c.args.surface.now (map receiver_of c.args.receivers.now) c.load.result c.load.ensures.state

pub returns-clause-seen : goal.returns-clause-seen
returns-clause-seen c =
    let s = c.args.surface.now in
    first_seen (unit_tree c.args.u) s (map receiver_of c.args.receivers.now) c.load.result
    (λ actions. c.what_is_seen_is_c_run.ensures (unit_tree c.args.u) s (map receiver_of c.args.receivers.now) actions c.requires.ok) c.load.ensures.state
