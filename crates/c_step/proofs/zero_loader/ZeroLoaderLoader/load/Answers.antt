use Rattle.c_text.specs.CNodes.{unit_tree}
use Rattle.std.proofs.Common.{◌<◌, length, sym, subst}
use Rattle.wf_text.specs.Surface.{Surface}
use Rattle.c_step.proofs.LoaderLaws.{has_status, zero_run}
use Rattle.c_step.proofs.zero_loader.ZeroLoaderLoader.load.Goals as goal

pub new-requires : goal.new-requires
new-requires c = subst (λ (s : Surface). 0 < length s.statuses) (sym c.in_ok-surface.ensures) (has_status c.args.surface.now.statuses c.requires.ok)

pub returns-clause-seen : goal.returns-clause-seen
returns-clause-seen c =
    λ actions lawful.
    zero_run c.new.result c.in_ok-surface.surface c.args.surface.now c.in_ok-receivers.receivers.items c.args.receivers.now c.new.ensures c.in_ok-surface.ensures c.in_ok-receivers.ensures (unit_tree c.args.u) actions
