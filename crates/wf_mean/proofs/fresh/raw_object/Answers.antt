use Rattle.std.proofs.Common.{map}
use Rattle.wf_mean_exprs.specs.MachineState.{field_seen}
use Rattle.wf_mean.proofs.FreshLaws.{raw-seen}
use Rattle.wf_mean.proofs.fresh.raw_object.Goals as goal

pub returns-clause-raw : goal.returns-clause-raw
returns-clause-raw c = raw-seen c.args.t.now c.requires.typed (map field_seen c.args.fields.items) c.in_ok-kept.kept.items c.in_ok-kept.ensures.none c.in_ok-kept.ensures.locals
