use Rattle.std.proofs.Common.{map, drop}
use Rattle.wf_bufs.specs.EngineLaw.{steps_of}
use Rattle.wf_bufs.specs.HostSeen.{host_of}
use Rattle.wf_bufs.specs.ActionViews.{action_of, seen_as}
use Rattle.wf_bufs.proofs.Performing.{Proceeds}
use Rattle.wf_bufs.proofs.actions.perform.Given as goal

abbrev pub invariant-loop-action : goal.invariant-loop-action
invariant-loop-action g l =
    let engine = g.E.Engine in
    let first = engine.state l.fn.engine in
    Proceeds engine.stopped engine.surface engine.receivers (steps_of engine.surface engine.init_gives engine.call_gives) first (host_of l.fn.host) (map action_of l.fn.actions) (engine.state l.engine) (host_of l.host) (map (seen_as (engine.surface first)) l.seen.items) (map action_of (drop l.action-index l.fn.actions))
