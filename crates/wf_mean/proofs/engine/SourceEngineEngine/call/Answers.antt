use Rattle.std.proofs.Common.{length}
use Rattle.wf_bufs.specs.HostSeen.{host_of}
use Rattle.wf_bufs.specs.HostViews.{call_of}
use Rattle.wf_mean.proofs.EngineLaws.{call-kind-told, call-sizes-told, call-told, receivers-told}
use Rattle.wf_mean.proofs.engine.SourceEngineEngine.call.Goals as goal

pub returns-clause-law : goal.returns-clause-law
returns-clause-law c =
    call-told c.self.inside.t.now c.self.inside.machine.receivers.items c.call-reply.new.self.receivers.items c.self.inside.stopped c.stops-self-inside.result c.args.self.now c.self.view_is (call_of c.args.what.now) (host_of c.args.bufs.now) (host_of c.call-reply.new.bufs) c.args.turns
    c.call-reply.result c.requires.goes_on c.stops-self-inside.ensures c.call-reply.ensures.declared c.call-reply.ensures.gives

pub returns-clause-receivers : goal.returns-clause-receivers
returns-clause-receivers c = receivers-told c.self.inside.t.now c.self.inside.machine.receivers.items c.call-reply.new.self.receivers.items c.self.inside.stopped c.stops-self-inside.result c.args.self.now c.self.view_is c.call-reply.ensures.declared

pub returns-clause-kind : goal.returns-clause-kind
returns-clause-kind c =
    call-kind-told c.self.inside.t.now c.self.inside.machine.receivers.items c.call-reply.new.self.receivers.items c.self.inside.stopped c.stops-self-inside.result c.args.self.now c.self.view_is c.self.invariant.0 (length c.args.bufs.now.bufs) (length c.args.bufs.now.arrays)
    (call_of c.args.what.now) (host_of c.args.bufs.now) (host_of c.call-reply.new.bufs) c.args.turns c.call-reply.result c.requires.lawful c.call-reply.ensures.gives

pub returns-clause-sizes : goal.returns-clause-sizes
returns-clause-sizes c =
    call-sizes-told c.self.inside.t.now c.self.inside.machine.receivers.items c.call-reply.new.self.receivers.items c.self.inside.stopped c.stops-self-inside.result c.args.self.now c.self.view_is (call_of c.args.what.now) (host_of c.args.bufs.now) (host_of c.call-reply.new.bufs) c.args.turns
    c.call-reply.result c.call-reply.ensures.gives
