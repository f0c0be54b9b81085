use Rattle.wf_mean.proofs.EngineLaws.{init-kind-told, init-told, receivers-told}
use Rattle.wf_mean.proofs.engine.SourceEngineEngine.init.Goals as goal

pub returns-clause-law : goal.returns-clause-law
returns-clause-law c =
    init-told c.self.inside.t.now c.self.inside.machine.receivers.items c.init-reply.new.self.receivers.items c.self.inside.stopped c.stops-self-inside.result c.args.self.now c.self.view_is c.args.receiver c.args._turns c.init-reply.result c.requires.goes_on c.stops-self-inside.ensures
    c.init-reply.ensures.declared c.init-reply.ensures.gives

pub returns-clause-receivers : goal.returns-clause-receivers
returns-clause-receivers c = receivers-told c.self.inside.t.now c.self.inside.machine.receivers.items c.init-reply.new.self.receivers.items c.self.inside.stopped c.stops-self-inside.result c.args.self.now c.self.view_is c.init-reply.ensures.declared

pub returns-clause-kind : goal.returns-clause-kind
returns-clause-kind c =
    init-kind-told c.self.inside.t.now c.self.inside.machine.receivers.items c.init-reply.new.self.receivers.items c.self.inside.stopped c.stops-self-inside.result c.args.self.now c.self.view_is c.self.invariant.0 c.args.receiver c.init-reply.result c.init-reply.ensures.gives
