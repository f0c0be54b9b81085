use Rattle.std.proofs.Common.{◌<◌, length, sym, subst, ap}
use Rattle.wf_text.specs.Surface.{status}
use Rattle.wf_bufs.specs.EngineLaw.{DoneFits}
use Rattle.c_mem.specs.MemoryViews.{memory}
use Rattle.c_step_engine.specs.Engines.{EngineState}
use Rattle.c_step.specs.Machines.{loaded_of, state_of}
use Rattle.c_step.proofs.KnownLaws.{receiver_exists}
use Rattle.c_step.proofs.MachineLaws.{init_law, goes_on, ready_now}
use Rattle.c_step.proofs.machine.MachineEngine.init.Goals as goal

pub init-reply-requires-clause-ready : goal.init-reply-requires-clause-ready
init-reply-requires-clause-ready c =
    ready_now c.self.inside.known c.self.inside.room c.self.inside.store c.self.inside.stopped (goes_on (loaded_of c.self.inside.known) (memory c.self.inside.store.mem) (memory c.self.inside.store.mem) c.self.inside.stopped (state_of c.args.self.now) (ap state_of c.self.view_is) c.requires.goes_on) c.self.invariant.1

pub init-reply-requires-clause-exists : goal.init-reply-requires-clause-exists
init-reply-requires-clause-exists c =
    let P : EngineState → Type 0 = λ v. c.args.receiver < length v.loaded.receivers in
    receiver_exists c.self.inside.known c.args.receiver (subst P (sym (ap state_of c.self.view_is)) c.requires.exists)

pub returns-clause-law : goal.returns-clause-law
returns-clause-law c =
    init_law (loaded_of c.self.inside.known) (memory c.self.inside.store.mem) (memory c.init-reply.new.st.mem) c.self.inside.stopped (state_of c.args.self.now) (ap state_of c.self.view_is) c.requires.goes_on c.args.receiver c.args.turns c.init-reply.result
    c.stops-self-inside.result c.stops-self-inside.ensures c.init-reply.ensures.replies

pub returns-clause-kind : goal.returns-clause-kind
returns-clause-kind c =
    let P : EngineState → Type 0 = λ v. DoneFits v.loaded.surface status c.init-reply.result in
    subst P (ap state_of c.self.view_is) c.init-reply.ensures.kind
