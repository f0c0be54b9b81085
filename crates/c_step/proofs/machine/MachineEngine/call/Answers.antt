use Rattle.std.proofs.Common.{length, sym, subst, ap}
use Rattle.wf_base.specs.LawfulActions.{CanCall}
use Rattle.wf_bufs.specs.EngineLaw.{FitsCalled}
use Rattle.wf_bufs.specs.HostSeen.{host_of}
use Rattle.wf_bufs.specs.HostViews.{call_of}
use Rattle.c_mem.specs.MemoryViews.{memory}
use Rattle.c_step_engine.specs.Engines.{EngineState}
use Rattle.c_step.specs.Machines.{loaded_of, state_of}
use Rattle.c_step.proofs.MachineLaws.{call_law, goes_on, ready_now}
use Rattle.c_step.proofs.machine.MachineEngine.call.Goals as goal

pub call-reply-requires-clause-ready : goal.call-reply-requires-clause-ready
call-reply-requires-clause-ready c =
    ready_now c.self.inside.known c.self.inside.room c.self.inside.store c.self.inside.stopped (goes_on (loaded_of c.self.inside.known) (memory c.self.inside.store.mem) (memory c.self.inside.store.mem) c.self.inside.stopped (state_of c.args.self.now) (ap state_of c.self.view_is) c.requires.goes_on) c.self.invariant.1

pub call-reply-requires-clause-can : goal.call-reply-requires-clause-can
call-reply-requires-clause-can c =
    let P : EngineState → Type 0 = λ v. CanCall v.loaded.surface v.loaded.receivers (length c.args.bufs.now.bufs) (length c.args.bufs.now.arrays) (call_of c.args.what.now) in
    subst P (sym (ap state_of c.self.view_is)) c.requires.lawful

pub returns-clause-law : goal.returns-clause-law
returns-clause-law c =
    call_law (loaded_of c.self.inside.known) (memory c.self.inside.store.mem) (memory c.call-reply.new.st.mem) c.self.inside.stopped (state_of c.args.self.now) (ap state_of c.self.view_is) c.requires.goes_on (call_of c.args.what.now) (host_of c.args.bufs.now) (host_of c.call-reply.new.host) c.args.turns c.call-reply.result
    c.stops-self-inside.result c.stops-self-inside.ensures c.call-reply.ensures.replies

pub returns-clause-kind : goal.returns-clause-kind
returns-clause-kind c =
    let P : EngineState → Type 0 = λ v. FitsCalled v.loaded.surface v.loaded.receivers (call_of c.args.what.now) c.call-reply.result in
    subst P (ap state_of c.self.view_is) c.call-reply.ensures.kind
