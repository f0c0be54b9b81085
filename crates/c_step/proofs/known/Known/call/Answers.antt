use Rattle.std.proofs.Common.{length, refl, sym, ap, subst, arith}
use Rattle.wf_bufs.specs.HostSeen.{host_of}
use Rattle.wf_bufs.specs.HostViews.{call_of}
use Rattle.c_mem.specs.MemoryViews.{memory}
use Rattle.c_step_engine.specs.Engines.{given}
use Rattle.c_step_calls.proofs.Shapes.{same_args}
use Rattle.c_step_engine.specs.Statuses.{AreStatuses}
use Rattle.c_step.specs.Machines.{loaded_of}
use Rattle.c_step.proofs.KnownLaws.{receiver_below, args_few, args_there, own_below, own_number, own_kind, call_is_fit, undefined_fits, sizes_kept, within_turns}
use Rattle.c_step.proofs.known.Known.call.Goals as goal

pub callee-requires-clause-exists : goal.callee-requires-clause-exists
callee-requires-clause-exists c = receiver_below c.args.self.now (call_of c.args.what.now) (length c.args.host.now.bufs) (length c.args.host.now.arrays) c.requires.can

pub call_on_host-requires-clause-rests : goal.call_on_host-requires-clause-rests
call_on_host-requires-clause-rests c = c.requires.ready.rests

pub call_on_host-requires-clause-own : goal.call_on_host-requires-clause-own
call_on_host-requires-clause-own c = own_below c.args.self.now (call_of c.args.what.now) c.args.turns c.in-Some.called c.in-Some.ensures c.requires.known

pub call_on_host-requires-clause-few : goal.call_on_host-requires-clause-few
call_on_host-requires-clause-few c =
    let f = args_few c.args.self.now (call_of c.args.what.now) c.args.turns c.in-Some.called c.in-Some.ensures (length c.args.host.now.bufs) (length c.args.host.now.arrays) c.requires.can in
    let s = same_args c.args.what.now.args.now in
    omega (arith, f, s, c.requires.ready.most)

pub call_on_host-requires-clause-there : goal.call_on_host-requires-clause-there
call_on_host-requires-clause-there c = args_there c.args.self.now (call_of c.args.what.now) c.args.turns c.in-Some.called c.in-Some.ensures (length c.args.host.now.bufs) (length c.args.host.now.arrays) c.requires.can

pub returns-in-Some-clause-sizes : goal.returns-in-Some-clause-sizes
returns-in-Some-clause-sizes c = sizes_kept c.call_on_host.result (host_of c.args.host.now) (host_of c.call_on_host.new.host) c.call_on_host.ensures.sizes

pub returns-in-Some-clause-replies : goal.returns-in-Some-clause-replies
returns-in-Some-clause-replies c =
    let calls = c.in-Some.ensures in
    within_turns c.args.self.now (call_of c.args.what.now) c.args.turns c.in-Some.called calls (memory c.args.st.now.mem) (host_of c.args.host.now) c.call_on_host.result (memory c.call_on_host.new.st.mem, host_of c.call_on_host.new.host)
    (c.call_on_host.ensures.replies (loaded_of c.args.self.now) calls.means.of calls.means.method (call_of c.args.what.now) (own_number c.args.self.now (call_of c.args.what.now) c.args.turns c.in-Some.called calls)
    (own_kind c.args.self.now (call_of c.args.what.now) c.args.turns c.in-Some.called calls) c.requires.ready.most refl c.requires.known.ok (subst (AreStatuses (loaded_of c.args.self.now).program c.args.self.now.surface.value) (sym c.as_slice.ensures.value) c.requires.known.statuses) c.requires.ready.coded)

pub returns-in-Some-clause-kind : goal.returns-in-Some-clause-kind
returns-in-Some-clause-kind c =
    let calls = c.in-Some.ensures in
    call_is_fit c.args.self.now (call_of c.args.what.now) c.args.turns c.in-Some.called calls c.requires.known (memory c.args.st.now.mem) (host_of c.args.host.now) c.call_on_host.result (memory c.call_on_host.new.st.mem, host_of c.call_on_host.new.host)
    (within_turns c.args.self.now (call_of c.args.what.now) c.args.turns c.in-Some.called calls (memory c.args.st.now.mem) (host_of c.args.host.now) c.call_on_host.result (memory c.call_on_host.new.st.mem, host_of c.call_on_host.new.host)
    (c.call_on_host.ensures.replies (loaded_of c.args.self.now) calls.means.of calls.means.method (call_of c.args.what.now) (own_number c.args.self.now (call_of c.args.what.now) c.args.turns c.in-Some.called calls)
    (own_kind c.args.self.now (call_of c.args.what.now) c.args.turns c.in-Some.called calls) c.requires.ready.most refl c.requires.known.ok (subst (AreStatuses (loaded_of c.args.self.now).program c.args.self.now.surface.value) (sym c.as_slice.ensures.value) c.requires.known.statuses) c.requires.ready.coded))

pub returns-in-None-clause-replies : goal.returns-in-None-clause-replies
returns-in-None-clause-replies c = ap (given c.args.self.now.surface.value (λ x. x)) (c.in-None.ensures (memory c.args.st.now.mem) (host_of c.args.host.now) c.args.turns)

pub returns-in-None-clause-kind : goal.returns-in-None-clause-kind
returns-in-None-clause-kind c = undefined_fits c.args.self.now (call_of c.args.what.now) (length c.args.host.now.bufs) (length c.args.host.now.arrays) c.requires.can
