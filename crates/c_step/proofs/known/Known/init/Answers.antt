use Rattle.std.proofs.Common.{sym, subst}
use Rattle.c_mem.specs.MemoryViews.{memory}
use Rattle.c_step_calls.proofs.Endings.{replies_so}
use Rattle.c_step_engine.specs.Statuses.{AreStatuses}
use Rattle.c_step.specs.Machines.{loaded_of}
use Rattle.c_step.proofs.KnownLaws.{comes_to_init, init_below, init_is_fit}
use Rattle.c_step.proofs.known.Known.init.Goals as goal

pub init_receiver-requires-clause-own : goal.init_receiver-requires-clause-own
init_receiver-requires-clause-own c = init_below c.args.self.now c.args.receiver c.initializer.result c.initializer.ensures c.requires.known

pub returns-clause-replies : goal.returns-clause-replies
returns-clause-replies c =
    replies_so c.args.self.now.surface.value _ _ c.init_receiver.result (memory c.init_receiver.new.st.mem) (comes_to_init c.args.self.now c.args.receiver c.initializer.result c.initializer.ensures c.pointer.result c.pointer.ensures (memory c.args.st.now.mem) c.args.turns)
    (c.init_receiver.ensures.replies (loaded_of c.args.self.now) c.initializer.ensures.of c.initializer.ensures.function_is c.requires.known.ok (subst (AreStatuses (loaded_of c.args.self.now).program c.args.self.now.surface.value) (sym c.as_slice.ensures.value) c.requires.known.statuses) c.requires.ready.coded)

pub returns-clause-kind : goal.returns-clause-kind
returns-clause-kind c =
    init_is_fit c.args.self.now c.requires.known (memory c.args.st.now.mem) c.initializer.ensures.of c.pointer.result c.args.turns c.init_receiver.result (memory c.init_receiver.new.st.mem)
    (c.init_receiver.ensures.replies (loaded_of c.args.self.now) c.initializer.ensures.of c.initializer.ensures.function_is c.requires.known.ok (subst (AreStatuses (loaded_of c.args.self.now).program c.args.self.now.surface.value) (sym c.as_slice.ensures.value) c.requires.known.statuses) c.requires.ready.coded)
