use Rattle.std.proofs.Common.{arith}
use Rattle.c_mem.proofs.Stored.{read_is, store_object}
use Rattle.c_mem.proofs.mem.Mem.store.Goals as goal

pub returns-clause-objects : goal.returns-clause-objects
returns-clause-objects c =
    store_object c.args.self.now.objects.items c.args.p c.args.cell c.index_mut.result.now c.store.new.self c.store.result
    (read_is c.args.self.now.objects.items c.args.p.object c.index_mut.result.now (omega arith) c.index_mut.ensures.value) c.store.ensures
