use Rattle.std.proofs.Common.{arith}
use Rattle.c_mem.proofs.Stored.{read_is, store_field}
use Rattle.c_mem.proofs.objects.Object.store.Goals as goal

pub returns : goal.returns
returns c = rw (← c.self.view_is)
    (store_field c.self.inside.fields.items c.args.field c.args.index c.args.cell c.index_mut.result.now c.store.new.self c.store.result
    (read_is c.self.inside.fields.items c.args.field c.index_mut.result.now (omega arith) c.index_mut.ensures.value) c.store.ensures)
