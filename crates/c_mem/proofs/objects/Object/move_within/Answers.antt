use Rattle.std.proofs.Common.{arith}
use Rattle.c_mem.proofs.Moved.{move_field}
use Rattle.c_mem.proofs.Stored.{read_is}
use Rattle.c_mem.proofs.objects.Object.move_within.Goals as goal

pub returns : goal.returns
returns c = rw (← c.self.view_is)
    (move_field c.self.inside.fields.items c.args.field c.args.to c.args.from c.args.bytes c.index_mut.result.now c.move_within.new.self c.move_within.result
    (read_is c.self.inside.fields.items c.args.field c.index_mut.result.now (omega arith) c.index_mut.ensures.value) c.move_within.ensures)
