use Rattle.std.proofs.Common.{◌≡◌, ◌∙◌, arith, sym, true}
use Rattle.c_mem.specs.Moving.{same_field}
use Rattle.c_mem.proofs.Moved.{moves_within, one_field}
use Rattle.c_mem.proofs.Stored.{read_is}
use Rattle.c_mem.proofs.mem.Mem.move_bytes.Goals as goal

pub returns-then-is_one_field-clause-objects : goal.returns-then-is_one_field-clause-objects
returns-then-is_one_field-clause-objects c =
    let one : same_field c.args.to c.args.from ≡ true = sym c.is_one_field.ensures ∙ c.if-is_one_field.true in
    moves_within c.args.self.now.objects.items c.args.to c.args.from c.args.bytes c.index_mut.result.now
    (read_is c.args.self.now.objects.items c.args.to.object c.index_mut.result.now (omega arith) c.index_mut.ensures.value)
    c.move_within.new.self c.move_within.result (one_field c.args.to c.args.from one).0 (one_field c.args.to c.args.from one).1 c.move_within.ensures
