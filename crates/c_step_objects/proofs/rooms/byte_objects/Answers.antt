use Rattle.c_step_objects.proofs.ListLemmas.{one_longer_is}
use Rattle.c_step_objects.proofs.RoomLemmas.{bytes_more}
use Rattle.c_step_objects.proofs.rooms.byte_objects.Goals as goal

pub loop-preserved : goal.loop-preserved
loop-preserved c = record {
  are = bytes_more c.loop.all.items c.push.new.self.items c.in_ok-no_bytes.field-0 c.in_ok-push.ensures.items c.in_ok-no_bytes.ensures c.loop.invariant.are;
  many = one_longer_is c.loop.all.items c.push.new.self.items c.in_ok-no_bytes.field-0 c.loop.counter c.in_ok-push.ensures.items c.loop.invariant.many;
}
