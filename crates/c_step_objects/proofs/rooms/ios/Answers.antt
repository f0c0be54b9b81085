use Rattle.c_step_objects.proofs.ListLemmas.{one_longer_is}
use Rattle.c_step_objects.proofs.RoomLemmas.{ios_more}
use Rattle.c_step_objects.proofs.rooms.ios.Goals as goal

pub loop-preserved : goal.loop-preserved
loop-preserved c = record {
  are = ios_more c.loop.all.items c.push.new.self.items c.in_ok-io_object.field-0 c.in_ok-push.ensures.items c.in_ok-io_object.ensures c.loop.invariant.are;
  many = one_longer_is c.loop.all.items c.push.new.self.items c.in_ok-io_object.field-0 c.loop.counter c.in_ok-push.ensures.items c.loop.invariant.many;
}
