use Rattle.std.proofs.Common.{◌≡◌, ◌∷◌, ◌+◌, length, refl, ap, arith}
use Rattle.std.specs.Vec.Iter.{into_iter_items}
use Rattle.c_mem.specs.MemoryViews.{memory}
use Rattle.c_step_objects.proofs.ListLemmas.{one_more}
use Rattle.c_step_objects.proofs.RoomLemmas.{room_as}
use Rattle.c_step_objects.proofs.rooms.reserved.Goals as goal

pub loop-object-preserved : goal.loop-object-preserved
loop-object-preserved c =
    let at = c.loop-object in
    let steps : into_iter_items c.loop-object.object-iterator ≡ c.in-Some.object ∷ into_iter_items c.next.new.self = c.in-Some.ensures.steps.0 in
    let gone = c.in-Some.ensures.steps.1 in
    let short = ap length steps in
    let was = at.invariant.left in
    let fewer : length (into_iter_items c.loop-object.object-iterator) + c.args.more ≡ length (into_iter_items c.next.new.self) + c.args.more + 1 = omega (arith, short) in
    record {
      objects = one_more (memory c.loop-object.mem) (memory c.enter.new.self) (into_iter_items c.next.new.self) (into_iter_items c.loop-object.object-iterator) _ c.in-Some.object c.in-Some.object c.enter.ensures.objects refl steps at.invariant.objects;
      room = c.enter.ensures.room (length (into_iter_items c.next.new.self) + c.args.more) (room_as c.loop-object.mem (length (into_iter_items c.loop-object.object-iterator) + c.args.more) (length (into_iter_items c.next.new.self) + c.args.more + 1) fewer at.invariant.room);
      left = omega (arith, gone, short, was);
    }
