use Rattle.std.proofs.Common.{◌≤◌, arith}
use Rattle.c_step_objects.specs.Shapes.{size_at}
use Rattle.c_step_objects.proofs.ListLemmas.{one_longer}
use Rattle.c_step_objects.proofs.ObjectLemmas.{objects_on, objects_done}
use Rattle.c_step_objects.proofs.objects.add_objects.Goals as goal

pub loop-preserved : goal.loop-preserved
loop-preserved c = record {
  grown = one_longer c.loop.all.items c.add_object.new.all.items _ _ c.loop.counter c.in_ok-add_object-in-Some.ensures.all c.loop.invariant.grown;
  so_far = λ structs is. objects_on structs c.args.shapes.now c.in-Some.k c.loop.all.items c.add_object.new.all.items _ c.loop.left.items c.pop.new.self.items c.add_object.new.left.items is c.in-Some.ensures.items c.in_ok-add_object-in-Some.ensures.left c.in_ok-add_object-in-Some.ensures.all (c.loop.invariant.so_far structs is);
}

pub returns : goal.returns
returns c = λ structs is.
    let enough : size_at c.args.shapes.now c.args.k ≤ c.loop.counter = omega (arith, c.size_of-end.ensures, c.loop-test.false) in
    objects_done structs c.args.shapes.now c.args.k c.args.all.now.items c.loop.all.items c.loop.left.items c.loop.counter is c.loop.invariant.grown enough (c.loop.invariant.so_far structs is)
