use Rattle.std.proofs.Common.{◌≤◌, length, subst, arith}
use Rattle.c_step_objects.specs.Structs.{AreShapes}
use Rattle.c_step_objects.proofs.StructLemmas.{all_structs}
use Rattle.c_step_objects.proofs.shapes.shapes_of.Goals as goal

pub returns : goal.returns
returns c =
    let past : length c.args.unit.now.items ≤ c.loop-i.i = omega (arith, c.loop-i-test.false, c.items.ensures) in
    subst (AreShapes c.loop-i.shapes) (all_structs c.args.unit.now c.loop-i.i past) c.loop-i.invariant.so_far
