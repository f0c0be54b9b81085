use Rattle.std.proofs.Common.{◌≤◌, length, ◌∙◌, arith}
use Rattle.c_step_objects.proofs.StructLemmas.{all_texts}
use Rattle.c_step_objects.proofs.texts.text_objects.Goals as goal

pub returns : goal.returns
returns c =
    let past : length c.args.unit.now.items ≤ c.loop-i.i = omega (arith, c.loop-i-test.false, c.items.ensures) in
    c.loop-i.invariant.so_far ∙ all_texts c.args.unit.now c.loop-i.i past
