use Rattle.std.proofs.Common.{◌≤◌, length, ap, ◌∙◌, arith}
use Rattle.c_step_load.specs.Loading.{frames_by}
use Rattle.c_step_load.proofs.ItemLemmas.{all_functions}
use Rattle.c_step_load.proofs.frames.load_frames.Goals as goal

pub loop-i-preserved : goal.loop-i-preserved
loop-i-preserved c = record { within = omega (arith, c.loop-i-test.true, c.items.ensures); so_far = c.in_ok-add_frame.ensures c.loop-i.invariant.so_far }

pub returns : goal.returns
returns c =
    let past : length c.args.unit.now.items ≤ c.loop-i.i = omega (arith, c.loop-i-test.false, c.items.ensures) in
    c.loop-i.invariant.so_far ∙ ap (frames_by c.args.whole) (all_functions c.args.unit.now c.loop-i.i past)
