use Rattle.std.proofs.Common.{◌<◌, ◌≤◌, length, arith}
use Rattle.c_text.specs.CNodes.{unit_tree}
use Rattle.c_text.specs.CLayout.{item_text, text_of}
use Rattle.c_text.proofs.Items.{item_wrote, unit_length, item_at, items_over}
use Rattle.pens.proofs.Progress.{shift_on, shift_over}
use Rattle.c_text.proofs.print_items.unit.Goals as goal

pub loop-i-preserved : goal.loop-i-preserved
loop-i-preserved g c =
    let within : c.loop-i.i < length (unit_tree c.args.u.now) = omega (arith, unit_length c.args.u.now, c.loop-i-test.true, c.items-i-end.ensures) in
    let step = item_at (unit_tree c.args.u.now) c.loop-i.i within in
    let wrote = item_wrote (g.P.Pen.writes c.loop-i.pen c.item.new.pen) (unit_tree c.args.u.now) c.loop-i.i step.tree step.is c.item.ensures.writes in
    record {
      ready = c.item.ensures.ready;
      so_far = shift_on g.P.Pen.writes _ _ _ _ _ (item_text step.tree) _ (λ x y a b. g.met.P.Pen.joined _ _ _ x y a b) c.loop-i.invariant.so_far step.text wrote;
    }

pub returns-clause-writes : goal.returns-clause-writes
unfolding text_of
returns-clause-writes g c =
    let past : length (unit_tree c.args.u.now) ≤ c.loop-i.i = omega (arith, unit_length c.args.u.now, c.loop-i-test.false, c.items-i-end.ensures) in
    shift_over g.P.Pen.writes _ _ _ _ c.loop-i.invariant.so_far (items_over (unit_tree c.args.u.now) c.loop-i.i past)
