use Rattle.std.proofs.Common.{◌≡◌, length, arith}
use Rattle.c_text.specs.CNodes.{unit_tree}
use Rattle.c_form_exprs.proofs.GrowLemmas.{tree_length}
use Rattle.c_form.proofs.ItemLemmas.{names_next, names_done}
use Rattle.c_form.proofs.items.item_names.Goals as goal

pub loop-i-preserved : goal.loop-i-preserved
loop-i-preserved c =
    let same : length (unit_tree c.args.unit.now) ≡ length c.args.unit.now.items = tree_length c.args.unit.now in
    record {
      names = names_next (unit_tree c.args.unit.now) c.loop-i.table c.add.new.self c.loop-i.i c.name.result.now c.in_ok-add.field-0 (omega (arith, same, c.loop-i-test.true, c.items.ensures)) (rw c.name.ensures c.name_of.ensures.is) c.in_ok-add.ensures.fresh c.in_ok-add.ensures.added c.loop-i.invariant.names;
      within = omega (arith, c.loop-i-test.true, c.items.ensures);
    }

pub returns : goal.returns
returns c =
    let same : length (unit_tree c.args.unit.now) ≡ length c.args.unit.now.items = tree_length c.args.unit.now in
    names_done (unit_tree c.args.unit.now) c.loop-i.table c.loop-i.i (omega (arith, same, c.loop-i-test.false, c.items.ensures)) c.loop-i.invariant.names
