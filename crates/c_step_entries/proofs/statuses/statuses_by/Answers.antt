use Rattle.std.proofs.Common.{◌<◌, ◌≤◌, List, length, map, get_or, ap, ◌∙◌, arith}
use Rattle.c_text.specs.CTree.{ItemTree}
use Rattle.c_text.specs.CNodes.{unit_tree}
use Rattle.c_meaning.specs.CTypes.{TextDecl, texts_of}
use Rattle.c_form_exprs.specs.Tables.{named}
use Rattle.c_step_load_exprs.proofs.PlaceLemmas.{no_item, item_here, all_items}
use Rattle.c_step_entries.proofs.StatusLemmas.{statuses_more}
use Rattle.c_step_entries.proofs.statuses.statuses_by.Goals as goal

pub loop-i-preserved : goal.loop-i-preserved
loop-i-preserved c =
    let within : c.loop-i.i < length c.args.unit.now.items = omega (arith, c.loop-i-test.true, c.items.ensures) in
    let is = item_here c.args.unit.now c.loop-i.i within in
    let told = c.in_ok-add_status.ensures (get_or (unit_tree c.args.unit.now) c.loop-i.i no_item) is in
    record {
      within = omega (arith, within);
      so_far = statuses_more c.args.table.now (unit_tree c.args.unit.now) c.loop-i.i (get_or (unit_tree c.args.unit.now) c.loop-i.i no_item) c.loop-i.statuses.items c.add_status.new.statuses.items is told c.loop-i.invariant.so_far;
    }

pub returns : goal.returns
returns c =
    let past : length c.args.unit.now.items ≤ c.loop-i.i = omega (arith, c.loop-i-test.false, c.items.ensures) in
    c.loop-i.invariant.so_far ∙ ap (λ (items : List ItemTree). map (λ (t : TextDecl). named c.args.table.now t.bytes) (texts_of items)) (all_items c.args.unit.now c.loop-i.i past)
