use Rattle.std.proofs.Common.{◌<◌, ◌≤◌, length, take, get_or, ap, sym, subst, ◌∙◌, arith}
use Rattle.c_text.specs.CTree.{ItemTree}
use Rattle.c_text.specs.CNodes.{unit_tree}
use Rattle.c_step_load_exprs.specs.Knowing.{HasNamePlaces, names_of}
use Rattle.c_step_load_exprs.proofs.PlaceLemmas.{no_item, item_here, all_items, names_more}
use Rattle.c_step_load_exprs.proofs.numbers.number_items.Goals as goal

pub loop-i-preserved : goal.loop-i-preserved
loop-i-preserved c =
    let within : c.loop-i.i < length c.args.unit.now.items = omega (arith, c.loop-i-test.true, c.items.ensures) in
    let item : ItemTree = get_or (unit_tree c.args.unit.now) c.loop-i.i no_item in
    let is = item_here c.args.unit.now c.loop-i.i within in
    let told = c.in_ok-number.ensures (names_of c.args.kind (take c.loop-i.i (unit_tree c.args.unit.now))) (get_or (unit_tree c.args.unit.now) c.loop-i.i no_item) is c.loop-i.invariant.count c.loop-i.invariant.places in
    let more = names_more c.args.kind (unit_tree c.args.unit.now) c.loop-i.i (get_or (unit_tree c.args.unit.now) c.loop-i.i no_item) is in
    record { within = omega (arith, within); count = told.0 ∙ ap length (sym more); places = subst (HasNamePlaces c.args.unit.now c.add_item.new.table) (sym more) told.1 }

pub returns : goal.returns
returns c =
    let past : length c.args.unit.now.items ≤ c.loop-i.i = omega (arith, c.loop-i-test.false, c.items.ensures) in
    subst (HasNamePlaces c.args.unit.now c.loop-i.table) (ap (names_of c.args.kind) (all_items c.args.unit.now c.loop-i.i past)) c.loop-i.invariant.places
