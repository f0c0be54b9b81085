use Rattle.std.proofs.Common.{◌<◌, ◌≤◌, length, take, get_or, ap, sym, subst, arith}
use Rattle.c_text.specs.CNodes.{unit_tree}
use Rattle.c_meaning.specs.CTypes.{structs_of}
use Rattle.c_step_load_exprs.specs.Knowing.{HasStructs}
use Rattle.c_step_load_exprs.proofs.PlaceLemmas.{no_item, item_here, all_items, structs_more}
use Rattle.c_step_load_exprs.proofs.numbers.number_structs.Goals as goal

pub loop-i-preserved : goal.loop-i-preserved
loop-i-preserved c =
    let within : c.loop-i.i < length c.args.unit.now.items = omega (arith, c.loop-i-test.true, c.items.ensures) in
    let is = item_here c.args.unit.now c.loop-i.i within in
    let told = c.in_ok-add_item.ensures (structs_of (take c.loop-i.i (unit_tree c.args.unit.now))) (get_or (unit_tree c.args.unit.now) c.loop-i.i no_item) is c.loop-i.invariant.structs in
    let more = structs_more (unit_tree c.args.unit.now) c.loop-i.i (get_or (unit_tree c.args.unit.now) c.loop-i.i no_item) is in
    record { within = omega (arith, within); structs = subst (HasStructs c.args.unit.now c.add_item.new.self.fields.items c.add_item.new.self.by_name) (sym more) told }

pub returns : goal.returns
returns c =
    let past : length c.args.unit.now.items ≤ c.loop-i.i = omega (arith, c.loop-i-test.false, c.items.ensures) in
    subst (HasStructs c.args.unit.now c.loop-i.structs.fields.items c.loop-i.structs.by_name) (ap structs_of (all_items c.args.unit.now c.loop-i.i past)) c.loop-i.invariant.structs
