use Rattle.c_text.specs.CNodes.{unit_tree}
use Rattle.c_text.proofs.Items.{item_node, item_writes}
use Rattle.c_text.proofs.print_items.item.Goals as goal

pub returns-in-Struct-clause-writes : goal.returns-in-Struct-clause-writes
returns-in-Struct-clause-writes g c =
    let j = g.met.P.Pen.joined in
    let r1 = j _ _ _ _ _ c.write.ensures.writes (rw c.as_slice.ensures at c.fields.ensures.writes) in
    let r2 = j _ _ _ _ _ r1 c.write-in-Struct.ensures.writes in
    let r3 = j _ _ _ _ _ r2 (rw c.name.ensures at c.write-in-Struct-2.ensures.writes) in
    let r4 = j _ _ _ _ _ r3 c.write-in-Struct-3.ensures.writes in
    item_writes (g.P.Pen.writes _ _) (unit_tree c.args.u.now) c.args.i.0 _ (item_node c.args.u.now _ _ _ c.item.ensures.tree c.in-Struct.is) r4

pub returns-in-Text-clause-writes : goal.returns-in-Text-clause-writes
returns-in-Text-clause-writes g c =
    let j = g.met.P.Pen.joined in
    let r1 = j _ _ _ _ _ c.write-in-Text.ensures.writes (rw c.name-in-Text.ensures at c.write-in-Text-2.ensures.writes) in
    let r2 = j _ _ _ _ _ r1 c.write-in-Text-3.ensures.writes in
    let r3 = j _ _ _ _ _ r2 (rw c.string.ensures at c.write-in-Text-4.ensures.writes) in
    let r4 = j _ _ _ _ _ r3 c.write-in-Text-5.ensures.writes in
    item_writes (g.P.Pen.writes _ _) (unit_tree c.args.u.now) c.args.i.0 _ (item_node c.args.u.now _ _ _ c.item.ensures.tree c.in-Text.is) r4

pub returns-in-Function-clause-writes : goal.returns-in-Function-clause-writes
returns-in-Function-clause-writes g c =
    let j = g.met.P.Pen.joined in
    let r1 = j _ _ _ _ _ (rw c.as_slice-in-Function.ensures at c.function_head.ensures.writes) (rw c.as_slice-in-Function-2.ensures at c.function_body.ensures.writes) in
    item_writes (g.P.Pen.writes _ _) (unit_tree c.args.u.now) c.args.i.0 _ (item_node c.args.u.now _ _ _ c.item.ensures.tree c.in-Function.is) r1
