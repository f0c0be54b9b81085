use Rattle.c_text.proofs.print_items.field.Goals as goal

pub returns-clause-writes : goal.returns-clause-writes
returns-clause-writes g c =
    let j = g.met.P.Pen.joined in
    let r1 = j _ _ _ _ _ c.write.ensures.writes c.field_type.ensures.writes in
    let r2 = j _ _ _ _ _ r1 c.write-2.ensures.writes in
    let r3 = j _ _ _ _ _ r2 (rw c.name.ensures at c.write-3.ensures.writes) in
    let r4 = j _ _ _ _ _ r3 c.field_count.ensures.writes in
    let r5 = j _ _ _ _ _ r4 c.write-4.ensures.writes in
    r5
