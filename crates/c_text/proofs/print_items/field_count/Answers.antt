use Rattle.c_text.proofs.print_items.field_count.Goals as goal

pub returns-in-Some-clause-writes : goal.returns-in-Some-clause-writes
returns-in-Some-clause-writes g c = rw c.in-Some.is (
    let j = g.met.P.Pen.joined in
    let r1 = j _ _ _ _ _ c.write.ensures.writes c.literal.ensures.writes in
    let r2 = j _ _ _ _ _ r1 c.write-in-Some.ensures.writes in
    r2)
