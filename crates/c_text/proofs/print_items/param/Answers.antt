use Rattle.c_text.proofs.print_items.param.Goals as goal

pub returns-clause-writes : goal.returns-clause-writes
returns-clause-writes g c =
    let j = g.met.P.Pen.joined in
    let r1 = j _ _ _ _ _ c.value_type.ensures.writes c.write.ensures.writes in
    let r2 = j _ _ _ _ _ r1 (rw c.name.ensures at c.write-2.ensures.writes) in
    r2
