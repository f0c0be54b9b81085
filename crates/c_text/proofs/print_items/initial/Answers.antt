use Rattle.c_text.proofs.print_items.initial.Goals as goal

pub returns-in-Some-clause-writes : goal.returns-in-Some-clause-writes
returns-in-Some-clause-writes g c =
    let j = g.met.P.Pen.joined in
    let r1 = j _ _ _ _ _ c.write.ensures.writes c.expr.ensures.writes in
    rw (c.in-Some.is) r1
