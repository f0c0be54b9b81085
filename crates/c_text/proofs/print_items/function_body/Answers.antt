use Rattle.c_text.proofs.print_items.function_body.Goals as goal

pub returns-clause-writes : goal.returns-clause-writes
returns-clause-writes g c =
    let j = g.met.P.Pen.joined in
    let r1 = j _ _ _ _ _ c.locals.ensures.writes c.code.ensures.writes in
    let r2 = j _ _ _ _ _ r1 c.write.ensures.writes in
    r2
