use Rattle.c_text.proofs.print_code.call_line.Goals as goal

pub returns-clause-writes : goal.returns-clause-writes
returns-clause-writes g c =
    let j = g.met.P.Pen.joined in
    let r1 = j _ _ _ _ _ c.kept_in.ensures.writes c.call.ensures.writes in
    let r2 = j _ _ _ _ _ r1 c.write.ensures.writes in
    r2
