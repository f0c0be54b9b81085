use Rattle.wf_script_drive.proofs.report.call_word.Goals as goal

pub returns-clause-writes : goal.returns-clause-writes
returns-clause-writes g c =
    let j = g.met.P.Pen.joined in
    let r1 = j _ _ _ _ _ c.named.ensures.writes c.write.ensures.writes in
    let r2 = j _ _ _ _ _ r1 c.write-2.ensures.writes in
    let r3 = j _ _ _ _ _ r2 c.write-3.ensures.writes in
    r3
