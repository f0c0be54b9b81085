use Rattle.wf_script_drive.proofs.report.init_word.Goals as goal

pub returns-clause-writes : goal.returns-clause-writes
returns-clause-writes g c =
    let j = g.met.P.Pen.joined in
    let r1 = j _ _ _ _ _ c.named.ensures.writes c.write.ensures.writes in
    r1
