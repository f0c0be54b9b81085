use Rattle.wf_script_drive.proofs.report.shows_buffer.Goals as goal

pub returns-clause-writes : goal.returns-clause-writes
returns-clause-writes g c =
    let j = g.met.P.Pen.joined in
    let r1 = j _ _ _ _ _ c.named.ensures.writes c.show_buffer.ensures.writes in
    r1
