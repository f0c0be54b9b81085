use Rattle.wf_script_drive.proofs.printing.io_buffer.Goals as goal

pub returns-clause-writes : goal.returns-clause-writes
returns-clause-writes g c =
    let j = g.met.P.Pen.joined in
    let r1 = j _ _ _ _ _ c.write.ensures.writes (rw c.name_of.ensures at c.write-2.ensures.writes) in
    let r2 = j _ _ _ _ _ r1 c.counts_at.ensures.writes in
    r2
