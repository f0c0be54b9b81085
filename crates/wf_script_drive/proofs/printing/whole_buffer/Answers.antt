use Rattle.wf_script_drive.proofs.printing.whole_buffer.Goals as goal

pub returns-clause-writes : goal.returns-clause-writes
returns-clause-writes g c =
    let j = g.met.P.Pen.joined in
    let r1 = j _ _ _ _ _ c.write.ensures.writes (rw (c.split_at.ensures.front, c.bytes-cells.ensures.cells, c.wi.ensures) at c.bytes.ensures.writes) in
    j _ _ _ _ _ r1 c.counts.ensures.writes
