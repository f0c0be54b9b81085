use Rattle.wf_script_drive.proofs.printing.counts.Goals as goal

pub returns-clause-writes : goal.returns-clause-writes
returns-clause-writes g c =
    let j = g.met.P.Pen.joined in
    let r1 = j _ _ _ _ _ c.write.ensures.writes (rw c.ri.ensures at c.number.ensures.writes) in
    let r2 = j _ _ _ _ _ r1 c.write-2.ensures.writes in
    let r3 = j _ _ _ _ _ r2 (rw c.wi.ensures at c.number-2.ensures.writes) in
    let r4 = j _ _ _ _ _ r3 c.write-3.ensures.writes in
    let r5 = j _ _ _ _ _ r4 (rw c.pos.ensures at c.number-3.ensures.writes) in
    j _ _ _ _ _ r5 (rw c.is_closed.ensures at c.closed.ensures.writes)
