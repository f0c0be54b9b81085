use Rattle.wf_script_drive.proofs.report.turns.Goals as goal

pub returns-clause-writes : goal.returns-clause-writes
returns-clause-writes g c = g.met.P.Pen.joined _ _ _ _ _ c.write.ensures.writes c.number.ensures.writes
