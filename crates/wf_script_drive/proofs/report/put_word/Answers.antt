use Rattle.wf_script_drive.proofs.report.put_word.Goals as goal

pub returns-clause-writes : goal.returns-clause-writes
returns-clause-writes g c = g.met.P.Pen.joined _ _ _ _ _ c.named.ensures.writes c.write.ensures.writes
