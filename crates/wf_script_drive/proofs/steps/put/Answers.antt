use Rattle.wf_script_drive.proofs.ReportLaws.{put_moves}
use Rattle.std.proofs.Common.{◌∙◌, sym}
use Rattle.wf_script_drive.proofs.steps.put.Goals as goal

pub returns-clause-count : goal.returns-clause-count
returns-clause-count c = rw c.put.ensures.after (c.put.ensures.count ∙ sym (put_moves c.args.host.now.bufs c.args.buffer c.at_mut.result.now c.args.bytes.now c.at_mut.ensures.value))
