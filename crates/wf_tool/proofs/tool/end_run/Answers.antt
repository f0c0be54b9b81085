use Rattle.std.proofs.Common.{◌≡◌, ◌∙◌, Result, Ok, Err, string_bytes, refl, sym, ap, subst}
use Rattle.wf_script.specs.declared.faults.ScriptFault.{ScriptFault}
use Rattle.wf_script.specs.declared.faults.ScriptFault.TheVariants as script_faults
use Rattle.wf_script_drive.specs.declared.driving.DriveEnd.{DriveEnd}
use Rattle.wf_script_drive.specs.declared.driving.DriveEnd.TheVariants.{OutFailed}
use Rattle.wf_tool.specs.declared.ending.Ending.TheVariants as endings
use Rattle.wf_tool.specs.Told.{EndsRun}
use Rattle.wf_tool.proofs.EndedRuns.{ends-failed, ends-refused}
use Rattle.wf_tool.proofs.tool.end_run.Goals as goal

pub returns-in-Ok-OutFailed-clause-written : goal.returns-in-Ok-OutFailed-clause-written
returns-in-Ok-OutFailed-clause-written g c =
    let mid = g.O.Sink.written c.args.out.now in
    let left = g.O.Sink.room c.args.out.now in
    let same = rw c.in-Ok-OutFailed.is at c.in-Ok-OutFailed.field-0-is in
    let ended : c.args.ended ≡ Ok OutFailed = c.in-Ok-OutFailed.is ∙ ap Ok same in
    let E : Result DriveEnd ScriptFault → Type 0 = λ it. EndsRun it mid mid left endings.OutputFault in
    subst E (sym ended) (ends-failed mid left)

pub returns-in-Err-Refused-clause-written : goal.returns-in-Err-Refused-clause-written
returns-in-Err-Refused-clause-written g c =
    let mid = g.O.Sink.written c.args.out.now in
    let left = g.O.Sink.room c.args.out.now in
    let new = g.O.Sink.written c.tell.new.out in
    let rule = c.in-Err-Refused.rule in
    let number = c.in-Err-Refused.line in
    let same = rw c.in-Err-Refused.is at c.in-Err-Refused.field-0-is in
    let ended : c.args.ended ≡ Err (script_faults.Refused number rule) = c.in-Err-Refused.is ∙ ap Err same in
    let E : Result DriveEnd ScriptFault → Type 0 = λ it. EndsRun it mid new left c.tell.result in
    subst E (sym ended) (ends-refused (λ line. string_bytes line) mid new left c.tell.result rule number c.script_line.result (λ it. it.line) (λ it. refl) c.of-answer.result c.script_line.ensures c.of-answer.ensures c.tell.ensures.written)
