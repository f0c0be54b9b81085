-- What a script's run over an engine has come to is what its run calls for.
use Rattle.std.proofs.Common.{◌≡◌, ◌<◌, ℕ, Bool, true, false, nat_le, List, length, Option, None, Some, IfSome, IfOk, IsErr, MatchResult, Result, Ok, Err, string_bytes, refl, sym, ap, ◌∙◌, subst, arith}
use Rattle.std.proofs.lemmas.Bool.Decides.{nat_tests}
use Rattle.wf_text.specs.Surface.{Surface}
use Rattle.wf_text.specs.declared.faults.NoMemory.{NoMemory as Wants}
use Rattle.wf_script_rules.specs.declared.rules.XRule.{XRule}
use Rattle.wf_script_rules.specs.Report.{Report, End, finished, out_of_turns, not_defined}
use Rattle.wf_script_rules.specs.Scripts.{Script, script_of}
use Rattle.wf_script_drive.specs.declared.driving.DriveEnd.TheVariants.{Done, Turns, Undefined, OutFailed}
use Rattle.wf_script_drive.specs.Driving.{FitsDrive}
use Rattle.wf_tool_runs.specs.Runs.{DrivesScript}
use Rattle.wf_tool.specs.declared.ending.Ending.{Ending}
use Rattle.wf_tool.specs.declared.ending.Ending.TheVariants as endings
use Rattle.wf_tool.specs.declared.tool.Answer.{Answer}
use Rattle.wf_tool.specs.Answer.{WritesPart}
use Rattle.wf_tool.specs.Lines.{script_line}
use Rattle.wf_tool.specs.Runs.{IsReportOf, ScriptCallsFor}
use Rattle.wf_tool.specs.Told.{IsTold}

no-room : (room left : Option ℕ) (count : ℕ) → FitsDrive room left OutFailed count → IfSome room (λ it. it < count)
no-room None left count fits = tt
no-room (Some room) left count fits = by_case (nat_le count room) refl
  where
    by_case : (b : Bool) → nat_le count room ≡ b → room < count
    by_case true is = let never = (fits (grind (arith, nat_tests, is))).0 in absurd (cc never)
    by_case false is = grind (arith, nat_tests, is)

-- The report that a run calls for, whatever its end.
module _ (surface : Surface) (report : Script → Report) (bytes : List ℕ) (script : Script) (reads : script_of surface bytes ≡ Ok script) where
  abbrev CallsForIt : Type 0
  CallsForIt = (ending : Ending) × ScriptCallsFor surface report bytes ending (report script).text

  report-is : (end : End) → (report script).end ≡ end → IsReportOf surface report bytes (report script).text end
  report-is end e =
      let R : End → Report = λ it. record { text = (report script).text; end = it } in
      record { script = script; reads = reads; is = ap R e }

  by-end : (end : End) → (report script).end ≡ end → CallsForIt
  by-end finished e = (endings.Done, report-is finished e)
  by-end (out_of_turns line) e = (endings.Turns, (line, report-is (out_of_turns line) e))
  by-end (not_defined line) e = (endings.Undefined, (line, report-is (not_defined line) e))

-- What was driven is what the run calls for, whatever its end; or the sink failed.
module _ (surface : Surface) (report : Script → Report) (bytes : List ℕ) (old new : Option (List ℕ)) (room left : Option ℕ) where
  pub failed-run : DrivesScript surface report bytes old new room left OutFailed → WritesPart (ScriptCallsFor surface report bytes) old new room
  failed-run d =
      let it = by-end surface report bytes d.script d.reads (report d.script).end refl in
      record {
        ending = it.0;
        text = (report d.script).text;
        gone = d.drives.0;
        called = it.1;
        wrote = d.drives.1;
        lacking = no-room room left (length (report d.script).text) d.fits;
      }

-- The script was refused, and its line is told.
pub refused-run : {S F : Type 0} (bytes : S → List ℕ) (surface : Surface) (report : Script → Report) (script : List ℕ) (rule : XRule) (number : ℕ) (line : Result S F) (text : Answer → S)
    (told : (it : Answer) → bytes (text it) ≡ string_bytes it.line) (r : Result Answer Wants)
    → script_of surface script ≡ Err (record { line = number; rule = rule }) → IfOk line (λ it. bytes it ≡ script_line rule number)
    → MatchResult r (λ it. (it.ending ≡ endings.ScriptRefused) × (line ≡ Ok (text it))) (λ _. IsErr line) → (ending : Ending) (written : List ℕ) → IsTold r ending written → ScriptCallsFor surface report script ending written
refused-run bytes surface report script rule number line text told (Err fault) refused writes made ending written is = absurd is
refused-run {S} {F} bytes surface report script rule number line text told (Ok it) refused writes made ending written is =
    let L : Result S F → Type 0 = λ found. IfOk found (λ l. bytes l ≡ script_line rule number) in
    let spelt : bytes (text it) ≡ script_line rule number = subst L made.1 writes in
    let C : Ending → Type 0 = λ e. ScriptCallsFor surface report script e written in
    subst C (sym (is.0 ∙ made.0)) (record { refusal = record { line = number; rule = rule }; refused = refused; writes = is.1 ∙ sym (told it) ∙ spelt })
