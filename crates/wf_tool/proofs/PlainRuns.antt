-- Over a plain loader a script's report is by the meaning of C.
use Rattle.std.proofs.Common.{◌≡◌, ℕ, true, false, List, Option, None, Some, sym, ap, ◌∙◌}
use Rattle.wf_text.specs.HostActions.{HostAction, Receiver}
use Rattle.wf_text.specs.Surface.{Surface}
use Rattle.wf_base.specs.BaseOps.{Buffer}
use Rattle.wf_ast.specs.TypedPackage.{PackageTree, surface_of}
use Rattle.c_text.specs.CTree.{ItemTree}
use Rattle.c_meaning.specs.CRun.{c_run}
use Rattle.c_step.specs.Loading.{SeenOf}
use Rattle.wf_script_rules.specs.Report.{End, report_of}
use Rattle.wf_script_rules.specs.Scripts.{Script, actions_of}
use Rattle.wf_lower.specs.Unit.{lowered_unit}
use Rattle.wf_tool_runs.specs.Lowered.{lowered_report}
use Rattle.wf_tool_runs.specs.Units.{text_report}
use Rattle.wf_tool.specs.declared.ending.Ending.{Ending}
use Rattle.wf_tool.specs.declared.ending.Ending.TheVariants as endings
use Rattle.wf_tool.specs.Answer.{AskedFor, CallsForRun, CallsForText, RunCallsFor, ExecCallsFor}
use Rattle.wf_tool.specs.Plain.{PlainLoadersRunByC}
use Rattle.wf_tool.specs.Runs.{IsReportOf, IsTextReportOf, ScriptCallsFor, TextCallsFor}
use Rattle.wf_tool.specs.Words.{PackageWords, Command, check, gen, run, mean, exec, command_of}

-- The same is seen of both.
abbrev SeesAlike : SeenOf → SeenOf → Type 0
SeesAlike a b = (items : List ItemTree) (surface : Surface) (receivers : List Receiver) (actions : List (HostAction Buffer)) → a items surface receivers actions ≡ b items surface receivers actions

module _ (a b : SeenOf) (alike : SeesAlike a b) where
  texts : (items : List ItemTree) (surface : Surface) (script : Script) → text_report a items surface script ≡ text_report b items surface script
  texts items surface script = ap (λ seen. report_of surface script seen) (alike items surface script.declared.receivers (actions_of script))

  packages : (p : PackageTree) (script : Script) → lowered_report a p script ≡ lowered_report b p script
  packages p script = texts (lowered_unit p) (surface_of p) script

  -- A script's report, and what it calls for.
  reported : (surface : Surface) (items : List ItemTree) (bytes text : List ℕ) (end : End) → IsReportOf surface (text_report a items surface) bytes text end → IsReportOf surface (text_report b items surface) bytes text end
  reported surface items bytes text end it = record { script = it.script; reads = it.reads; is = sym (texts items surface it.script) ∙ it.is }

  script_calls : (p : PackageTree) (bytes : List ℕ) (ending : Ending) (text : List ℕ) → ScriptCallsFor (surface_of p) (lowered_report a p) bytes ending text → ScriptCallsFor (surface_of p) (lowered_report b p) bytes ending text
  script_calls p bytes endings.Done text c = reported (surface_of p) (lowered_unit p) bytes text _ c
  script_calls p bytes endings.Refused text c = c
  script_calls p bytes endings.Usage text c = c
  script_calls p bytes endings.InputFault text c = c
  script_calls p bytes endings.OutputFault text c = c
  script_calls p bytes endings.ScriptRefused text c = c
  script_calls p bytes endings.NoMemory text c = c
  script_calls p bytes endings.Turns text c = (c.0, reported (surface_of p) (lowered_unit p) bytes text _ c.1)
  script_calls p bytes endings.TextRefused text c = c
  script_calls p bytes endings.Undefined text c = (c.0, reported (surface_of p) (lowered_unit p) bytes text _ c.1)

  text_reported : (surface : Surface) (bytes text line : List ℕ) (end : End) → IsTextReportOf a surface bytes text line end → IsTextReportOf b surface bytes text line end
  text_reported surface bytes text line end it = record { short = it.short; items = it.items; read = it.read; form = it.form; reported = reported surface it.items bytes line end it.reported }

  text_calls : (surface : Surface) (bytes text : List ℕ) (ending : Ending) (line : List ℕ) → TextCallsFor a surface bytes text ending line → TextCallsFor b surface bytes text ending line
  text_calls surface bytes text endings.Done line c = text_reported surface bytes text line _ c
  text_calls surface bytes text endings.Refused line c = c
  text_calls surface bytes text endings.Usage line c = c
  text_calls surface bytes text endings.InputFault line c = c
  text_calls surface bytes text endings.OutputFault line c = c
  text_calls surface bytes text endings.ScriptRefused line c = c
  text_calls surface bytes text endings.NoMemory line c = c
  text_calls surface bytes text endings.Turns line c = (c.0, text_reported surface bytes text line _ c.1)
  text_calls surface bytes text endings.TextRefused line c = c
  text_calls surface bytes text endings.Undefined line c = (c.0, text_reported surface bytes text line _ c.1)

  -- What words call for.
  run_calls : (held : List ℕ → Option (List ℕ)) (asked : PackageWords) (script : List ℕ) (ending : Ending) (text : List ℕ) → CallsForRun (lowered_report a) held asked script ending text → CallsForRun (lowered_report b) held asked script ending text
  run_calls held asked script ending text it = record {
    files = it.files;
    bytes = it.bytes;
    tree = it.tree;
    hold = it.hold;
    script_holds = it.script_holds;
    accepted = it.accepted;
    calls = script_calls it.tree it.bytes ending text it.calls;
  }

  exec_calls : (held : List ℕ → Option (List ℕ)) (asked : PackageWords) (script text : List ℕ) (ending : Ending) (line : List ℕ) → CallsForText a held asked script text ending line → CallsForText b held asked script text ending line
  exec_calls held asked script text ending line it = record {
    files = it.files;
    bytes = it.bytes;
    text_bytes = it.text_bytes;
    tree = it.tree;
    hold = it.hold;
    script_holds = it.script_holds;
    text_holds = it.text_holds;
    accepted = it.accepted;
    calls = text_calls (surface_of it.tree) it.bytes it.text_bytes ending line it.calls;
  }

  of_run : (held : List ℕ → Option (List ℕ)) (failed : Option (List ℕ)) (asked : PackageWords) (script : List ℕ) (ending : Ending) (text : List ℕ) → RunCallsFor a held failed asked script ending text → RunCallsFor b held failed asked script ending text
  of_run held failed asked script endings.Done text c = run_calls held asked script endings.Done text c
  of_run held failed asked script endings.Refused text c = c
  of_run held failed asked script endings.Usage text c = c
  of_run held failed asked script endings.InputFault text c = c
  of_run held failed asked script endings.OutputFault text c = c
  of_run held failed asked script endings.ScriptRefused text c = run_calls held asked script endings.ScriptRefused text c
  of_run held failed asked script endings.NoMemory text c = c
  of_run held failed asked script endings.Turns text c = run_calls held asked script endings.Turns text c
  of_run held failed asked script endings.TextRefused text c = c
  of_run held failed asked script endings.Undefined text c = run_calls held asked script endings.Undefined text c

  of_exec : (held : List ℕ → Option (List ℕ)) (failed : Option (List ℕ)) (asked : PackageWords) (script text : List ℕ) (ending : Ending) (line : List ℕ) → ExecCallsFor a held failed asked script text ending line → ExecCallsFor b held failed asked script text ending line
  of_exec held failed asked script text endings.Done line c = exec_calls held asked script text endings.Done line c
  of_exec held failed asked script text endings.Refused line c = c
  of_exec held failed asked script text endings.Usage line c = c
  of_exec held failed asked script text endings.InputFault line c = c
  of_exec held failed asked script text endings.OutputFault line c = c
  of_exec held failed asked script text endings.ScriptRefused line c = exec_calls held asked script text endings.ScriptRefused line c
  of_exec held failed asked script text endings.NoMemory line c = c
  of_exec held failed asked script text endings.Turns line c = exec_calls held asked script text endings.Turns line c
  of_exec held failed asked script text endings.TextRefused line c = exec_calls held asked script text endings.TextRefused line c
  of_exec held failed asked script text endings.Undefined line c = exec_calls held asked script text endings.Undefined line c

  of_command : (held : List ℕ → Option (List ℕ)) (failed : Option (List ℕ)) (command : Option Command) (ending : Ending) (text : List ℕ) → AskedFor a held failed command ending text → AskedFor b held failed command ending text
  of_command held failed None ending text c = c
  of_command held failed (Some (check asked)) ending text c = c
  of_command held failed (Some (gen asked)) ending text c = c
  of_command held failed (Some (run asked script)) ending text c = of_run held failed asked script ending text c
  of_command held failed (Some (mean asked script)) ending text c = c
  of_command held failed (Some (exec asked script other)) ending text c = of_exec held failed asked script other ending text c

pub plain_loaders : PlainLoadersRunByC
plain_loaders false seen law plain = absurd (cc plain)
plain_loaders true seen law plain = record {
  packages = packages seen c_run law;
  texts = texts seen c_run law;
  to = λ held failed words ending text c. of_command seen c_run law held failed (command_of words) ending text c;
  from = λ held failed words ending text c. of_command c_run seen (λ items surface receivers actions. sym (law items surface receivers actions)) held failed (command_of words) ending text c;
}
