-- What comes of a script that is read over a package and driven over an engine.
use Rattle.std.specs.Prelude.{◌≡◌, ℕ, List, [], length, Option, Some, Result, Ok, Err, slice_get}
use Rattle.wf_text.specs.Surface.{Surface}
use Rattle.wf_base.specs.HostRun.{Steps, empty_host, run}
use Rattle.wf_script.specs.declared.faults.ScriptFault.{ScriptFault}
use Rattle.wf_script.specs.Views.{FailsScript}
use Rattle.wf_script_rules.specs.Report.{Report, report_of}
use Rattle.wf_script_rules.specs.Scripts.{Script, actions_of, script_of}
use Rattle.wf_script_drive.specs.declared.driving.DriveEnd.{DriveEnd}
use Rattle.wf_script_drive.specs.Driving.{CountsDrive, Drives, FitsDrive}
use Rattle.wf_script_drive.specs.Lawful.{HasOwnNumbers, IsScript}
use Rattle.wf_tool_runs.specs.declared.prepared.Prepared.{Prepared}

-- The report of a script over what answers inits and calls, from this state.
abbrev pub report_over : {State : Type 0} → Steps State → State → Surface → Script → Report
report_over steps state surface script = report_of surface script (run steps state empty_host (actions_of script))

-- The bytes are read over this surface, or refused.
abbrev pub Prepares : Surface → (bytes : List ℕ) → Result Prepared ScriptFault → Type 0
Prepares surface bytes (Ok it) = (it.surface ≡ surface) × (script_of surface bytes ≡ Ok it.script)
Prepares surface bytes (Err fault) = FailsScript fault (script_of surface bytes)

-- The script was read over the surface. Its methods have numbers of their own, and its first status is ok, whose text is empty.
pub record IsPrepared (it : Prepared) : Type 0 where
  pub ok : slice_get it.surface.statuses 0 ≡ Some []
  pub numbers : HasOwnNumbers it.surface
  pub script : IsScript it.surface it.script

-- The report was driven, or nothing was written.
abbrev pub WritesRun : {F : Type 0} → (old new : Option (List ℕ)) → Result DriveEnd F → Report → Type 0
WritesRun old new (Ok end) report = Drives old new end report
WritesRun old new (Err fault) report = new ≡ old

-- The count of faults rises where the sink failed, and only there.
abbrev pub CountsRun : {F : Type 0} → (before now : ℕ) → Result DriveEnd F → Type 0
CountsRun before now (Ok end) = CountsDrive before now end
CountsRun before now (Err fault) = now ≡ before

-- Where a room is told that holds the report, the sink didn't fail.
abbrev pub FitsRun : {F : Type 0} → (old new : Option ℕ) → Result DriveEnd F → (count : ℕ) → Type 0
FitsRun old new (Ok end) count = FitsDrive old new end count
FitsRun old new (Err fault) count = new ≡ old

-- The bytes are this script over a surface, and its report was driven.
pub record DrivesScript (surface : Surface) (report : Script → Report) (bytes : List ℕ) (old new : Option (List ℕ)) (room left : Option ℕ) (end : DriveEnd) : Type 0 where
  pub script : Script
  pub reads : script_of surface bytes ≡ Ok script
  pub drives : Drives old new end (report script)
  pub fits : FitsDrive room left end (length (report script).text)

-- They are, or they are refused and nothing was written.
abbrev pub RunsScript : Surface → (report : Script → Report) → (bytes : List ℕ) → (old new : Option (List ℕ)) → (room left : Option ℕ) → Result DriveEnd ScriptFault → Type 0
RunsScript surface report bytes old new room left (Ok end) = DrivesScript surface report bytes old new room left end
RunsScript surface report bytes old new room left (Err fault) = FailsScript fault (script_of surface bytes) × (new ≡ old) × (left ≡ room)
