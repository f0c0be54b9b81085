-- What comes of a script that is run over a C text of a package, by what is seen of the engines that a loader makes of texts.
use Rattle.std.specs.Prelude.{◌≡◌, ◌≤◌, ◌<◌, ℕ, List, length, Option, Some, Result, Ok, Err}
use Rattle.wf_text.specs.Surface.{Surface}
use Rattle.c_text.specs.CTree.{ItemTree}
use Rattle.c_read_grammar.specs.Outcomes.{HasOutcome, whole, too_deep, not_c}
use Rattle.c_meaning.specs.UnitForm.{HasUnitForm, first_break}
use Rattle.c_read.specs.declared.faults.ReadFault.{ReadFault}
use Rattle.c_read.specs.declared.faults.ReadFault.TheVariants as reads
use Rattle.c_form.specs.declared.faults.LoadFault.{LoadFault}
use Rattle.c_form.specs.declared.faults.LoadFault.TheVariants as loads
use Rattle.c_form.specs.Formed.{Refuses}
use Rattle.c_step.specs.Loading.{SeenOf}
use Rattle.wf_script.specs.declared.faults.ScriptFault.{ScriptFault}
use Rattle.wf_script.specs.declared.faults.ScriptFault.TheVariants as scripts
use Rattle.wf_script_rules.specs.Report.{Report, report_of}
use Rattle.wf_script_rules.specs.Scripts.{Script, actions_of, script_of}
use Rattle.wf_script_drive.specs.declared.driving.DriveEnd.{DriveEnd}
use Rattle.wf_script_drive.specs.Driving.{Drives, FitsDrive}
use Rattle.wf_tool_runs.specs.declared.texts.RunFault.{RunFault}
use Rattle.wf_tool_runs.specs.declared.texts.RunFault.TheVariants as faults
use Rattle.wf_tool_runs.specs.declared.texts.TextFault.{TextFault}
use Rattle.wf_tool_runs.specs.declared.texts.TextFault.TheVariants.{TooLong, TooDeep, NotC, NoSuchForm}

-- The report of a script by what is seen of the text with these items.
abbrev pub text_report : SeenOf → List ItemTree → Surface → Script → Report
text_report seen items surface script = report_of surface script (seen items surface script.declared.receivers (actions_of script))

-- The items have the unit form, and the report was driven; or nothing was written, since they haven't it or memory was refused.
abbrev pub RunsUnit : SeenOf → List ItemTree → Surface → Script → (old new : Option (List ℕ)) → (room left : Option ℕ) → Result DriveEnd LoadFault → Type 0
RunsUnit seen items surface script old new room left (Ok end) =
    HasUnitForm surface items × Drives old new end (text_report seen items surface script) × FitsDrive room left end (length (text_report seen items surface script).text)
RunsUnit seen items surface script old new room left (Err fault) = Refuses surface items fault × (new ≡ old) × (left ≡ room)

-- How many bytes a text may have that is handed in.
abbrev pub most_text : ℕ
most_text = 1048576

-- Why bytes aren't run as a text of the package with this surface.
abbrev pub RefusesText : Surface → (text : List ℕ) → TextFault → Type 0
RefusesText surface text TooLong = most_text < length text
RefusesText surface text (TooDeep at) = (length text ≤ most_text) × HasOutcome text (too_deep at)
RefusesText surface text (NotC at) = (length text ≤ most_text) × HasOutcome text (not_c at)
RefusesText surface text (NoSuchForm item) = (length text ≤ most_text) × ((items : List ItemTree) × HasOutcome text (whole items) × (first_break surface items ≡ Some item))

-- Why a script isn't read, bytes give no unit or a unit isn't taken is why the script isn't run.
abbrev pub script_fault : ScriptFault → RunFault
script_fault (scripts.Refused line rule) = faults.Script line rule
script_fault scripts.Memory = faults.Memory

abbrev pub read_fault : ReadFault → RunFault
read_fault (reads.TooDeep at) = faults.Text (TooDeep at)
read_fault (reads.NotC at) = faults.Text (NotC at)
read_fault reads.Memory = faults.Memory

abbrev pub load_fault : LoadFault → RunFault
load_fault (loads.NoSuchForm item) = faults.Text (NoSuchForm item)
load_fault loads.Memory = faults.Memory

-- They are the text of these items, which have the unit form, and the report was driven.
pub record DrivesText (seen : SeenOf) (surface : Surface) (script : Script) (text : List ℕ) (old new : Option (List ℕ)) (room left : Option ℕ) (end : DriveEnd) : Type 0 where
  pub short : length text ≤ most_text
  pub items : List ItemTree
  pub read : HasOutcome text (whole items)
  pub form : HasUnitForm surface items
  pub drives : Drives old new end (text_report seen items surface script)
  pub fits : FitsDrive room left end (length (text_report seen items surface script).text)

-- A script that is read, over bytes of a text.
abbrev pub RunsRead : SeenOf → Surface → Script → (text : List ℕ) → (old new : Option (List ℕ)) → (room left : Option ℕ) → Result DriveEnd RunFault → Type 0
RunsRead seen surface script text old new room left (Ok end) = DrivesText seen surface script text old new room left end
RunsRead seen surface script text old new room left (Err (faults.Script line rule)) = ⊥
RunsRead seen surface script text old new room left (Err (faults.Text fault)) = RefusesText surface text fault × (new ≡ old) × (left ≡ room)
RunsRead seen surface script text old new room left (Err faults.Memory) = (new ≡ old) × (left ≡ room)

-- The bytes of a script and those of a text.
pub record RunsOver (seen : SeenOf) (surface : Surface) (bytes text : List ℕ) (old new : Option (List ℕ)) (room left : Option ℕ) (result : Result DriveEnd RunFault) : Type 0 where
  pub script : Script
  pub reads : script_of surface bytes ≡ Ok script
  pub runs : RunsRead seen surface script text old new room left result

-- The script is refused before the text is read.
abbrev pub RunsText : SeenOf → Surface → (bytes text : List ℕ) → (old new : Option (List ℕ)) → (room left : Option ℕ) → Result DriveEnd RunFault → Type 0
RunsText seen surface bytes text old new room left (Ok end) = RunsOver seen surface bytes text old new room left (Ok end)
RunsText seen surface bytes text old new room left (Err (faults.Script line rule)) = (script_of surface bytes ≡ Err (record { line = line; rule = rule })) × (new ≡ old) × (left ≡ room)
RunsText seen surface bytes text old new room left (Err (faults.Text fault)) = RunsOver seen surface bytes text old new room left (Err (faults.Text fault))
RunsText seen surface bytes text old new room left (Err faults.Memory) = (new ≡ old) × (left ≡ room)
