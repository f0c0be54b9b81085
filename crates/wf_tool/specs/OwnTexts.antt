-- A package's own C text, where it is handed in.
use Rattle.std.specs.Prelude.{◌≡◌, ◌≤◌, ℕ, List, length, Option, Some}
use Rattle.wf_ast.specs.TypedPackage.{PackageTree, surface_of}
use Rattle.c_step.specs.Loading.{SeenOf}
use Rattle.wf_lower.specs.Unit.{lowered_unit}
use Rattle.wf_tool_runs.specs.Lowered.{lowered_report}
use Rattle.wf_tool_runs.specs.Units.{most_text}
use Rattle.wf_tool.specs.declared.ending.Ending.{Ending}
use Rattle.wf_tool.specs.Answer.{AreTold, CallsForRun, CallsForText, IsUnitText}
use Rattle.wf_tool.specs.Runs.{IsAcceptedAs, ScriptCallsFor, TextCallsFor}
use Rattle.wf_tool.specs.Words.{PackageWords}

-- Over a unit's text of a package a script calls for what it calls for over the package itself, with its methods and its structs in
-- the order of that text; and for nothing else.
pub record RunsAlike (seen : SeenOf) (p : PackageTree) (text : List ℕ) : Type 0 where
  pub as_package : (bytes : List ℕ) (ending : Ending) (line : List ℕ) → TextCallsFor seen (surface_of p) bytes text ending line → ScriptCallsFor (surface_of p) (lowered_report seen p) bytes ending line
  pub as_text : (bytes : List ℕ) (ending : Ending) (line : List ℕ) → ScriptCallsFor (surface_of p) (lowered_report seen p) bytes ending line → TextCallsFor seen (surface_of p) bytes text ending line

abbrev pub UnitTextsRunAlike : Type 0
UnitTextsRunAlike = (seen : SeenOf) (p : PackageTree) (text : List ℕ) → IsUnitText p (lowered_unit p) text → length text ≤ most_text → RunsAlike seen p text

-- The inputs tell a package's files, and under another name such a text of the package: what `exec` calls for over that text, whatever
-- the script, `run` calls for.
abbrev pub OwnTextsRunAsPackages : Type 0
OwnTextsRunAsPackages =
    (seen : SeenOf) (held : List ℕ → Option (List ℕ)) (asked : PackageWords) (files : List (List ℕ)) (p : PackageTree) (script other text : List ℕ) (ending : Ending) (line : List ℕ) → AreTold held asked.files files
    → held other ≡ Some text → IsAcceptedAs asked.package_name files p → IsUnitText p (lowered_unit p) text → length text ≤ most_text → CallsForText seen held asked script other ending line
    → CallsForRun (lowered_report seen) held asked script ending line
