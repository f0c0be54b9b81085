-- What the program tells on its way to an answer.
use Rattle.std.specs.Prelude.{◌≡◌, ℕ, ⊤, if◌then◌else◌, nat_eq, length, List, Option, Result, Ok, Err, slice_get, unwrap_or, string_bytes}
use Rattle.wf_text.specs.declared.faults.NoMemory.{NoMemory as Wants}
use Rattle.c_text.specs.CLayout.{text_of}
use Rattle.c_text.specs.CNodes.{Nodes, unit_tree}
use Rattle.wf_text.specs.Surface.{Surface}
use Rattle.wf_script.specs.declared.faults.ScriptFault.{ScriptFault}
use Rattle.wf_script_rules.specs.Report.{Report}
use Rattle.wf_script_rules.specs.Scripts.{Script}
use Rattle.wf_script_drive.specs.declared.driving.DriveEnd.{DriveEnd}
use Rattle.wf_tool_runs.specs.Runs.{RunsScript}
use Rattle.wf_tool.specs.declared.ending.Ending.{Ending}
use Rattle.wf_tool.specs.declared.ending.Ending.TheVariants as endings
use Rattle.wf_tool.specs.declared.taking.TakingFault.{TakingFault}
use Rattle.wf_tool.specs.declared.taking.TakingFault.TheVariants.{Refused, Failed, Memory}
use Rattle.wf_tool.specs.declared.tool.Answer.{Answer}
use Rattle.c_step.specs.Loading.{SeenOf}
use Rattle.wf_tool.specs.Answer.{CheckCallsFor, CountsInputs, ExecCallsFor, GenCallsFor, MeanCallsFor, RunCallsFor, Writes, file_name}
use Rattle.wf_tool.specs.Runs.{ScriptCallsFor}
use Rattle.wf_tool.specs.Lines.{fault_line, refused_line}
use Rattle.wf_tool.specs.Words.{PackageWords}

-- A line comes with every ending but that of an output that failed, and that of memory.
abbrev pub TellsText : Ending → Type 0
TellsText endings.OutputFault = ⊥
TellsText endings.NoMemory = ⊥
TellsText ending = ⊤

-- The ending and the text of an answer.
abbrev pub IsTold : Result Answer Wants → Ending → (text : List ℕ) → Type 0
IsTold (Ok answer) ending text = (ending ≡ answer.ending) × (text ≡ string_bytes answer.line)
IsTold (Err fault) ending text = ⊥

-- The name of the input with this number: the files', and then these two.
abbrev pub input_name : (files : List (List ℕ)) → (script text : List ℕ) → (number : ℕ) → List ℕ
input_name files script text number = unwrap_or (slice_get files number) (if nat_eq number (length files) then script else text)

-- What is told of a fault.
abbrev pub IsFaultTold : (files : List (List ℕ)) → (script other : List ℕ) → TakingFault → Ending → (text : List ℕ) → Type 0
IsFaultTold files script other (Refused refusal) ending text = (ending ≡ endings.Refused) × (text ≡ refused_line (file_name files refusal.at.file) refusal)
IsFaultTold files script other (Failed number) ending text = (ending ≡ endings.InputFault) × (text ≡ fault_line (input_name files script other number))
IsFaultTold files script other Memory ending text = ⊥

-- The text of a unit, with the ending that it has where it's written.
abbrev pub IsTextOfUnit : Nodes → Ending → (text : List ℕ) → Type 0
IsTextOfUnit nodes ending text = (ending ≡ endings.Done) × (text ≡ text_of (unit_tree nodes))

-- What a command calls for, with the inputs' faults before and now.
abbrev pub CheckTold : (held : List ℕ → Option (List ℕ)) → (failed : Option (List ℕ)) → PackageWords → (before now : ℕ) → Ending → (text : List ℕ) → Type 0
CheckTold held failed asked before now ending text = CheckCallsFor held failed asked ending text × CountsInputs before now ending

abbrev pub GenTold : (held : List ℕ → Option (List ℕ)) → (failed : Option (List ℕ)) → PackageWords → (before now : ℕ) → Ending → (text : List ℕ) → Type 0
GenTold held failed asked before now ending text = GenCallsFor held failed asked ending text × CountsInputs before now ending

abbrev pub MeanTold : (held : List ℕ → Option (List ℕ)) → (failed : Option (List ℕ)) → PackageWords → (script : List ℕ) → (before now : ℕ) → Ending → (text : List ℕ) → Type 0
MeanTold held failed asked script before now ending text = MeanCallsFor held failed asked script ending text × CountsInputs before now ending

abbrev pub RunTold : SeenOf → (held : List ℕ → Option (List ℕ)) → (failed : Option (List ℕ)) → PackageWords → (script : List ℕ) → (before now : ℕ) → Ending → (text : List ℕ) → Type 0
RunTold seen held failed asked script before now ending text = RunCallsFor seen held failed asked script ending text × CountsInputs before now ending

abbrev pub ExecTold : SeenOf → (held : List ℕ → Option (List ℕ)) → (failed : Option (List ℕ)) → PackageWords → (script text : List ℕ) → (before now : ℕ) → Ending → (line : List ℕ) → Type 0
ExecTold seen held failed asked script text before now ending line = ExecCallsFor seen held failed asked script text ending line × CountsInputs before now ending

-- Whatever script was run with this end, from `old` to `mid`, its run calls for this ending with what was written from `old` to `new`.
abbrev pub EndsRun : Result DriveEnd ScriptFault → (mid new : Option (List ℕ)) → (left : Option ℕ) → Ending → Type 0
EndsRun ended mid new left ending =
    (surface : Surface) (report : Script → Report) (bytes : List ℕ) (old : Option (List ℕ)) (room : Option ℕ) → RunsScript surface report bytes old mid room left ended
    → Writes (ScriptCallsFor surface report bytes) old new room ending
