-- The answer of the program: for its words and what its inputs hold, how it ends and what it writes.
use Rattle.std.specs.Prelude.{ℕ, zero, suc, ⊤, ◌-◌, List, [], ◌∷◌, ◌++◌, length, take, slice_get, Option, None, Some, IfSome, ◌≡◌, ◌≤◌, ◌<◌}
use Rattle.std.specs.Io.KnownBytes.{Appends, Keeps}
use Rattle.pens.specs.Pens.{KeepsLongest}
use Rattle.wf_text.specs.declared.rules.Refusal.{Refusal}
use Rattle.wf_ast.specs.TypedPackage.{PackageTree, surface_of}
use Rattle.c_text.specs.CGrammar.{IsTextOf, unit_tokens}
use Rattle.c_text.specs.CLayout.{text_of}
use Rattle.c_text.specs.CTree.{ItemTree}
use Rattle.c_read_grammar.specs.Outcomes.{IsShallow}
use Rattle.c_meaning.specs.UnitForm.{HasUnitForm}
use Rattle.c_step.specs.Loading.{SeenOf}
use Rattle.wf_lower.specs.Unit.{lowered_unit}
use Rattle.wf_lower_laws.specs.JumpLaw.{AllJumpForward}
use Rattle.wf_lower_laws.specs.TurnLaw.{package_loops, text_whiles}
use Rattle.wf_script_rules.specs.Report.{Report}
use Rattle.wf_script_rules.specs.Scripts.{Script}
use Rattle.wf_tool_runs.specs.Lowered.{lowered_report}
use Rattle.wf_tool.specs.declared.ending.Ending.{Ending}
use Rattle.wf_tool.specs.declared.ending.Ending.TheVariants.{Done, Refused, Usage, InputFault, OutputFault, ScriptRefused, NoMemory, Turns, TextRefused, Undefined}
use Rattle.wf_tool.specs.Lines.{accepted_line, fault_line, refused_line, usage_line}
use Rattle.wf_tool.specs.Sizes.{most_bytes, too_many}
use Rattle.wf_tool.specs.Soundness.{NeverStuck}
use Rattle.wf_tool.specs.Runs.{IsAcceptedAs, ScriptCallsFor, TextCallsFor, source_report}
use Rattle.wf_tool.specs.Verdict.{IsAccepted, IsRefused}
use Rattle.wf_tool.specs.Words.{PackageWords, Command, check, gen, run, mean, exec, command_of}

-- Bytes that the names hold, one after the other: each is what its name holds, where that is told.
abbrev pub AreHeld : (held : List ℕ → Option (List ℕ)) → (names files : List (List ℕ)) → Type 0
AreHeld held [] [] = ⊤
AreHeld held (name ∷ names) (bytes ∷ files) = IfSome (held name) (λ told. bytes ≡ told) × AreHeld held names files
AreHeld held _ _ = ⊥

-- The bytes that are told, and none where none are.
abbrev pub text_or : Option (List ℕ) → List ℕ
text_or (Some text) = text
text_or None = []

-- The name of a file by its number. A number that names no file has no bytes.
abbrev pub file_name : (names : List (List ℕ)) → (number : ℕ) → List ℕ
file_name names number = text_or (slice_get names number)

-- The package is refused. The line names the file of the refusal, which is one of those that the words name.
pub record CallsForRefusal (held : List ℕ → Option (List ℕ)) (asked : PackageWords) (line : List ℕ) : Type 0 where
  pub files : List (List ℕ)
  pub refusal : Refusal
  pub hold : AreHeld held asked.files files
  pub verdict : IsRefused asked.package_name files refusal
  pub there : refusal.at.file < length asked.files
  pub writes : line ≡ refused_line (file_name asked.files refusal.at.file) refusal

-- The package is accepted, and so it is never stuck. The line tells how many methods it declares.
pub record CallsForDone (held : List ℕ → Option (List ℕ)) (asked : PackageWords) (line : List ℕ) : Type 0 where
  pub files : List (List ℕ)
  pub methods : ℕ
  pub hold : AreHeld held asked.files files
  pub verdict : IsAccepted asked.package_name files methods
  pub runs : NeverStuck asked.package_name files
  pub writes : line ≡ accepted_line methods

-- The package is accepted, and so it is never stuck. The text is its C text.
pub record CallsForUnit (held : List ℕ → Option (List ℕ)) (asked : PackageWords) (text : List ℕ) : Type 0 where
  pub files : List (List ℕ)
  pub tree : PackageTree
  pub hold : AreHeld held asked.files files
  pub accepted : IsAcceptedAs asked.package_name files tree
  pub writes : text ≡ text_of (lowered_unit tree)

-- The text is one of the C subset, of these items, which have the unit form for the package's surface; and it never opens a bracket
-- where 512 are open. Each `goto` leads to a label behind it, and there are as many `while` statements as in the package.
pub record IsUnitText (p : PackageTree) (items : List ItemTree) (text : List ℕ) : Type 0 where
  pub spelt : IsTextOf text items
  pub form : HasUnitForm (surface_of p) items
  pub shallow : IsShallow 0 (unit_tokens items)
  pub forward : AllJumpForward items
  pub loops : text_whiles items ≡ package_loops p

-- This input failed: a file, after those before it were taken, within `most` bytes together, or one of the others, which come after
-- all files.
abbrev pub FailsAt : (held : List ℕ → Option (List ℕ)) → (most : ℕ) → (names others : List (List ℕ)) → (number : ℕ) → Type 0
FailsAt held most [] others number = number < length others
FailsAt held most (name ∷ names) others zero = ⊤
FailsAt held most (name ∷ names) others (suc number) = (bytes : List ℕ) × IfSome (held name) (λ told. bytes ≡ told) × (length bytes ≤ most) × FailsAt held (most - length bytes) names others number

-- An input failed: one of the files, which aren't too many, or of the others, which are taken after them; and the last failed one,
-- where that is told.
pub record CallsForFault (held : List ℕ → Option (List ℕ)) (failed : Option (List ℕ)) (asked : PackageWords) (others : List (List ℕ)) (line : List ℕ) : Type 0 where
  pub number : ℕ
  pub few : too_many (length asked.files) ≡ None
  pub fails : FailsAt held most_bytes asked.files others number
  pub writes : line ≡ fault_line (file_name (asked.files ++ others) number)
  pub last : IfSome failed (λ name. name ≡ file_name (asked.files ++ others) number)

-- A script is run over the package, which is accepted and so never stuck: it calls for this ending with this text, which is its
-- report, or the line of its refusal.
pub record CallsForRun (report : PackageTree → Script → Report) (held : List ℕ → Option (List ℕ)) (asked : PackageWords) (script : List ℕ) (ending : Ending) (text : List ℕ) : Type 0 where
  pub files : List (List ℕ)
  pub bytes : List ℕ
  pub tree : PackageTree
  pub hold : AreHeld held asked.files files
  pub script_holds : IfSome (held script) (λ told. bytes ≡ told)
  pub accepted : IsAcceptedAs asked.package_name files tree
  pub calls : ScriptCallsFor (surface_of tree) (report tree) bytes ending text

-- A script is run over a C text that is handed in, as that of the package, which is accepted: it calls for this ending with this line
-- or report.
pub record CallsForText (seen : SeenOf) (held : List ℕ → Option (List ℕ)) (asked : PackageWords) (script text : List ℕ) (ending : Ending) (line : List ℕ) : Type 0 where
  pub files : List (List ℕ)
  pub bytes : List ℕ
  pub text_bytes : List ℕ
  pub tree : PackageTree
  pub hold : AreHeld held asked.files files
  pub script_holds : IfSome (held script) (λ told. bytes ≡ told)
  pub text_holds : IfSome (held text) (λ told. text_bytes ≡ told)
  pub accepted : IsAcceptedAs asked.package_name files tree
  pub calls : TextCallsFor seen (surface_of tree) bytes text_bytes ending line

-- A package that is to be checked calls for this ending and this text.
abbrev pub CheckCallsFor : (held : List ℕ → Option (List ℕ)) → (failed : Option (List ℕ)) → PackageWords → Ending → (text : List ℕ) → Type 0
CheckCallsFor held failed asked Done text = CallsForDone held asked text
CheckCallsFor held failed asked Refused text = CallsForRefusal held asked text
CheckCallsFor held failed asked Usage text = ⊥
CheckCallsFor held failed asked InputFault text = CallsForFault held failed asked [] text
CheckCallsFor held failed asked OutputFault text = ⊥
CheckCallsFor held failed asked ScriptRefused text = ⊥
CheckCallsFor held failed asked NoMemory text = ⊥
CheckCallsFor held failed asked Turns text = ⊥
CheckCallsFor held failed asked TextRefused text = ⊥
CheckCallsFor held failed asked Undefined text = ⊥

-- A package whose C text is to be written calls for it.
abbrev pub GenCallsFor : (held : List ℕ → Option (List ℕ)) → (failed : Option (List ℕ)) → PackageWords → Ending → (text : List ℕ) → Type 0
GenCallsFor held failed asked Done text = CallsForUnit held asked text
GenCallsFor held failed asked Refused text = CallsForRefusal held asked text
GenCallsFor held failed asked Usage text = ⊥
GenCallsFor held failed asked InputFault text = CallsForFault held failed asked [] text
GenCallsFor held failed asked OutputFault text = ⊥
GenCallsFor held failed asked ScriptRefused text = ⊥
GenCallsFor held failed asked NoMemory text = ⊥
GenCallsFor held failed asked Turns text = ⊥
GenCallsFor held failed asked TextRefused text = ⊥
GenCallsFor held failed asked Undefined text = ⊥

-- A package whose C text a script is to be run over calls for it, by what is seen of the engine that is made of its text. The script
-- is taken after the files.
abbrev pub RunCallsFor : SeenOf → (held : List ℕ → Option (List ℕ)) → (failed : Option (List ℕ)) → PackageWords → (script : List ℕ) → Ending → (text : List ℕ) → Type 0
RunCallsFor seen held failed asked script Done text = CallsForRun (lowered_report seen) held asked script Done text
RunCallsFor seen held failed asked script Refused text = CallsForRefusal held asked text
RunCallsFor seen held failed asked script Usage text = ⊥
RunCallsFor seen held failed asked script InputFault text = CallsForFault held failed asked (script ∷ []) text
RunCallsFor seen held failed asked script OutputFault text = ⊥
RunCallsFor seen held failed asked script ScriptRefused text = CallsForRun (lowered_report seen) held asked script ScriptRefused text
RunCallsFor seen held failed asked script NoMemory text = ⊥
RunCallsFor seen held failed asked script Turns text = CallsForRun (lowered_report seen) held asked script Turns text
RunCallsFor seen held failed asked script TextRefused text = ⊥
RunCallsFor seen held failed asked script Undefined text = CallsForRun (lowered_report seen) held asked script Undefined text

-- A package whose source is to be run calls for it. The script is taken after the files.
abbrev pub MeanCallsFor : (held : List ℕ → Option (List ℕ)) → (failed : Option (List ℕ)) → PackageWords → (script : List ℕ) → Ending → (text : List ℕ) → Type 0
MeanCallsFor held failed asked script Done text = CallsForRun source_report held asked script Done text
MeanCallsFor held failed asked script Refused text = CallsForRefusal held asked text
MeanCallsFor held failed asked script Usage text = ⊥
MeanCallsFor held failed asked script InputFault text = CallsForFault held failed asked (script ∷ []) text
MeanCallsFor held failed asked script OutputFault text = ⊥
MeanCallsFor held failed asked script ScriptRefused text = CallsForRun source_report held asked script ScriptRefused text
MeanCallsFor held failed asked script NoMemory text = ⊥
MeanCallsFor held failed asked script Turns text = CallsForRun source_report held asked script Turns text
MeanCallsFor held failed asked script TextRefused text = ⊥
MeanCallsFor held failed asked script Undefined text = ⊥

-- A package as whose text another one is to be run calls for it, by what is seen of the engine that is made of that. The script is
-- taken after the files, and the text after it.
abbrev pub ExecCallsFor : SeenOf → (held : List ℕ → Option (List ℕ)) → (failed : Option (List ℕ)) → PackageWords → (script text : List ℕ) → Ending → (line : List ℕ) → Type 0
ExecCallsFor seen held failed asked script text Done line = CallsForText seen held asked script text Done line
ExecCallsFor seen held failed asked script text Refused line = CallsForRefusal held asked line
ExecCallsFor seen held failed asked script text Usage line = ⊥
ExecCallsFor seen held failed asked script text InputFault line = CallsForFault held failed asked (script ∷ text ∷ []) line
ExecCallsFor seen held failed asked script text OutputFault line = ⊥
ExecCallsFor seen held failed asked script text ScriptRefused line = CallsForText seen held asked script text ScriptRefused line
ExecCallsFor seen held failed asked script text NoMemory line = ⊥
ExecCallsFor seen held failed asked script text Turns line = CallsForText seen held asked script text Turns line
ExecCallsFor seen held failed asked script text TextRefused line = CallsForText seen held asked script text TextRefused line
ExecCallsFor seen held failed asked script text Undefined line = CallsForText seen held asked script text Undefined line

-- What is asked for, over inputs that hold this and of which this failed last, calls for this ending and this text, where `seen` tells
-- what is seen of the engines that are made of C texts. Words that are no command form call for the line on usage.
abbrev pub AskedFor : SeenOf → (held : List ℕ → Option (List ℕ)) → (failed : Option (List ℕ)) → Option Command → Ending → (text : List ℕ) → Type 0
AskedFor seen held failed None ending text = (ending ≡ Usage) × (text ≡ usage_line)
AskedFor seen held failed (Some (check asked)) ending text = CheckCallsFor held failed asked ending text
AskedFor seen held failed (Some (gen asked)) ending text = GenCallsFor held failed asked ending text
AskedFor seen held failed (Some (run asked script)) ending text = RunCallsFor seen held failed asked script ending text
AskedFor seen held failed (Some (mean asked script)) ending text = MeanCallsFor held failed asked script ending text
AskedFor seen held failed (Some (exec asked script other)) ending text = ExecCallsFor seen held failed asked script other ending text

abbrev pub CallFor : SeenOf → (held : List ℕ → Option (List ℕ)) → (failed : Option (List ℕ)) → (words : List (List ℕ)) → Ending → (text : List ℕ) → Type 0
CallFor seen held failed words ending text = AskedFor seen held failed (command_of words) ending text

-- The inputs' count of faults rises where an input fault is the ending. It may have risen where memory or the
-- output failed, and has not at every other ending.
abbrev pub CountsInputs : (before now : ℕ) → Ending → Type 0
CountsInputs before now InputFault = before < now
CountsInputs before now OutputFault = before ≤ now
CountsInputs before now NoMemory = before ≤ now
CountsInputs before now _ = now ≡ before

-- The sink's count rises where an output fault is the ending, and only there.
abbrev pub CountsSink : (before now : ℕ) → Ending → Type 0
CountsSink before now OutputFault = before < now
CountsSink before now _ = now ≡ before

-- What the words are answered from: what is seen of engines of C texts, what the inputs hold, the name that failed last, and the
-- words themselves.
pub record Asked : Type 0 where
  pub seen : SeenOf
  pub held : List ℕ → Option (List ℕ)
  pub failed : Option (List ℕ)
  pub words : List (List ℕ)

-- They call for this ending and this text, where the inputs' faults were so many before and are so many now.
abbrev pub Called : Asked → (before now : ℕ) → Ending → (text : List ℕ) → Type 0
Called asked before now ending text = CallFor asked.seen asked.held asked.failed asked.words ending text × CountsInputs before now ending

-- The sink, where it tells, has gained the text that is called for.
pub record WritesText (calls : Ending → List ℕ → Type 0) (old new : Option (List ℕ)) (ending : Ending) : Type 0 where
  pub text : List ℕ
  pub called : calls ending text
  pub wrote : Appends old new text

-- The sink, where it tells, has gained the first bytes of a text that is called for. Where it tells a room, the room didn't hold
-- the text.
pub record WritesPart (calls : Ending → List ℕ → Type 0) (old new : Option (List ℕ)) (room : Option ℕ) : Type 0 where
  pub ending : Ending
  pub text : List ℕ
  pub gone : ℕ
  pub called : calls ending text
  pub wrote : Appends old new (take gone text)
  pub lacking : IfSome room (λ left. left < length text)

-- What is written with each ending. `old` and `new` are the sink's bytes, and `room` is the room that it had.
abbrev pub Writes : (calls : Ending → List ℕ → Type 0) → (old new : Option (List ℕ)) → (room : Option ℕ) → Ending → Type 0
Writes calls old new room OutputFault = WritesPart calls old new room
Writes calls old new room NoMemory = Keeps old new
Writes calls old new room ending = WritesText calls old new ending

-- With no fault, the ending and the text are those that the words and the told bytes call for; or memory was refused, and nothing
-- was written.
abbrev pub IsAnswered : (calls : Ending → List ℕ → Type 0) → (old new : Option (List ℕ)) → Ending → Type 0
IsAnswered calls old new InputFault = ⊥
IsAnswered calls old new OutputFault = ⊥
IsAnswered calls old new NoMemory = Keeps old new
IsAnswered calls old new ending = WritesText calls old new ending

-- No piece longer than 4,096 bytes was put where a C text or a report was written to its end.
abbrev pub KeepsWholePieces : Ending → (old new : Option ℕ) → Type 0
KeepsWholePieces Done old new = KeepsLongest old new
KeepsWholePieces Turns old new = KeepsLongest old new
KeepsWholePieces Undefined old new = KeepsLongest old new
KeepsWholePieces ending old new = ⊤

abbrev pub KeepsPieces : Option Command → Ending → (old new : Option ℕ) → Type 0
KeepsPieces (Some (gen asked)) ending old new = KeepsWholePieces ending old new
KeepsPieces (Some (run asked script)) ending old new = KeepsWholePieces ending old new
KeepsPieces (Some (mean asked script)) ending old new = KeepsWholePieces ending old new
KeepsPieces (Some (exec asked script other)) ending old new = KeepsWholePieces ending old new
KeepsPieces command ending old new = ⊤

-- The sink, where it tells, has gained a text that `gen` calls for, and this is a unit's text for the package.
pub record WritesUnitText (held : List ℕ → Option (List ℕ)) (asked : PackageWords) (old new : Option (List ℕ)) : Type 0 where
  pub text : List ℕ
  pub called : CallsForUnit held asked text
  pub lawful : IsUnitText called.tree (lowered_unit called.tree) text
  pub wrote : Appends old new text

-- So it is with each C text that `gen` writes to its end.
abbrev pub GenWrites : (held : List ℕ → Option (List ℕ)) → PackageWords → Ending → (old new : Option (List ℕ)) → Type 0
GenWrites held asked Done old new = WritesUnitText held asked old new
GenWrites held asked ending old new = ⊤

abbrev pub WritesLawfully : (held : List ℕ → Option (List ℕ)) → Option Command → Ending → (old new : Option (List ℕ)) → Type 0
WritesLawfully held (Some (gen asked)) ending old new = GenWrites held asked ending old new
WritesLawfully held command ending old new = ⊤

-- The inputs tell what each of the names holds.
abbrev pub AreTold : (held : List ℕ → Option (List ℕ)) → (names files : List (List ℕ)) → Type 0
AreTold held [] [] = ⊤
AreTold held (name ∷ names) (bytes ∷ files) = (held name ≡ Some bytes) × AreTold held names files
AreTold held _ _ = ⊥

-- A package that is refused ends so, and the line of its refusal is written.
abbrev pub RefusesByVerdict : PackageWords → (files : List (List ℕ)) → (old new : Option (List ℕ)) → Ending → Type 0
RefusesByVerdict asked files old new ending =
    (refusal : Refusal) → IsRefused asked.package_name files refusal → (ending ≡ Refused) × Appends old new (refused_line (file_name asked.files refusal.at.file) refusal)

-- `check`: the ending is that of the package's verdict, and the verdict's line is written.
pub record ChecksByVerdict (asked : PackageWords) (files : List (List ℕ)) (old new : Option (List ℕ)) (ending : Ending) : Type 0 where
  pub accepted : (methods : ℕ) → IsAccepted asked.package_name files methods → (ending ≡ Done) × Appends old new (accepted_line methods)
  pub refused : RefusesByVerdict asked files old new ending

-- What is written is the C text of a package that is accepted.
pub record WritesUnit (asked : PackageWords) (files : List (List ℕ)) (old new : Option (List ℕ)) : Type 0 where
  pub tree : PackageTree
  pub accepted : IsAcceptedAs asked.package_name files tree
  pub wrote : Appends old new (text_of (lowered_unit tree))

-- `gen`: the ending is that of the package's verdict, and the C text or the refusal's line is written.
pub record GeneratesByVerdict (asked : PackageWords) (files : List (List ℕ)) (old new : Option (List ℕ)) (ending : Ending) : Type 0 where
  pub accepted : (methods : ℕ) → IsAccepted asked.package_name files methods → (ending ≡ Done) × WritesUnit asked files old new
  pub refused : RefusesByVerdict asked files old new ending

-- The ending and what is written are those of a script with these bytes, run over a package that is accepted.
pub record RunsByVerdict (report : PackageTree → Script → Report) (asked : PackageWords) (files : List (List ℕ)) (bytes : List ℕ) (old new : Option (List ℕ)) (ending : Ending) : Type 0 where
  pub tree : PackageTree
  pub accepted : IsAcceptedAs asked.package_name files tree
  pub text : List ℕ
  pub calls : ScriptCallsFor (surface_of tree) (report tree) bytes ending text
  pub wrote : Appends old new text

-- `run` and `mean`: so it is of a package that is refused, whatever the script holds; over one that is accepted, the script runs that
-- is told.
pub record RunByVerdict (report : PackageTree → Script → Report) (asked : PackageWords) (files : List (List ℕ)) (script : Option (List ℕ)) (old new : Option (List ℕ)) (ending : Ending) : Type 0 where
  pub accepted : (methods : ℕ) → IsAccepted asked.package_name files methods → (bytes : List ℕ) → script ≡ Some bytes → RunsByVerdict report asked files bytes old new ending
  pub refused : RefusesByVerdict asked files old new ending

-- `exec`: likewise, over the text that is told.
pub record ExecutesByVerdict (seen : SeenOf) (asked : PackageWords) (files : List (List ℕ)) (bytes text : List ℕ) (old new : Option (List ℕ)) (ending : Ending) : Type 0 where
  pub tree : PackageTree
  pub accepted : IsAcceptedAs asked.package_name files tree
  pub line : List ℕ
  pub calls : TextCallsFor seen (surface_of tree) bytes text ending line
  pub wrote : Appends old new line

pub record ExecByVerdict (seen : SeenOf) (asked : PackageWords) (files : List (List ℕ)) (script text : Option (List ℕ)) (old new : Option (List ℕ)) (ending : Ending) : Type 0 where
  pub accepted : (methods : ℕ) → IsAccepted asked.package_name files methods → (bytes text_bytes : List ℕ) → script ≡ Some bytes → text ≡ Some text_bytes → ExecutesByVerdict seen asked files bytes text_bytes old new ending
  pub refused : RefusesByVerdict asked files old new ending

-- What is answered to a command over a package with these files.
abbrev pub IsByVerdict : SeenOf → (held : List ℕ → Option (List ℕ)) → Command → (files : List (List ℕ)) → (old new : Option (List ℕ)) → Ending → Type 0
IsByVerdict seen held (check asked) files old new ending = ChecksByVerdict asked files old new ending
IsByVerdict seen held (gen asked) files old new ending = GeneratesByVerdict asked files old new ending
IsByVerdict seen held (run asked script) files old new ending = RunByVerdict (lowered_report seen) asked files (held script) old new ending
IsByVerdict seen held (mean asked script) files old new ending = RunByVerdict source_report asked files (held script) old new ending
IsByVerdict seen held (exec asked script text) files old new ending = ExecByVerdict seen asked files (held script) (held text) old new ending

-- The package that a command is about.
abbrev pub asked_package : Command → PackageWords
asked_package (check asked) = asked
asked_package (gen asked) = asked
asked_package (run asked script) = asked
asked_package (mean asked script) = asked
asked_package (exec asked script text) = asked

-- Where the words are a command form, the inputs tell what the package's files hold, no fault is counted and memory isn't refused,
-- the program answers by the package's verdict.
abbrev pub AnswersAreVerdicts : Type 0
AnswersAreVerdicts =
    (asked : Asked) (command : Command) (files : List (List ℕ)) (before now : ℕ) (old new : Option (List ℕ)) (ending : Ending) → command_of asked.words ≡ Some command
    → AreTold asked.held (asked_package command).files files → IsAnswered (Called asked before now) old new ending → (ending ≡ NoMemory → ⊥) → IsByVerdict asked.seen asked.held command files old new ending

-- The inputs tell what the files of a package hold, and the script and the text where there are some.
abbrev pub FilesAreTold : (held : List ℕ → Option (List ℕ)) → PackageWords → Type 0
FilesAreTold held asked = (files : List (List ℕ)) × AreTold held asked.files files

abbrev pub InputsAreTold : (held : List ℕ → Option (List ℕ)) → Option Command → Type 0
InputsAreTold held None = ⊤
InputsAreTold held (Some (check asked)) = FilesAreTold held asked
InputsAreTold held (Some (gen asked)) = FilesAreTold held asked
InputsAreTold held (Some (run asked script)) = FilesAreTold held asked × ((bytes : List ℕ) × (held script ≡ Some bytes))
InputsAreTold held (Some (mean asked script)) = FilesAreTold held asked × ((bytes : List ℕ) × (held script ≡ Some bytes))
InputsAreTold held (Some (exec asked script text)) = FilesAreTold held asked × ((bytes : List ℕ) × (held script ≡ Some bytes)) × ((bytes : List ℕ) × (held text ≡ Some bytes))

-- Words whose inputs are told call for an ending and a text, with no fault counted.
abbrev pub AnswersExist : Type 0
AnswersExist = (asked : Asked) (faults : ℕ) → InputsAreTold asked.held (command_of asked.words) → (ending : Ending) × (text : List ℕ) × Called asked faults faults ending text
