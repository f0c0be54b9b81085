-- What becomes of the files that the words name: they are taken one after the other, within a number of bytes.
use Rattle.std.specs.Prelude.{ℕ, ◌+◌, ◌⊎◌, ⊤, List, [], ◌∷◌, length, Option, None, Some, IfSome, Result, Ok, Err, ◌≡◌, ◌≤◌, ◌<◌}
use Rattle.wf_text.specs.declared.faults.PhaseFault.{PhaseFault}
use Rattle.wf_text.specs.declared.faults.PhaseFault.TheVariants as phase
use Rattle.wf_text.specs.declared.rules.Refusal.{Refusal}
use Rattle.wf_text.specs.declared.rules.Rule.TheVariants.{L1}
use Rattle.wf_text.specs.Precedence.{Decides, IsFirst}
use Rattle.wf_ast.specs.ParsedParts.{Parsed}
use Rattle.wf_ast.specs.TypedInvariant.{IsTyped}
use Rattle.wf_ast.specs.TypedPackage.{PackageTree, package_of}
use Rattle.wf_tokens.specs.Places.{first_place}
use Rattle.wf_named.specs.NamedTree.{NamedPackageTree}
use Rattle.wf_types_rules.specs.TypeRules.{Breaks}
use Rattle.wf_typed_tree.specs.ElaboratedPackage.{typed_package}
use Rattle.wf_names_laws.specs.Ordered.{HasOrder}
use Rattle.wf_bounds.specs.Acceptance.{AcceptedPackage}
use Rattle.wf_surfaces.specs.Names.{HasNames}
use Rattle.c_text.specs.CNodes.{Nodes, unit_tree}
use Rattle.wf_lower.specs.Made.{IsSpelt}
use Rattle.wf_lower.specs.Unit.{lowered_unit}
use Rattle.wf_lower_laws.specs.JumpLaw.{AllJumpForward}
use Rattle.wf_lower_laws.specs.TurnLaw.{package_loops, text_whiles}
use Rattle.wf_bounds_laws.specs.BoundsRules as bounds
use Rattle.wf_tool_runs.specs.Lowered.{IsLowered}
use Rattle.wf_tool.specs.declared.judging.Ready.{Ready}
use Rattle.wf_tool.specs.declared.judging.ReadyText.{ReadyText}
use Rattle.wf_tool.specs.declared.taking.TakingFault.{TakingFault}
use Rattle.wf_tool.specs.declared.taking.TakingFault.TheVariants.{Refused, Failed, Memory}
use Rattle.wf_tool.specs.Answer.{AreHeld, FailsAt, file_name}
use Rattle.wf_tool.specs.Sizes.{most_bytes, too_large, too_long, too_many}
use Rattle.wf_tool.specs.Runs.{IsAcceptedAs}
use Rattle.wf_tool.specs.Soundness.{NeverStuck, in_order}
use Rattle.wf_tool.specs.Verdict.{BreaksNames, KeepsNames, resolved, BreaksTypes, KeepsTypes, out_of_bounds_at, KeepsPoints, IsAccepted, IsRefused}
use Rattle.wf_tool.specs.Words.{PackageWords}

-- One file, with `most` bytes left for it: these are its bytes.
abbrev pub TakesFile : (held : List ℕ → Option (List ℕ)) → (most : ℕ) → (name : List ℕ) → (bytes : List ℕ) → Type 0
TakesFile held most name bytes = IfSome (held name) (λ told. bytes ≡ told) × (length bytes ≤ most)

-- It holds more, or it isn't taken.
abbrev pub StopsFile : (held : List ℕ → Option (List ℕ)) → (most number : ℕ) → (name : List ℕ) → TakingFault → Type 0
StopsFile held most number name (Refused refusal) = (bytes : List ℕ) × IfSome (held name) (λ told. bytes ≡ told) × (most < length bytes) × (refusal ≡ record { rule = L1; at = first_place number })
StopsFile held most number name (Failed at) = at ≡ number
StopsFile held most number name Memory = ⊤

-- Files in order, with `most` bytes left for them.
abbrev pub TakesFiles : (held : List ℕ → Option (List ℕ)) → (most : ℕ) → (names : List (List ℕ)) → (files : List (List ℕ)) → Type 0
TakesFiles held most names files = AreHeld held names files × (too_long 0 most files ≡ None)

-- They hold more, or one of them isn't taken.
abbrev pub StopsFiles : (held : List ℕ → Option (List ℕ)) → (most number : ℕ) → (names : List (List ℕ)) → TakingFault → Type 0
StopsFiles held most number names (Refused refusal) = (files : List (List ℕ)) × AreHeld held names files × (too_long number most files ≡ Some refusal)
StopsFiles held most number names (Failed at) = (index : ℕ) × (at ≡ number + index) × FailsAt held most names [] index
StopsFiles held most number names Memory = ⊤

-- The count of faults rises where a file couldn't be taken, and only there.
abbrev pub CountsTaking : {A : Type 0} → (before now : ℕ) → Result A TakingFault → Type 0
CountsTaking before now (Ok _) = now ≡ before
CountsTaking before now (Err (Refused refusal)) = now ≡ before
CountsTaking before now (Err (Failed at)) = before < now
CountsTaking before now (Err Memory) = now ≡ before

-- A file that couldn't be taken is the last failed name, where that is told.
abbrev pub NamesFile : (failed : Option (List ℕ)) → (name : List ℕ) → TakingFault → Type 0
NamesFile failed name (Refused refusal) = ⊤
NamesFile failed name (Failed at) = IfSome failed (λ last. last ≡ name)
NamesFile failed name Memory = ⊤

abbrev pub NamesFailed : (failed : Option (List ℕ)) → (names : List (List ℕ)) → TakingFault → Type 0
NamesFailed failed names (Refused refusal) = ⊤
NamesFailed failed names (Failed at) = IfSome failed (λ last. last ≡ file_name names at)
NamesFailed failed names Memory = ⊤

-- A script or a text: its bytes, or, where it has more than it may have, more than that.
abbrev pub IsScriptOf : (told bytes : List ℕ) → Type 0
IsScriptOf told bytes = (bytes ≡ told) ⊎ ((most_bytes < length told) × (most_bytes < length bytes))

abbrev pub TakesScript : (held : List ℕ → Option (List ℕ)) → (name bytes : List ℕ) → Type 0
TakesScript held name bytes = IfSome (held name) (λ told. IsScriptOf told bytes)

-- It isn't taken, after so many inputs.
abbrev pub StopsScript : (number : ℕ) → TakingFault → Type 0
StopsScript number (Refused refusal) = ⊥
StopsScript number (Failed at) = at ≡ number
StopsScript number Memory = ⊤

-- Why a package is refused that keeps the rules of types: by those of bounds, and where these refuse nothing by that of
-- suspension points.
abbrev pub RefusesTyped : NamedPackageTree → Refusal → Type 0
RefusesTyped p refusal = (bounds.bounds_refusal p ≡ Some refusal) ⊎ ((bounds.bounds_refusal p ≡ None) × IsFirst (bounds.BreaksPoints p) refusal)

-- The verdict on a package whose names are resolved: by its types, then by its bounds, and then by its suspension points. An
-- accepted one has its typed tree.
abbrev pub JudgesNamed : NamedPackageTree → Result AcceptedPackage PhaseFault → Type 0
JudgesNamed p (Ok a) = Decides (Breaks p) None × (bounds.bounds_refusal p ≡ None) × Decides (bounds.BreaksPoints p) None × (package_of a.nodes ≡ typed_package p) × IsTyped a.nodes
JudgesNamed p (Err (phase.Refused refusal)) = IsFirst (Breaks p) refusal ⊎ (Decides (Breaks p) None × RefusesTyped p refusal)
JudgesNamed p (Err phase.Memory) = ⊤

-- The typed tree of a package that is read, with its methods and its structs in orders.
pub record HasTree (read : Parsed) (p : PackageTree) : Type 0 where
  pub order : List ℕ
  pub struct_order : List ℕ
  pub ordered : HasOrder (in_order read order struct_order)
  pub tree : p ≡ typed_package (in_order read order struct_order)

-- The verdict on a package that is read: its names come before all these.
abbrev pub JudgesRead : Parsed → Result AcceptedPackage PhaseFault → Type 0
JudgesRead read (Ok a) = KeepsNames read × KeepsTypes read × (out_of_bounds_at read ≡ None) × KeepsPoints read × HasTree read (package_of a.nodes) × IsTyped a.nodes
JudgesRead read (Err (phase.Refused refusal)) =
    IsFirst (BreaksNames read) refusal
    ⊎ ((KeepsNames read × IsFirst (BreaksTypes read) refusal)
    ⊎ (KeepsNames read × KeepsTypes read × RefusesTyped (resolved read) refusal))
JudgesRead read (Err phase.Memory) = ⊤

-- The C text of a package has the unit form and can be read back. Each `goto` leads to a label behind it, and there are as many
-- `while` statements as in the package.
pub record HasLawfulText (p : PackageTree) : Type 0 where
  pub lowered : IsLowered p
  pub forward : AllJumpForward (lowered_unit p)
  pub loops : text_whiles (lowered_unit p) ≡ package_loops p

-- The verdict on files whose bytes are within the limits. An accepted package is never stuck, its nodes have texts for their
-- names, C can spell its names and texts, and its C text keeps these laws.
abbrev pub Judges : (name : List ℕ) → (files : List (List ℕ)) → Result AcceptedPackage PhaseFault → Type 0
Judges name files (Ok a) = IsAcceptedAs name files (package_of a.nodes) × HasNames a.nodes × IsSpelt a.nodes × HasLawfulText (package_of a.nodes)
Judges name files (Err (phase.Refused refusal)) = IsRefused name files refusal
Judges name files (Err phase.Memory) = ⊤

-- Why a phase gives nothing is why the package isn't accepted.
abbrev pub taking_fault : PhaseFault → TakingFault
taking_fault (phase.Refused refusal) = Refused refusal
taking_fault phase.Memory = Memory

-- The same of files that have been taken.
abbrev pub JudgesTaken : (name : List ℕ) → (files : List (List ℕ)) → Result AcceptedPackage TakingFault → Type 0
JudgesTaken name files (Ok a) = IsAcceptedAs name files (package_of a.nodes) × HasNames a.nodes × IsSpelt a.nodes × HasLawfulText (package_of a.nodes)
JudgesTaken name files (Err (Refused refusal)) = IsRefused name files refusal
JudgesTaken name files (Err (Failed at)) = ⊥
JudgesTaken name files (Err Memory) = ⊤

-- The same with the bytes of a script beside them.
abbrev pub JudgesReady : (name : List ℕ) → (files : List (List ℕ)) → (script : List ℕ) → Result Ready TakingFault → Type 0
JudgesReady name files script (Ok ready) =
    IsAcceptedAs name files (package_of ready.accepted.nodes) × HasNames ready.accepted.nodes × IsSpelt ready.accepted.nodes × HasLawfulText (package_of ready.accepted.nodes) × (ready.script.items ≡ script)
JudgesReady name files script (Err (Refused refusal)) = IsRefused name files refusal
JudgesReady name files script (Err (Failed at)) = ⊥
JudgesReady name files script (Err Memory) = ⊤

-- And with those of a text.
abbrev pub JudgesReadyText : (name : List ℕ) → (files : List (List ℕ)) → (script text : List ℕ) → Result ReadyText TakingFault → Type 0
JudgesReadyText name files script text (Ok it) = JudgesReady name files script (Ok it.ready) × (it.text.items ≡ text)
JudgesReadyText name files script text (Err fault) = JudgesReady name files script (Err fault)

-- The files of a package are too many, or have too many bytes.
pub record AreTooLarge (held : List ℕ → Option (List ℕ)) (names : List (List ℕ)) (refusal : Refusal) : Type 0 where
  pub files : List (List ℕ)
  pub hold : AreHeld held names files
  pub large : too_large files ≡ Some refusal

-- One of these failed; the files of the package aren't too many.
pub record FailsHeld (held : List ℕ → Option (List ℕ)) (names others : List (List ℕ)) (number : ℕ) : Type 0 where
  pub few : too_many (length names) ≡ None
  pub fails : FailsAt held most_bytes names others number

-- What becomes of the files of a package.
abbrev pub TakesPackage : (held : List ℕ → Option (List ℕ)) → (names files : List (List ℕ)) → Type 0
TakesPackage held names files = AreHeld held names files × (too_large files ≡ None)

abbrev pub StopsPackage : (held : List ℕ → Option (List ℕ)) → (names : List (List ℕ)) → TakingFault → Type 0
StopsPackage held names (Refused refusal) = AreTooLarge held names refusal
StopsPackage held names (Failed at) = FailsHeld held names [] at
StopsPackage held names Memory = ⊤

-- The package is accepted, for bytes that its files hold; its nodes have texts for their names, and C can spell its names and texts.
pub record AcceptsHeldAs (held : List ℕ → Option (List ℕ)) (asked : PackageWords) (a : AcceptedPackage) : Type 0 where
  pub files : List (List ℕ)
  pub hold : AreHeld held asked.files files
  pub accepted : IsAcceptedAs asked.package_name files (package_of a.nodes)
  pub names : HasNames a.nodes
  pub spelt : IsSpelt a.nodes
  pub lawful : HasLawfulText (package_of a.nodes)

-- It is accepted, and this is the unit of its C text, which keeps these laws.
pub record LowersHeld (held : List ℕ → Option (List ℕ)) (asked : PackageWords) (u : Nodes) : Type 0 where
  pub files : List (List ℕ)
  pub tree : PackageTree
  pub hold : AreHeld held asked.files files
  pub accepted : IsAcceptedAs asked.package_name files tree
  pub lawful : HasLawfulText tree
  pub lowered : unit_tree u ≡ lowered_unit tree

-- The package is accepted with so many methods, for bytes that its files hold, and it is never stuck.
pub record AcceptsHeld (held : List ℕ → Option (List ℕ)) (asked : PackageWords) (methods : ℕ) : Type 0 where
  pub files : List (List ℕ)
  pub hold : AreHeld held asked.files files
  pub verdict : IsAccepted asked.package_name files methods
  pub runs : NeverStuck asked.package_name files

-- It is refused, for bytes that they hold.
pub record RefusesHeld (held : List ℕ → Option (List ℕ)) (asked : PackageWords) (refusal : Refusal) : Type 0 where
  pub files : List (List ℕ)
  pub hold : AreHeld held asked.files files
  pub verdict : IsRefused asked.package_name files refusal

-- Why the package isn't accepted, or not all of its files are taken or not all of these others.
abbrev pub FaultsPackage : (held : List ℕ → Option (List ℕ)) → PackageWords → (others : List (List ℕ)) → TakingFault → Type 0
FaultsPackage held asked others (Refused refusal) = RefusesHeld held asked refusal
FaultsPackage held asked others (Failed at) = FailsHeld held asked.files others at
FaultsPackage held asked others Memory = ⊤

-- What becomes of the package with these words.
abbrev pub AcceptsPackage : (held : List ℕ → Option (List ℕ)) → PackageWords → Result AcceptedPackage TakingFault → Type 0
AcceptsPackage held asked (Ok a) = AcceptsHeldAs held asked a
AcceptsPackage held asked (Err fault) = FaultsPackage held asked [] fault

-- What becomes of the package whose C text is to be written.
abbrev pub LowersPackage : (held : List ℕ → Option (List ℕ)) → PackageWords → Result Nodes TakingFault → Type 0
LowersPackage held asked (Ok u) = LowersHeld held asked u
LowersPackage held asked (Err fault) = FaultsPackage held asked [] fault

-- What becomes of the package that is to be checked.
abbrev pub JudgesPackage : (held : List ℕ → Option (List ℕ)) → PackageWords → Result ℕ TakingFault → Type 0
JudgesPackage held asked (Ok methods) = AcceptsHeld held asked methods
JudgesPackage held asked (Err fault) = FaultsPackage held asked [] fault

-- A package that is accepted, for bytes that its files hold, with the bytes of a script.
pub record IsReadied (held : List ℕ → Option (List ℕ)) (asked : PackageWords) (script : List ℕ) (ready : Ready) : Type 0 where
  pub files : List (List ℕ)
  pub hold : AreHeld held asked.files files
  pub accepted : IsAcceptedAs asked.package_name files (package_of ready.accepted.nodes)
  pub names : HasNames ready.accepted.nodes
  pub spelt : IsSpelt ready.accepted.nodes
  pub lawful : HasLawfulText (package_of ready.accepted.nodes)
  pub taken : TakesScript held script ready.script.items

-- What becomes of a package and a script that is to run over it.
abbrev pub ReadiesPackage : (held : List ℕ → Option (List ℕ)) → PackageWords → (script : List ℕ) → Result Ready TakingFault → Type 0
ReadiesPackage held asked script (Ok ready) = IsReadied held asked script ready
ReadiesPackage held asked script (Err fault) = FaultsPackage held asked (script ∷ []) fault

-- The same with the bytes of a text.
pub record IsReadiedText (held : List ℕ → Option (List ℕ)) (asked : PackageWords) (script text : List ℕ) (it : ReadyText) : Type 0 where
  pub readied : IsReadied held asked script it.ready
  pub taken : TakesScript held text it.text.items

abbrev pub ReadiesText : (held : List ℕ → Option (List ℕ)) → PackageWords → (script text : List ℕ) → Result ReadyText TakingFault → Type 0
ReadiesText held asked script text (Ok it) = IsReadiedText held asked script text it
ReadiesText held asked script text (Err fault) = FaultsPackage held asked (script ∷ text ∷ []) fault
