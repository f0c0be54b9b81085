-- The C text of an accepted package, as it is written.
use Rattle.std.proofs.Common.{◌≡◌, ◌∙◌, ℕ, List, [], Option, IfOk, Result, string_bytes, sym, ap, subst}
use Rattle.wf_text.specs.declared.faults.NoMemory.{NoMemory as Wants}
use Rattle.c_text.specs.CGrammar.{IsTextOf}
use Rattle.c_text.specs.CLayout.{text_of}
use Rattle.c_text.specs.CNodes.{Nodes, unit_tree}
use Rattle.c_text.specs.CTree.{ItemTree}
use Rattle.wf_tool.specs.declared.ending.Ending.{Ending}
use Rattle.wf_tool.specs.declared.ending.Ending.TheVariants.{Done, Refused, Usage, InputFault, OutputFault, ScriptRefused, NoMemory, Turns, TextRefused, Undefined}
use Rattle.wf_tool.specs.declared.taking.TakingFault.{TakingFault}
use Rattle.wf_tool.specs.declared.taking.TakingFault.TheVariants as faults
use Rattle.wf_tool.specs.declared.tool.Answer.{Answer}
use Rattle.wf_tool.specs.Answer.{CallsForUnit, GenWrites, Writes}
use Rattle.wf_tool.specs.Taken.{LowersHeld}
use Rattle.wf_tool.specs.Told.{GenTold, IsFaultTold, IsTextOfUnit, IsTold}
use Rattle.wf_tool.specs.Words.{PackageWords}
use Rattle.wf_tool.proofs.FaultLines.{told-answer}

unit-called : (held : List ℕ → Option (List ℕ)) (asked : PackageWords) (unit : Nodes) → LowersHeld held asked unit → (ending : Ending) (text : List ℕ) → IsTextOfUnit unit ending text → CallsForUnit held asked text
unit-called held asked unit is ending text told = record { files = is.files; tree = is.tree; hold = is.hold; accepted = is.accepted; writes = told.1 ∙ ap text_of is.lowered }

-- The text of its unit is what `gen` calls for.
pub unit-told : (held : List ℕ → Option (List ℕ)) (failed : Option (List ℕ)) (asked : PackageWords) (before now : ℕ) → now ≡ before → (unit : Nodes) → LowersHeld held asked unit
    → (ending : Ending) (text : List ℕ) → IsTextOfUnit unit ending text → GenTold held failed asked before now ending text
unit-told held failed asked before now kept unit is ending text told =
    let C : Ending → Type 0 = λ e. GenTold held failed asked before now e text in
    subst C (sym told.0) (unit-called held asked unit is ending text told, kept)

module _ (held : List ℕ → Option (List ℕ)) (asked : PackageWords) (old new : Option (List ℕ)) (room : Option ℕ) where
  -- It is one of the C subset, of whose tree these laws hold.
  pub unit-lawful : (unit : Nodes) → LowersHeld held asked unit → IsTextOf (text_of (unit_tree unit)) (unit_tree unit) → (ending : Ending) → Writes (IsTextOfUnit unit) old new room ending → GenWrites held asked ending old new
  unfolding unit-called
  unit-lawful unit is spelt Done w =
      let T : List ItemTree → Type 0 = λ items. IsTextOf w.text items in
      let S : List ℕ → Type 0 = λ text. IsTextOf text (unit_tree unit) in
      record {
        text = w.text;
        called = unit-called held asked unit is Done w.text w.called;
        lawful = record {
          spelt = subst T is.lowered (subst S (sym w.called.1) spelt);
          form = is.lawful.lowered.form;
          shallow = is.lawful.lowered.shallow;
          forward = is.lawful.forward;
          loops = is.lawful.loops;
        };
        wrote = w.wrote;
      }
  unit-lawful unit is spelt Refused w = tt
  unit-lawful unit is spelt Usage w = tt
  unit-lawful unit is spelt InputFault w = tt
  unit-lawful unit is spelt OutputFault w = tt
  unit-lawful unit is spelt ScriptRefused w = tt
  unit-lawful unit is spelt NoMemory w = tt
  unit-lawful unit is spelt Turns w = tt
  unit-lawful unit is spelt TextRefused w = tt
  unit-lawful unit is spelt Undefined w = tt

  -- A fault is told with another ending.
  never-done : (names : List (List ℕ)) (fault : TakingFault) (text : List ℕ) → IsFaultTold names [] [] fault Done text → GenWrites held asked Done old new
  never-done names (faults.Refused refusal) text told = absurd (cc told.0)
  never-done names (faults.Failed number) text told = absurd (cc told.0)
  never-done names faults.Memory text told = absurd told

  pub fault-lawful : (names : List (List ℕ)) (fault : TakingFault) (answer : Result Answer Wants) → IfOk answer (λ it. IsFaultTold names [] [] fault it.ending (string_bytes it.line)) → (ending : Ending)
      → Writes (IsTold answer) old new room ending → GenWrites held asked ending old new
  fault-lawful names fault answer told Done w = never-done names fault w.text (told-answer (IsFaultTold names [] [] fault) answer told Done w.text w.called)
  fault-lawful names fault answer told Refused w = tt
  fault-lawful names fault answer told Usage w = tt
  fault-lawful names fault answer told InputFault w = tt
  fault-lawful names fault answer told OutputFault w = tt
  fault-lawful names fault answer told ScriptRefused w = tt
  fault-lawful names fault answer told NoMemory w = tt
  fault-lawful names fault answer told Turns w = tt
  fault-lawful names fault answer told TextRefused w = tt
  fault-lawful names fault answer told Undefined w = tt
