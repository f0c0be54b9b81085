-- What is run over the engine that a loader makes of a text is what is seen of the text.
use Rattle.std.proofs.Common.{◌≡◌, ◌∙◌, ℕ, List, [], ◌∷◌, take, Option, Some, Result, Ok, Err, sym, ap, subst}
use Rattle.std.specs.Prelude.{slice_get}
use Rattle.wf_text.specs.HostActions.{HostAction, Receiver}
use Rattle.wf_text.specs.Surface.{Surface}
use Rattle.wf_base.specs.BaseOps.{Buffer}
use Rattle.wf_base.specs.HostRun.{Steps, empty_host, run}
use Rattle.wf_base.specs.LawfulActions.{AreDeclared, AreLawful}
use Rattle.wf_ast.specs.BaseStatuses.{base_statuses}
use Rattle.wf_ast.specs.declared.typed_nodes.TypedNodes.{TypedNodes}
use Rattle.wf_ast.specs.TypedInvariant.{IsTyped}
use Rattle.wf_ast.specs.TypedPackage.{package_of, surface_of}
use Rattle.c_text.specs.CTree.{ItemTree}
use Rattle.c_step.specs.Loading.{SeenOf}
use Rattle.wf_script_rules.specs.Report.{report_of}
use Rattle.wf_script_rules.specs.Scripts.{Script, actions_of, script_of}
use Rattle.wf_script_drive.specs.declared.driving.DriveEnd.{DriveEnd}
use Rattle.wf_script_drive.specs.Lawful.{HasOwnNumbers, IsScript}
use Rattle.wf_script_drive.proofs.Numbers.{own_numbers}
use Rattle.wf_script_drive.proofs.Scripts.{script_sound, script_lawful}
use Rattle.wf_tool_runs.specs.declared.prepared.Prepared.{Prepared}
use Rattle.wf_tool_runs.specs.declared.texts.RunFault.{RunFault}
use Rattle.wf_tool_runs.specs.declared.texts.RunFault.TheVariants as faults
use Rattle.wf_tool_runs.specs.Runs.{IsPrepared, report_over}
use Rattle.wf_tool_runs.specs.Units.{RunsRead, RunsText, text_report}

-- The first status of a package's surface is ok, whose text is empty.
first_status : (nodes : TypedNodes) → IsTyped nodes → slice_get (surface_of (package_of nodes)).statuses 0 ≡ Some []
unfolding package_of surface_of
first_status nodes typed = by nodes.statuses typed.base_first
  where
    by : (xs : List (List ℕ)) → take 10 xs ≡ base_statuses → slice_get xs 0 ≡ Some []
    by [] e = absurd (cc (e))
    by (x ∷ xs) e = let first : x ≡ [] = cc (e) in ap Some first

-- A script that was read over a package's surface.
pub prepared : (nodes : TypedNodes) → IsTyped nodes → (it : Prepared) → it.surface ≡ surface_of (package_of nodes) → IsScript it.surface it.script → IsPrepared it
prepared nodes typed it told is = record {
  ok = ap (λ (s : Surface). slice_get s.statuses 0) told ∙ first_status nodes typed;
  numbers = subst HasOwnNumbers (sym told) (own_numbers (package_of nodes));
  script = is;
}

module _ (it : Prepared) (is : IsPrepared it) (receivers : List Receiver) (same : receivers ≡ it.script.declared.receivers) where
  pub are-declared : AreDeclared it.surface receivers
  are-declared = subst (AreDeclared it.surface) (sym same) (script_sound it.surface it.script is.numbers is.script).sound.receivers

  are-lawful : AreLawful it.surface receivers 0 0 (actions_of it.script)
  are-lawful =
      let L : List Receiver → Type 0 = λ rs. AreLawful it.surface rs 0 0 (actions_of it.script) in
      subst L (sym same) (script_lawful it.surface it.script is.numbers is.script)

  pub report-seen : {State : Type 0} (seen : SeenOf) (items : List ItemTree) (steps : Steps State) (state : State)
      → ((actions : List (HostAction Buffer)) → AreLawful it.surface receivers 0 0 actions → run steps state empty_host actions ≡ seen items it.surface receivers actions)
      → report_over steps state it.surface it.script ≡ text_report seen items it.surface it.script
  report-seen seen items steps state runs =
      let named = ap (λ (rs : List Receiver). seen items it.surface rs (actions_of it.script)) same in
      ap (report_of it.surface it.script) (runs (actions_of it.script) are-lawful ∙ named)

-- A script that was read runs over a text as its bytes do.
pub bytes-run : (seen : SeenOf) (surface : Surface) (bytes text : List ℕ) (old new : Option (List ℕ)) (room left : Option ℕ) (script : Script) → script_of surface bytes ≡ Ok script
    → (result : Result DriveEnd RunFault) → RunsRead seen surface script text old new room left result → RunsText seen surface bytes text old new room left result
bytes-run seen surface bytes text old new room left script reads (Ok end) runs = record { script = script; reads = reads; runs = runs }
bytes-run seen surface bytes text old new room left script reads (Err (faults.Script line rule)) runs = absurd runs
bytes-run seen surface bytes text old new room left script reads (Err (faults.Text fault)) runs = record { script = script; reads = reads; runs = runs }
bytes-run seen surface bytes text old new room left script reads (Err faults.Memory) runs = runs
