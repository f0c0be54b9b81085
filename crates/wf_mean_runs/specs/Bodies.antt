-- The run of a whole body, and what is kept of it between calls, in the words of the source's meaning.
use Rattle.std.specs.Prelude.{◌≡◌, ⊤, ℕ, List, length, map, Option, None, Some, Bool, option_map, option_and_then, slice_get, if◌then◌else◌}
use Rattle.turns.specs.Run.{Outcome}
use Rattle.wf_text.specs.declared.place.Place.{Place}
use Rattle.wf_ast.specs.declared.typed_nodes.TypedNodes.{TypedNodes}
use Rattle.wf_ast.specs.TypedPackage.{MethodTree, PackageTree}
use Rattle.wf_ast.specs.Value.{Value}
use Rattle.wf_meaning.specs.SourceState.{Remaining, stop}
use Rattle.wf_meaning.specs.World.{World}
use Rattle.wf_meaning.specs.SourceStep.{Call, Ending}
use Rattle.wf_meaning.specs.SourceCall.{begins, remaining_of, taken_up}
use Rattle.wf_mean_exprs.specs.declared.objects.KeptBody.{KeptBody}
use Rattle.wf_mean_exprs.specs.declared.objects.ObjectState.{ObjectState}
use Rattle.wf_mean_exprs.specs.declared.objects.Progress.{Progress}
use Rattle.wf_mean_exprs.specs.declared.values.Slot.{Slot}
use Rattle.wf_mean_exprs.specs.declared.values.Slot.TheVariants as slots
use Rattle.wf_mean_exprs.specs.MachineState.{done_seen, remaining_seen, slot_seen, standing_at}
use Rattle.wf_mean_stmts.specs.declared.stage.Stage.{Stage}
use Rattle.wf_mean_stmts.specs.Stages.{body_on}
use Rattle.wf_mean_flows.specs.Flows.{calls_below, goes}
use Rattle.wf_mean_runs.specs.Calls.{world_on}

-- The call whose body is on a stage.
abbrev pub call_on : Stage → Call
call_on stage = record { object = stage.frame.object; method = stage.frame.method.0; args = map slot_seen stage.frame.args.items }

-- The run of the body on a stage, from where it goes on, or from its beginning.
abbrev pub whole_run : TypedNodes → (level : ℕ) → Stage → Outcome (Ending × World)
whole_run nodes level stage =
    goes (body_on nodes stage) (calls_below nodes level) stage.turns (begins (body_on nodes stage).method (taken_up (call_on stage) (world_on nodes stage)) (remaining_of (world_on nodes stage) (call_on stage)))

-- What is kept of a method in a struct state.
abbrev pub kept_in : List ObjectState → (object m : ℕ) → Option KeptBody
kept_in objects object m = option_and_then (λ (o : ObjectState). slice_get o.kept.items m) (slice_get objects object)

-- What is kept of the method has room for so many locals.
abbrev pub HasRoom : Option KeptBody → (locals : ℕ) → Type 0
HasRoom None locals = ⊤
HasRoom (Some kept) locals = length kept.locals.items ≡ locals

-- What remains of the method `m` that has suspended at a place, where the statement has done so much, with these locals.
abbrev pub remaining_at : PackageTree → (m : ℕ) → Place → Progress → List Value → Option Remaining
remaining_at p m at done locals =
    option_and_then (λ (method : MethodTree). option_map
    (λ items. record { done = done_seen done; block = items.block; behind = items.behind; locals = locals })
    (standing_at at method.body stop)) (slice_get p.methods m)

abbrev pub remaining_taken : PackageTree → (m : ℕ) → Option (Place × Progress) → List Value → Option Remaining
remaining_taken p m None locals = None
remaining_taken p m (Some taken) locals = remaining_at p m taken.0 taken.1 locals

-- What is kept of a method is taken up: its point with what has been done there, and its locals.
abbrev pub TakesUp : Option (Place × Progress) → (locals : List Slot) → Option KeptBody → Type 0
TakesUp taken locals kept = (p : PackageTree) (m : ℕ) → option_and_then (remaining_seen p m) kept ≡ remaining_taken p m taken (map slot_seen locals)

-- What a method answers whose body comes to its end.
abbrev pub end_value : (coroutine : Bool) → Option Slot
end_value coroutine = if coroutine then Some (slots.Status 0) else None
