-- Calls of methods, in the words of the source's meaning.
use Rattle.std.specs.Prelude.{◌≡◌, ℕ, zero, suc, Bool, true, false, List, [], length, map, Option, None, Some, nat_eq, slice_get, option_map, unwrap_or, if◌then◌else◌}
use Rattle.turns.specs.Run.{Outcome, Got, More, Lost}
use Rattle.wf_text.specs.declared.numbers.MethodId.{MethodId}
use Rattle.wf_ast.specs.declared.typed_code.Callee.{Callee}
use Rattle.wf_ast.specs.declared.typed_code.Callee.TheVariants as callees
use Rattle.wf_ast.specs.declared.typed_nodes.TypedNodes.{TypedNodes}
use Rattle.wf_ast.specs.TypedTree.{Called as CalledTree, own, sub}
use Rattle.wf_ast.specs.TypedPackage.{MethodTree, package_of}
use Rattle.wf_ast.specs.Value.{Value}
use Rattle.wf_meaning.specs.Entry.{Answered}
use Rattle.wf_meaning.specs.World.{World}
use Rattle.wf_meaning.specs.SourceStep.{entered, through}
use Rattle.wf_mean_exprs.specs.declared.objects.Frame.{Frame}
use Rattle.wf_mean_exprs.specs.MachineState.{slot_seen, world_seen}
use Rattle.wf_mean_stmts.specs.declared.stage.Stage.{Stage}
use Rattle.wf_mean_stmts.specs.Entries.{answer_seen}
use Rattle.wf_mean_flows.specs.Flows.{calls_below}
use Rattle.wf_mean_runs.specs.declared.calls.Ran.{Ran}
use Rattle.wf_mean_runs.specs.declared.calls.Ran.TheVariants.{Answers, Out, Stuck}

abbrev pub is_number : Option ℕ → (m : ℕ) → Bool
is_number None m = false
is_number (Some n) m = nat_eq n m

-- Which of the first frames is that of the method `m`: they follow the package's order, in which a method's last place counts.
abbrev pub frame_of : TypedNodes → (level m : ℕ) → Option ℕ
frame_of nodes zero m = None
frame_of nodes (suc level) m = if is_number (slice_get nodes.order level) m then Some level else frame_of nodes level m

-- The arguments that stand in a frame.
abbrev pub args_in : List Frame → (at : ℕ) → List Value
args_in frames at = unwrap_or (option_map (λ (frame : Frame). map slot_seen frame.args.items) (slice_get frames at)) []

-- These arguments stand in the frame of the method, if it has one.
abbrev pub HoldArgs : TypedNodes → (below : List Frame) → (m : ℕ) → List Value → Type 0
HoldArgs nodes below m args = (at : ℕ) → frame_of nodes (length below) m ≡ Some at → args_in below at ≡ args

-- The struct states and the host's buffers and byte arrays on a stage.
abbrev pub world_on : TypedNodes → Stage → World
world_on nodes stage = world_seen nodes stage.objects.items stage.host

-- What a call comes to: an answer, with the turns that are left and the world then; or that it needs a turn more; or that it
-- is stuck.
abbrev pub ran_seen : TypedNodes → Ran → Stage → Outcome (Answered × World)
ran_seen nodes (Answers answer) stage = Got stage.turns (answer_seen answer, world_on nodes stage)
ran_seen nodes Out stage = More
ran_seen nodes Stuck stage = Lost

-- A call of the method `m` in a struct state has run.
abbrev pub Called : TypedNodes → (below : List Frame) → (m object : ℕ) → (old new : Stage) → Ran → Type 0
Called nodes below m object old new ran =
    (args : List Value) → HoldArgs nodes below m args
    → calls_below nodes (length below) (record { object = object; method = m; args = args }) old.turns (world_on nodes old) ≡ ran_seen nodes ran new

-- A call has run that passes the entry table; `fit` tells that its arguments fit.
abbrev pub Entered : TypedNodes → (below : List Frame) → (m object : ℕ) → (fit : Bool) → (old new : Stage) → Ran → Type 0
Entered nodes below m object fit old new ran =
    (callee : MethodTree) (args : List Value) → slice_get (package_of nodes).methods m ≡ Some callee → (fit ≡ true → HoldArgs nodes below m args)
    → entered (package_of nodes) (calls_below nodes (length below)) callee (record { object = object; method = m; args = args }) fit old.turns (world_on nodes old) (slice_get (world_on nodes old).objects object) ≡ ran_seen nodes ran new

-- A call of this method.
abbrev pub CallsMethod : Callee → MethodId → Type 0
CallsMethod (callees.Own n) m = n ≡ m
CallsMethod (callees.Sub x n) m = n ≡ m
CallsMethod (callees.Base on sig) m = ⊥

abbrev pub tree_called : Callee → CalledTree
tree_called (callees.Own n) = own n.0
tree_called (callees.Sub x n) = sub x.0 n.0
tree_called (callees.Base on sig) = own 0

-- A call of the method `m` that stands in a body has run.
abbrev pub Through : TypedNodes → (below : List Frame) → Callee → (m object : ℕ) → (old new : Stage) → Ran → Type 0
Through nodes below callee m object old new ran =
    (method : MethodTree) (args : List Value) → slice_get (package_of nodes).methods m ≡ Some method → HoldArgs nodes below m args
    → through (package_of nodes) (calls_below nodes (length below)) method (tree_called callee) (record { object = object; method = m; args = args }) old.turns (world_on nodes old) ≡ ran_seen nodes ran new
