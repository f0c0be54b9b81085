-- The source's machine: its receivers in the words of the meaning, and what stays of them and of the frames from call to call.
use Rattle.std.specs.Prelude.{◌≡◌, ℕ, Bool, List, map, Option, None, Some, All, if◌then◌else◌}
use Rattle.turns.specs.Run.{Outcome as Ended, Got, More, Lost}
use Rattle.wf_ast.specs.declared.typed_nodes.TypedNodes.{TypedNodes}
use Rattle.wf_ast.specs.TypedPackage.{PackageTree, package_of}
use Rattle.wf_bufs.specs.SurfaceViews.{receiver_of}
use Rattle.wf_bufs.specs.declared.bufs.Bufs.{Bufs}
use Rattle.wf_bufs.specs.declared.outcomes.Outcome.{Outcome}
use Rattle.wf_bufs.specs.declared.outcomes.Reply.{Reply}
use Rattle.wf_bufs.specs.declared.outcomes.Reply.TheVariants.{Done, Undefined}
use Rattle.wf_meaning.specs.SourceState.{Object, SourceState}
use Rattle.wf_meaning.specs.Entry.{Answered}
use Rattle.wf_meaning.specs.World.{World}
use Rattle.wf_mean_exprs.specs.declared.objects.Frame.{Frame}
use Rattle.wf_mean_exprs.specs.declared.objects.ObjectState.{ObjectState}
use Rattle.wf_mean_exprs.specs.MachineState.{object_seen, world_seen}
use Rattle.wf_mean_stmts.specs.Entries.{answer_seen}
use Rattle.wf_mean_stmts.specs.Stages.{kept_lengths}
use Rattle.wf_mean_runs.specs.declared.calls.Ran.{Ran}
use Rattle.wf_mean_runs.specs.declared.calls.Ran.TheVariants.{Answers, Out, Stuck}
use Rattle.wf_mean_runs.specs.Frames.{local_counts, sizes_for, sizes_of}
use Rattle.wf_mean.specs.SourceEngines.{EngineState}
use Rattle.wf_mean.specs.declared.receivers.ReceiverState.{ReceiverState}
use Rattle.wf_mean.specs.declared.machine.Machine.{Machine}

-- A receiver; a null one has no struct states.
abbrev pub objects_seen : PackageTree → (null : Bool) → List ObjectState → Option (List Object)
objects_seen p null objects = if null then None else Some (map (object_seen p) objects)

abbrev pub receiver_seen : PackageTree → ReceiverState → Option (List Object)
receiver_seen p r = objects_seen p r.decl.null r.objects.items

abbrev pub receivers_seen : PackageTree → List ReceiverState → SourceState
receivers_seen p receivers = map (receiver_seen p) receivers

-- Each struct state keeps as many locals of each method as it has.
abbrev pub KeepAll : TypedNodes → List ObjectState → Type 0
KeepAll nodes objects = All (λ counts. counts ≡ local_counts nodes) (map kept_lengths objects)

abbrev pub ReceiversKeepAll : TypedNodes → List ReceiverState → Type 0
ReceiversKeepAll nodes receivers = All (λ r. KeepAll nodes r.objects.items) receivers

-- There is a frame for each method, in the order of calls.
abbrev pub AreFrames : TypedNodes → List Frame → Type 0
AreFrames nodes frames = map sizes_of frames ≡ map (sizes_for nodes) nodes.order

-- The frames and the struct states of a machine are as they stay.
pub record IsReady (nodes : TypedNodes) (machine : Machine) : Type 0 where
  pub frames : AreFrames nodes machine.room.frames.items
  pub kept : ReceiversKeepAll nodes machine.receivers.items

-- An engine as other crates see it: the package's nodes, its receivers, and whether it has stopped.
pub record EngineView : Type 0 where
  pub nodes : TypedNodes
  pub receivers : List ReceiverState
  pub stopped : Bool

-- The same in the words of the meaning.
abbrev pub state_seen : EngineView → EngineState
state_seen v =
    record { package_tree = package_of v.nodes; receivers = map (λ (r : ReceiverState). receiver_of r.decl) v.receivers; objects = receivers_seen (package_of v.nodes) v.receivers; stopped = v.stopped }

-- What a call from the host has come to, with the struct states of its receiver and the host's buffers and byte arrays then.
abbrev pub RanTo : TypedNodes → Ran → List ObjectState → Bufs → Ended (Answered × World) → Type 0
RanTo nodes (Answers answer) objects host o = (left : ℕ) × (o ≡ Got left (answer_seen answer, world_seen nodes objects host))
RanTo nodes Out objects host o = o ≡ More
RanTo nodes Stuck objects host o = o ≡ Lost

-- The reply with an outcome, where there is one.
abbrev pub reply_if : Option Outcome → Reply
reply_if None = Undefined
reply_if (Some outcome) = Done outcome
