-- The frames of the bodies that may be called, and what stays of a stage while a part of a body runs.
use Rattle.std.specs.Prelude.{◌≡◌, ◌≤◌, ℕ, Bool, true, false, List, [], length, map, take, All, option_map, slice_get, unwrap_or}
use Rattle.wf_ast.specs.declared.declarations.Method.{Method}
use Rattle.wf_ast.specs.declared.declarations.Var.{Var}
use Rattle.wf_ast.specs.declared.typed_nodes.TypedNodes.{TypedNodes}
use Rattle.wf_mean_exprs.specs.declared.objects.Frame.{Frame}
use Rattle.wf_mean_stmts.specs.declared.stage.Stage.{Stage}
use Rattle.wf_mean_stmts.specs.Stages.{shape, kept_lengths}
use Rattle.wf_mean_flows.specs.declared.flows.Flow.{Flow}
use Rattle.wf_mean_flows.specs.declared.flows.Flow.TheVariants.{Falls}

-- How many locals and arguments a frame has.
pub record Sizes : Type 0 where
  pub locals : ℕ
  pub args : ℕ

abbrev pub sizes_of : Frame → Sizes
sizes_of frame = record { locals = length frame.locals.items; args = length frame.args.items }

-- The locals and the arguments of the method with this number.
abbrev pub locals_of : TypedNodes → ℕ → List Var
locals_of nodes m = unwrap_or (option_map (λ (it : Method). it.locals) (slice_get nodes.methods m)) []

abbrev pub args_of : TypedNodes → ℕ → List Var
args_of nodes m = unwrap_or (option_map (λ (it : Method). it.args) (slice_get nodes.methods m)) []

abbrev pub sizes_for : TypedNodes → ℕ → Sizes
sizes_for nodes m = record { locals = length (locals_of nodes m); args = length (args_of nodes m) }

-- How many locals each method has.
abbrev pub local_counts : TypedNodes → List ℕ
local_counts nodes = map (λ (it : Method). length it.locals) nodes.methods

-- The frames below are those of the first methods in the package's order, and each struct state keeps as many locals of each
-- method as it has.
pub record AreReady (nodes : TypedNodes) (below : List Frame) (stage : Stage) : Type 0 where
  pub frames : map sizes_of below ≡ map (sizes_for nodes) (take (length below) nodes.order)
  pub level : length below ≤ length nodes.order
  pub kept : All (λ counts. counts ≡ local_counts nodes) (map kept_lengths stage.objects.items)

-- What stays while a part of a body runs.
pub record Stays (below below' : List Frame) (stage stage' : Stage) : Type 0 where
  pub count : length below' ≡ length below
  pub frames : map sizes_of below' ≡ map sizes_of below
  pub shape : shape stage' ≡ shape stage
  pub fewer : stage'.turns ≤ stage.turns

-- A part has run to its end.
abbrev pub is_falls : Flow → Bool
is_falls Falls = true
is_falls flow = false
