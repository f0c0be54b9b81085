-- The search for the point at a place.
use Rattle.std.specs.Prelude.{ℕ, Option}
use Rattle.wf_text.specs.declared.place.Place.{Place}
use Rattle.wf_ast.specs.declared.typed_nodes.TypedNodes.{TypedNodes}
use Rattle.wf_ast.specs.TypedTree.{Block, end}
use Rattle.wf_meaning.specs.SourceState.{Behind, Done}
use Rattle.wf_mean_stmts.specs.declared.stage.Stage.{Stage}
use Rattle.wf_mean_flows.specs.declared.flows.Flow.{Flow}
use Rattle.wf_mean_flows.specs.Flows.{Sought}

-- In a part of a body, given as what it makes of the rest; whatever follows it.
abbrev pub SoughtIn : TypedNodes → (level : ℕ) → (at : Place) → Done → (part : Block → Block) → Stage → Option Flow → Stage → Type 0
SoughtIn nodes level at done part old found new = (rest : Block) (behind : Behind) → Sought nodes level at done (part rest) rest behind old found new

-- In a whole block.
abbrev pub SoughtBlock : TypedNodes → (level : ℕ) → (at : Place) → Done → Block → Stage → Option Flow → Stage → Type 0
SoughtBlock nodes level at done block old found new = (behind : Behind) → Sought nodes level at done block end behind old found new
