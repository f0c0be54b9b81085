-- Which block of an `if` runs.
use Rattle.std.specs.Prelude.{ℕ, zero, suc, Bool, true, false, List, [], ◌∷◌, Option, None, Some, option_map}
use Rattle.wf_ast.specs.declared.typed_code.Arm.{Arm}
use Rattle.wf_ast.specs.declared.typed_code.Block as typed_code
use Rattle.wf_ast.specs.declared.typed_nodes.TypedNodes.{TypedNodes}
use Rattle.wf_ast.specs.TypedTree.{Block, end}
use Rattle.wf_ast.specs.TypedTrees.{cond_in, tree_of}
use Rattle.wf_ast.specs.Value.{truth_of}
use Rattle.wf_mean_stmts.specs.declared.stage.Stage.{Stage}
use Rattle.wf_mean_stmts.specs.Stages.{sight_on}
use Rattle.wf_mean_flows.specs.Flows.{block_made_of}

-- By the condition of an arm; `more` is what those after it come to.
abbrev pub by_truth : Option Bool → (more : Option ℕ) → Option ℕ
by_truth None more = None
by_truth (Some true) more = Some 0
by_truth (Some false) more = option_map (λ i. suc i) more

-- The number of the first arm whose condition is true, or how many arms there are; None where a condition is stuck.
abbrev pub picked : TypedNodes → Stage → List Arm → Option ℕ
picked nodes stage [] = Some 0
picked nodes stage (arm ∷ arms) = by_truth (truth_of (sight_on nodes stage) (cond_in (tree_of nodes arm.cond))) (picked nodes stage arms)

-- The block of an `else`, which is empty where there is none.
abbrev pub else_block : TypedNodes → Option typed_code.Block → Block
else_block nodes None = end
else_block nodes (Some block) = block_made_of nodes block.items

-- The block with this number: an arm's, or what stands after the last `else`.
abbrev pub block_picked : TypedNodes → List Arm → Option typed_code.Block → ℕ → Block
block_picked nodes [] other i = else_block nodes other
block_picked nodes (arm ∷ arms) other zero = block_made_of nodes arm.body.items
block_picked nodes (arm ∷ arms) other (suc i) = block_picked nodes arms other i
