use Rattle.std.proofs.Common.{◌≡◌, ◌+◌, ◌*◌, ◌^◌, ℕ, Option, drop, length}
use Rattle.wf_meaning.specs.SourceState.{Behind, untouched, again}
use Rattle.wf_ast.specs.TypedTree.{Block}
use Rattle.wf_ast.specs.TypedTrees.{head_made, onto, otherwise_made, stmt_makers, tree_of}
use Rattle.wf_text.specs.declared.place.Place.{Place}
use Rattle.wf_meaning.specs.Remaining.{Items}
use Rattle.wf_mean_flows.specs.Flows.{StandsIn, block_made_of, inner_of, run_on, site_of}
use Rattle.wf_mean_runs.specs.Frames.{AreReady, Stays}
use Rattle.wf_mean_runs.proofs.running.+running.Given as goal
use Rattle.wf_mean_exprs.specs.MachineState.{done_seen, standing_at}
use Rattle.wf_mean_stmts.specs.declared.stage.Stage.{Stage}
use Rattle.wf_mean_flows.specs.declared.flows.Flow.{Flow}
use Rattle.wf_mean_runs.specs.Seeking.{SoughtBlock}

-- Callees run on fewer frames. On the same frames a search comes before the runs in it, a part of a statement has a smaller number,
-- and then it goes by the kind of the function.
abbrev pub decreases-run_stmt : goal.decreases-run_stmt
decreases-run_stmt l = 2 ^ 104 * length l.below.now + (16 * l.s.0 + 15)

abbrev pub decreases-run_block : goal.decreases-run_block
decreases-run_block l = 2 ^ 104 * length l.below.now + (16 * l.top)

abbrev pub decreases-run_if : goal.decreases-run_if
decreases-run_if l = 2 ^ 104 * length l.below.now + (16 * l.s.0 + 14)

abbrev pub decreases-run_while : goal.decreases-run_while
decreases-run_while l = 2 ^ 104 * length l.below.now + (16 * l.s.0 + 14)

abbrev pub decreases-run_rounds : goal.decreases-run_rounds
decreases-run_rounds l = 2 ^ 104 * length l.below.now + (16 * l.s.0 + 13)

abbrev pub decreases-run_call : goal.decreases-run_call
decreases-run_call l = 2 ^ 104 * length l.below.now + (16 * l.s.0 + 12)

abbrev pub decreases-run_invoke : goal.decreases-run_invoke
decreases-run_invoke l = 2 ^ 104 * length l.below.now + (16 * l.s.0 + 11)

abbrev pub decreases-run_through : goal.decreases-run_through
decreases-run_through l = 2 ^ 104 * length l.below.now + (3)

abbrev pub decreases-enter_method : goal.decreases-enter_method
decreases-enter_method l = 2 ^ 104 * length l.below.now + (2)

abbrev pub decreases-run_method : goal.decreases-run_method
decreases-run_method l = 2 ^ 104 * length l.below.now + (1)

abbrev pub decreases-run_in : goal.decreases-run_in
decreases-run_in l = 2 ^ 104 * length l.below.now + (2 ^ 103 + 1)

abbrev pub decreases-run_body : goal.decreases-run_body
decreases-run_body l = 2 ^ 104 * length l.below.now + (2 ^ 103)

abbrev pub decreases-seek_stmt : goal.decreases-seek_stmt
decreases-seek_stmt l = 2 ^ 104 * length l.below.now + (2 ^ 68 * l.s.0 + 16 * l.s.0 + 2 ^ 67)

abbrev pub decreases-seek_call : goal.decreases-seek_call
decreases-seek_call l = 2 ^ 104 * length l.below.now + (2 ^ 68 * l.s.0 + 16 * l.s.0 + 2 ^ 66)

abbrev pub decreases-seek_block : goal.decreases-seek_block
decreases-seek_block l = 2 ^ 104 * length l.below.now + (2 ^ 68 * l.top + 16 * l.top + 1)

abbrev pub decreases-seek_if : goal.decreases-seek_if
decreases-seek_if l = 2 ^ 104 * length l.below.now + (2 ^ 68 * l.s.0 + 16 * l.s.0 + 2 ^ 66)

abbrev pub decreases-seek_arms : goal.decreases-seek_arms
decreases-seek_arms l = 2 ^ 104 * length l.below.now + (2 ^ 68 * l.s.0 + 16 * l.s.0 + 2)

abbrev pub decreases-seek_while : goal.decreases-seek_while
decreases-seek_while l = 2 ^ 104 * length l.below.now + (2 ^ 68 * l.s.0 + 16 * l.s.0 + 2 ^ 66)

-- A run on the frames at the beginning is one from here.
abbrev pub invariant-run_block-loop-i : goal.invariant-run_block-loop-i
invariant-run_block-loop-i l =
    let all = block_made_of l.t (drop l.from l.block.items) in
    let left = block_made_of l.t (drop l.i l.block.items) in record {
      runs : (behind : Behind) → run_on l.t (length l.fn.below) l.fn.stage untouched all behind ≡ run_on l.t (length l.fn.below) l.stage untouched left behind;
      stands : (at : Place) (items : Items) (behind : Behind) → StandsIn at items left behind → StandsIn at items all behind;
      stays : Stays l.fn.below l.below l.fn.stage l.stage;
      ready : AreReady l.t l.below l.stage;
    }

abbrev pub invariant-run_rounds-loop-flow : goal.invariant-run_rounds-loop-flow
invariant-run_rounds-loop-flow l =
    let site = site_of l.t l.s in
    let head = head_made (tree_of l.t) (inner_of l.t l.s.0) l.it.head.now in
    let body = block_made_of l.t l.it.body.now.items in record {
      runs : (rest : Block) (behind : Behind) → run_on l.t (length l.fn.below) l.fn.stage untouched body (again site head body rest behind) ≡ run_on l.t (length l.fn.below) l.stage untouched body (again site head body rest behind);
      stays : Stays l.fn.below l.below l.fn.stage l.stage;
      ready : AreReady l.t l.below l.stage;
    }

abbrev pub decreases-run_rounds-loop-flow : goal.decreases-run_rounds-loop-flow
decreases-run_rounds-loop-flow l = l.stage.turns

-- The statements so far hold no such point.
abbrev pub invariant-seek_block-loop-i : goal.invariant-seek_block-loop-i
invariant-seek_block-loop-i l =
    let all = block_made_of l.t l.block.items in
    let left = block_made_of l.t (drop l.i l.block.items) in record {
      so_far : (behind : Behind) → standing_at l.point.at all behind ≡ standing_at l.point.at left behind;
      stands : (at : Place) (items : Items) (behind : Behind) → StandsIn at items left behind → StandsIn at items all behind;
      same : l.stage ≡ l.fn.stage;
      stays : Stays l.fn.below l.below l.fn.stage l.stage;
      ready : AreReady l.t l.below l.stage;
    }

-- What is found from the arm `i` on is found after the first.
abbrev pub invariant-seek_arms-loop-i : goal.invariant-seek_arms-loop-i
invariant-seek_arms-loop-i l =
    let level = length l.fn.below in
    let done = done_seen l.point.done in
    let from : ℕ → Block = λ i. otherwise_made (tree_of l.t) (onto (stmt_makers l.t)) (site_of l.t l.s) (drop i l.it.arms.now) l.it.otherwise.now in record {
      so_far : (found : Option Flow) (new : Stage) → SoughtBlock l.t level l.point.at done (from l.i) l.fn.stage found new → SoughtBlock l.t level l.point.at done (from 1) l.fn.stage found new;
      same : l.stage ≡ l.fn.stage;
      stays : Stays l.fn.below l.below l.fn.stage l.stage;
      ready : AreReady l.t l.below l.stage;
    }
