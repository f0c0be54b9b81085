use Rattle.std.proofs.Common.{◌≡◌, ◌+◌, ◌*◌, max, drop}
use Rattle.wf_ast.specs.Above.{above_block, above_else, above_arms}
use Rattle.wf_named.specs.NamedTrees.{expr_trees, stmt_trees, items_at, block_at, else_at, arms_at}
use Rattle.wf_types_rules.specs.Judgements.{block_stops, arms_stop}
use Rattle.wf_types_stmts.proofs.ends.+stopping.Given as goal

abbrev pub decreases-stmt_stops : goal.decreases-stmt_stops
decreases-stmt_stops l = 4 * l.s.0 + 3

abbrev pub decreases-block_stops : goal.decreases-block_stops
decreases-block_stops l = 4 * above_block l.block.now

abbrev pub decreases-else_stops : goal.decreases-else_stops
decreases-else_stops l = 4 * above_else l.otherwise.now + 1

abbrev pub decreases-arms_stop : goal.decreases-arms_stop
decreases-arms_stop l = 4 * max (above_arms l.arms.now) (above_else l.otherwise.now) + 2

-- What is left, from here, comes to the whole.
abbrev pub invariant-block_stops-loop-s : goal.invariant-block_stops-loop-s
invariant-block_stops-loop-s l =
    block_stops (items_at (stmt_trees l.nodes.texts l.nodes.exprs l.nodes.stmts) (drop l.s-index l.block.items) l.block.close)
    ≡ block_stops (block_at (stmt_trees l.nodes.texts l.nodes.exprs l.nodes.stmts) l.block)

abbrev pub invariant-arms_stop-loop-arm : goal.invariant-arms_stop-loop-arm
invariant-arms_stop-loop-arm l =
    let ts = stmt_trees l.nodes.texts l.nodes.exprs l.nodes.stmts in
    arms_stop (arms_at (expr_trees l.nodes.exprs) ts (drop l.arm-index l.arms) (else_at ts l.otherwise))
    ≡ arms_stop (arms_at (expr_trees l.nodes.exprs) ts l.arms (else_at ts l.otherwise))
