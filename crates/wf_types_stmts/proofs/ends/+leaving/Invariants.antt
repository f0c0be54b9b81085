use Rattle.std.proofs.Common.{◌≡◌, ◌+◌, ◌*◌, max, drop}
use Rattle.wf_ast.specs.Above.{above_block, above_else, above_arms}
use Rattle.wf_named.specs.NamedTrees.{expr_trees, stmt_trees, items_at, block_at, else_at, arms_at}
use Rattle.wf_types_rules.specs.Judgements.{block_leaves, arms_leave}
use Rattle.wf_types_stmts.proofs.ends.+leaving.Given as goal

abbrev pub decreases-stmt_leaves : goal.decreases-stmt_leaves
decreases-stmt_leaves l = 4 * l.s.0 + 3

abbrev pub decreases-block_leaves : goal.decreases-block_leaves
decreases-block_leaves l = 4 * above_block l.block.now

abbrev pub decreases-else_leaves : goal.decreases-else_leaves
decreases-else_leaves l = 4 * above_else l.otherwise.now + 1

abbrev pub decreases-arms_leave : goal.decreases-arms_leave
decreases-arms_leave l = 4 * max (above_arms l.arms.now) (above_else l.otherwise.now) + 2

-- What is left, from here, comes to the whole.
abbrev pub invariant-block_leaves-loop-s : goal.invariant-block_leaves-loop-s
invariant-block_leaves-loop-s l =
    block_leaves l.outwards (items_at (stmt_trees l.nodes.texts l.nodes.exprs l.nodes.stmts) (drop l.s-index l.block.items) l.block.close)
    ≡ block_leaves l.outwards (block_at (stmt_trees l.nodes.texts l.nodes.exprs l.nodes.stmts) l.block)

abbrev pub invariant-arms_leave-loop-arm : goal.invariant-arms_leave-loop-arm
invariant-arms_leave-loop-arm l =
    let ts = stmt_trees l.nodes.texts l.nodes.exprs l.nodes.stmts in
    arms_leave l.outwards (arms_at (expr_trees l.nodes.exprs) ts (drop l.arm-index l.arms) (else_at ts l.otherwise))
    ≡ arms_leave l.outwards (arms_at (expr_trees l.nodes.exprs) ts l.arms (else_at ts l.otherwise))
