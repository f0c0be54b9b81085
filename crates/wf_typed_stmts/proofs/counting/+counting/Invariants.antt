use Rattle.std.proofs.Common.{◌≡◌, ◌+◌, ◌*◌, max, drop}
use Rattle.wf_ast.specs.Above.{above_block, above_else, above_arms}
use Rattle.wf_named.specs.NamedTrees.{expr_trees, stmt_trees, items_at, block_at, else_at, arms_at}
use Rattle.wf_typed_tree.specs.ElaboratedStmts.{count_block, count_arms}
use Rattle.wf_typed_stmts.proofs.counting.+counting.Given as goal

abbrev pub decreases-count_stmt : goal.decreases-count_stmt
decreases-count_stmt l = 4 * l.s.0 + 3

abbrev pub decreases-count_block : goal.decreases-count_block
decreases-count_block l = 4 * above_block l.block.now

abbrev pub decreases-count_else : goal.decreases-count_else
decreases-count_else l = 4 * above_else l.otherwise.now + 1

abbrev pub decreases-count_arms : goal.decreases-count_arms
decreases-count_arms l = 4 * max (above_arms l.arms.now) (above_else l.otherwise.now) + 2

-- What is left, from here, comes to the whole.
abbrev pub invariant-count_block-loop-s : goal.invariant-count_block-loop-s
invariant-count_block-loop-s l =
    l.count + count_block (items_at (stmt_trees l.named.texts l.named.exprs l.named.stmts) (drop l.s-index l.block.items) l.block.close)
    ≡ count_block (block_at (stmt_trees l.named.texts l.named.exprs l.named.stmts) l.block)

abbrev pub invariant-count_arms-loop-arm : goal.invariant-count_arms-loop-arm
invariant-count_arms-loop-arm l =
    let ts = stmt_trees l.named.texts l.named.exprs l.named.stmts in
    l.count + count_arms (arms_at (expr_trees l.named.exprs) ts (drop l.arm-index l.arms) (else_at ts l.otherwise))
    ≡ count_arms (else_at ts l.otherwise) + count_arms (arms_at (expr_trees l.named.exprs) ts l.arms (else_at ts l.otherwise))
