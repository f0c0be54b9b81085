use Rattle.std.proofs.Common.{◌≡◌, ◌+◌, ◌*◌, max, drop}
use Rattle.wf_ast.specs.ParsedTrees.{expr_trees, stmt_trees, items_at, arms_at, else_at}
use Rattle.wf_ast.specs.Above.{above_block, above_else, above_arms}
use Rattle.wf_names_rules.specs.Uses.{block_uses, arm_uses}
use Rattle.wf_names_rules.specs.Jumps.{block_jumps, arm_jumps, jumped}
use Rattle.wf_names_rules.specs.Here.{known_here}
use Rattle.wf_names_rules.specs.Judged.{walked}
use Rattle.wf_names_rules.specs.Called.{with_calls}
use Rattle.wf_names_rules.proofs.walk_stmts.+walk_stmts.Given as goal

abbrev pub decreases-walk_stmt : goal.decreases-walk_stmt
decreases-walk_stmt l = 4 * l.s.0 + 3

abbrev pub decreases-walk_loop : goal.decreases-walk_loop
decreases-walk_loop l = 4 * above_block l.body.now + 1

abbrev pub decreases-walk_block : goal.decreases-walk_block
decreases-walk_block l = 4 * above_block l.block.now

abbrev pub decreases-walk_arm : goal.decreases-walk_arm
decreases-walk_arm l = 4 * above_block l.arm.now.body + 1

abbrev pub decreases-walk_else : goal.decreases-walk_else
decreases-walk_else l = 4 * above_else l.otherwise.now + 1

abbrev pub decreases-walk_arms : goal.decreases-walk_arms
decreases-walk_arms l = 4 * max (above_arms l.arms.now) (above_else l.otherwise.now) + 2

abbrev pub invariant-walk_block-loop-s : goal.invariant-walk_block-loop-s
invariant-walk_block-loop-s l =
    (walked (known_here l.here) l.seen (block_uses (items_at (stmt_trees l.here.parsed.now.exprs l.here.parsed.now.stmts) (drop l.s-index l.block.items) l.block.close))
    ≡ walked (known_here l.here) l.fn.seen (block_uses (items_at (stmt_trees l.here.parsed.now.exprs l.here.parsed.now.stmts) l.block.items l.block.close)))
    × (with_calls (known_here l.here) l.gathered.row (block_uses (items_at (stmt_trees l.here.parsed.now.exprs l.here.parsed.now.stmts) (drop l.s-index l.block.items) l.block.close))
    ≡ with_calls (known_here l.here) l.fn.gathered.row (block_uses (items_at (stmt_trees l.here.parsed.now.exprs l.here.parsed.now.stmts) l.block.items l.block.close)))
    × (jumped l.here.parsed.now.texts l.gathered.labels (block_jumps l.fn.gathered.loops.items (items_at (stmt_trees l.here.parsed.now.exprs l.here.parsed.now.stmts) (drop l.s-index l.block.items) l.block.close))
    ≡ jumped l.here.parsed.now.texts l.fn.gathered.labels (block_jumps l.fn.gathered.loops.items (items_at (stmt_trees l.here.parsed.now.exprs l.here.parsed.now.stmts) l.block.items l.block.close)))
    × (l.gathered.loops.items ≡ l.fn.gathered.loops.items)

abbrev pub invariant-walk_arms-loop-arm : goal.invariant-walk_arms-loop-arm
invariant-walk_arms-loop-arm l =
    (walked (known_here l.here) l.seen (arm_uses (arms_at (expr_trees l.here.parsed.now.exprs) (stmt_trees l.here.parsed.now.exprs l.here.parsed.now.stmts) (drop l.arm-index l.arms) (else_at (stmt_trees l.here.parsed.now.exprs l.here.parsed.now.stmts) l.otherwise)))
    ≡ walked (known_here l.here) l.fn.seen (arm_uses (arms_at (expr_trees l.here.parsed.now.exprs) (stmt_trees l.here.parsed.now.exprs l.here.parsed.now.stmts) l.arms (else_at (stmt_trees l.here.parsed.now.exprs l.here.parsed.now.stmts) l.otherwise))))
    × (with_calls (known_here l.here) l.gathered.row (arm_uses (arms_at (expr_trees l.here.parsed.now.exprs) (stmt_trees l.here.parsed.now.exprs l.here.parsed.now.stmts) (drop l.arm-index l.arms) (else_at (stmt_trees l.here.parsed.now.exprs l.here.parsed.now.stmts) l.otherwise)))
    ≡ with_calls (known_here l.here) l.fn.gathered.row (arm_uses (arms_at (expr_trees l.here.parsed.now.exprs) (stmt_trees l.here.parsed.now.exprs l.here.parsed.now.stmts) l.arms (else_at (stmt_trees l.here.parsed.now.exprs l.here.parsed.now.stmts) l.otherwise))))
    × (jumped l.here.parsed.now.texts l.gathered.labels (arm_jumps l.fn.gathered.loops.items (arms_at (expr_trees l.here.parsed.now.exprs) (stmt_trees l.here.parsed.now.exprs l.here.parsed.now.stmts) (drop l.arm-index l.arms) (else_at (stmt_trees l.here.parsed.now.exprs l.here.parsed.now.stmts) l.otherwise)))
    ≡ jumped l.here.parsed.now.texts l.fn.gathered.labels (arm_jumps l.fn.gathered.loops.items (arms_at (expr_trees l.here.parsed.now.exprs) (stmt_trees l.here.parsed.now.exprs l.here.parsed.now.stmts) l.arms (else_at (stmt_trees l.here.parsed.now.exprs l.here.parsed.now.stmts) l.otherwise))))
    × (l.gathered.loops.items ≡ l.fn.gathered.loops.items)
