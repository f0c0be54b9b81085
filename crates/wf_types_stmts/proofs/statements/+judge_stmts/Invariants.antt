use Rattle.std.proofs.Common.{◌≡◌, ◌+◌, ◌*◌, max, drop}
use Rattle.wf_ast.specs.Above.{above_block, above_else, above_arms}
use Rattle.wf_named.specs.NamedTrees.{expr_trees, stmt_trees, items_at, block_at, else_at, arms_at}
use Rattle.wf_types_rules.specs.Parts.{block_parts, arms_parts}
use Rattle.wf_types_exprs.specs.Judged.{judged}
use Rattle.wf_types_stmts.proofs.statements.+judge_stmts.Given as goal

abbrev pub decreases-judge_stmt : goal.decreases-judge_stmt
decreases-judge_stmt l = 4 * l.s.0 + 3

abbrev pub decreases-judge_block : goal.decreases-judge_block
decreases-judge_block l = 4 * above_block l.block.now

abbrev pub decreases-judge_arm : goal.decreases-judge_arm
decreases-judge_arm l = 4 * above_block l.arm.now.body + 1

abbrev pub decreases-judge_else : goal.decreases-judge_else
decreases-judge_else l = 4 * above_else l.otherwise.now + 1

abbrev pub decreases-judge_arms : goal.decreases-judge_arms
decreases-judge_arms l = 4 * max (above_arms l.arms.now) (above_else l.otherwise.now) + 2

-- What is left, from here, comes to the whole.
abbrev pub invariant-judge_block-loop-s : goal.invariant-judge_block-loop-s
invariant-judge_block-loop-s l =
    judged l.here.around.now l.found (block_parts (items_at (stmt_trees l.here.nodes.now.texts l.here.nodes.now.exprs l.here.nodes.now.stmts) (drop l.s-index l.block.items) l.block.close))
    ≡ judged l.here.around.now l.fn.found (block_parts (block_at (stmt_trees l.here.nodes.now.texts l.here.nodes.now.exprs l.here.nodes.now.stmts) l.block))

abbrev pub invariant-judge_arms-loop-arm : goal.invariant-judge_arms-loop-arm
invariant-judge_arms-loop-arm l =
    let ts = stmt_trees l.here.nodes.now.texts l.here.nodes.now.exprs l.here.nodes.now.stmts in
    judged l.here.around.now l.found (arms_parts (arms_at (expr_trees l.here.nodes.now.exprs) ts (drop l.arm-index l.arms) (else_at ts l.otherwise)))
    ≡ judged l.here.around.now l.fn.found (arms_parts (arms_at (expr_trees l.here.nodes.now.exprs) ts l.arms (else_at ts l.otherwise)))
