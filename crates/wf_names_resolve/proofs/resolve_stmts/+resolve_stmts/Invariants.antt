use Rattle.std.proofs.Common.{◌≡◌, ◌+◌, ◌*◌, max}
use Rattle.wf_ast.specs.ParsedTrees.{expr_trees, stmt_trees}
use Rattle.wf_ast.specs.Above.{above_block, above_else, above_arms}
use Rattle.wf_names_resolve.specs.Standing.{standing_here}
use Rattle.wf_names_resolve.specs.Statements.{above_stmt}
use Rattle.wf_names_resolve.proofs.BlockLemmas.{StmtsMade, ArmsMade}
use Rattle.wf_names_resolve.proofs.resolve_stmts.+resolve_stmts.Given as goal

abbrev pub decreases-resolve_stmt : goal.decreases-resolve_stmt
decreases-resolve_stmt l = 8 * l.s.0 + 7

abbrev pub decreases-resolve_parts : goal.decreases-resolve_parts
decreases-resolve_parts l = 8 * above_stmt l.stmt.now + 6

abbrev pub decreases-resolve_block : goal.decreases-resolve_block
decreases-resolve_block l = 8 * above_block l.block.now

abbrev pub decreases-resolve_arm : goal.decreases-resolve_arm
decreases-resolve_arm l = 8 * above_block l.arm.now.body + 1

abbrev pub decreases-resolve_arms : goal.decreases-resolve_arms
decreases-resolve_arms l = 8 * above_arms l.arms.now + 2

abbrev pub decreases-resolve_else : goal.decreases-resolve_else
decreases-resolve_else l = 8 * above_else l.otherwise.now + 1

abbrev pub decreases-resolve_if : goal.decreases-resolve_if
decreases-resolve_if l = 8 * max (above_arms l.arms.now) (above_else l.otherwise.now) + 3

abbrev pub decreases-resolve_inside : goal.decreases-resolve_inside
decreases-resolve_inside l = 8 * above_block l.body.now + 1

abbrev pub decreases-resolve_loop : goal.decreases-resolve_loop
decreases-resolve_loop l = 8 * above_block l.it.body.now + 2

abbrev pub invariant-resolve_block-loop-s : goal.invariant-resolve_block-loop-s
invariant-resolve_block-loop-s l =
    StmtsMade (standing_here l.here) l.fn.labels.items (stmt_trees l.here.parsed.now.exprs l.here.parsed.now.stmts) l.block.close l.block.items l.s-index l.fn.nodes l.nodes l.made
    × (l.labels.items ≡ l.fn.labels.items)

abbrev pub invariant-resolve_arms-loop-arm : goal.invariant-resolve_arms-loop-arm
invariant-resolve_arms-loop-arm l =
    ArmsMade (standing_here l.here) l.fn.labels.items (expr_trees l.here.parsed.now.exprs) (stmt_trees l.here.parsed.now.exprs l.here.parsed.now.stmts) l.arms l.arm-index l.fn.nodes l.nodes l.made
    × (l.labels.items ≡ l.fn.labels.items)
