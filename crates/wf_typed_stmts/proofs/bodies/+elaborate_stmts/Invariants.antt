use Rattle.std.proofs.Common.{◌+◌, ◌*◌, max}
use Rattle.wf_ast.specs.Above.{above_block, above_else, above_arms}
use Rattle.wf_named.specs.NamedParts.{named_package}
use Rattle.wf_named.specs.NamedTrees.{expr_trees, stmt_trees}
use Rattle.wf_typed_stmts.specs.Right.{known_in}
use Rattle.wf_typed_stmts.proofs.BlockLemmas.{StmtsMade, ArmsMade}
use Rattle.wf_typed_stmts.proofs.bodies.+elaborate_stmts.Given as goal

abbrev pub decreases-elaborate_stmt : goal.decreases-elaborate_stmt
decreases-elaborate_stmt l = 8 * l.s.0 + 7

abbrev pub decreases-elaborate_node : goal.decreases-elaborate_node
decreases-elaborate_node l = 8 * l.s.0 + 6

abbrev pub decreases-elaborate_block : goal.decreases-elaborate_block
decreases-elaborate_block l = 8 * above_block l.block.now

abbrev pub decreases-elaborate_arm : goal.decreases-elaborate_arm
decreases-elaborate_arm l = 8 * above_block l.arm.now.body + 1

abbrev pub decreases-elaborate_arms : goal.decreases-elaborate_arms
decreases-elaborate_arms l = 8 * above_arms l.arms.now + 2

abbrev pub decreases-elaborate_else : goal.decreases-elaborate_else
decreases-elaborate_else l = 8 * above_else l.otherwise.now + 1

abbrev pub decreases-elaborate_if : goal.decreases-elaborate_if
decreases-elaborate_if l = 8 * max (above_arms l.arms.now) (above_else l.otherwise.now) + 3

abbrev pub decreases-elaborate_inside : goal.decreases-elaborate_inside
decreases-elaborate_inside l = 8 * above_block l.body.now + 1

abbrev pub decreases-elaborate_loop : goal.decreases-elaborate_loop
decreases-elaborate_loop l = 8 * above_block l.it.body.now + 2

abbrev pub invariant-elaborate_block-loop-s : goal.invariant-elaborate_block-loop-s
invariant-elaborate_block-loop-s l =
    StmtsMade l.here.around.now (known_in (named_package l.here.nodes.now)) l.loops l.here.nodes.now (stmt_trees l.here.nodes.now.texts l.here.nodes.now.exprs l.here.nodes.now.stmts) l.block.close l.block.items l.s-index l.fn.nodes l.nodes l.items

abbrev pub invariant-elaborate_arms-loop-arm : goal.invariant-elaborate_arms-loop-arm
invariant-elaborate_arms-loop-arm l =
    ArmsMade l.here.around.now (known_in (named_package l.here.nodes.now)) l.loops l.here.nodes.now (expr_trees l.here.nodes.now.exprs) (stmt_trees l.here.nodes.now.texts l.here.nodes.now.exprs l.here.nodes.now.stmts) l.arms l.arm-index l.fn.nodes l.nodes l.made
