use Rattle.std.proofs.Common.{◌+◌, ◌*◌, ◌<◌, ◌≤◌, drop, length}
use Rattle.c_text.specs.CNodes.{code_of}
use Rattle.c_text.specs.CTree.{finish}
use Rattle.wf_ast.specs.TypedTrees.{block_made, onto, stmt_makers}
use Rattle.wf_exprs.specs.Grown.{Grows, HasCode}
use Rattle.wf_lower_stmts.specs.BodyNodes.{form_in, points_by}
use Rattle.wf_lower_stmts.specs.Lower.{lower}
use Rattle.wf_lower_blocks.specs.Blocks.{HasOther, others_in}
use Rattle.wf_lower_blocks.proofs.blocks.+lowering.Given as goal

abbrev pub decreases-lower_stmt : goal.decreases-lower_stmt
decreases-lower_stmt l = 8 * l.s.0 + 7

abbrev pub decreases-lower_if : goal.decreases-lower_if
decreases-lower_if l = 8 * l.s.0 + 6

abbrev pub decreases-lower_while : goal.decreases-lower_while
decreases-lower_while l = 8 * l.w.0 + 6

abbrev pub decreases-lower_others : goal.decreases-lower_others
decreases-lower_others l = 8 * l.s.0 + 5

abbrev pub decreases-lower_arm : goal.decreases-lower_arm
decreases-lower_arm l = 8 * l.s.0 + 4

abbrev pub decreases-lower_else : goal.decreases-lower_else
decreases-lower_else l = 8 * l.s.0 + 4

abbrev pub decreases-lower_inner : goal.decreases-lower_inner
decreases-lower_inner l = 8 * l.s.0 + 3

abbrev pub decreases-lower_within : goal.decreases-lower_within
decreases-lower_within l = 8 * l.s.0 + 2

-- The statements from this one on are lowered.
abbrev pub invariant-lower_within-loop-left : goal.invariant-lower_within-loop-left
invariant-lower_within-loop-left l = record {
  within : l.left ≤ length l.items;
  grows : Grows l.fn.u l.u;
  made : HasCode l.u l.code.0 (lower (form_in l.b) (points_by l.b.numbers) (block_made (onto (stmt_makers l.b.nodes)) (drop l.left l.items)) (code_of l.fn.u l.fn.tail.0));
}

abbrev pub decreases-lower_within-loop-left : goal.decreases-lower_within-loop-left
decreases-lower_within-loop-left l = l.left

-- The arms from this one on are lowered, with the `else`.
abbrev pub invariant-lower_others-loop-left : goal.invariant-lower_others-loop-left
invariant-lower_others-loop-left l = record {
  within : l.left ≤ length l.arms;
  begun : 0 < length l.arms → 0 < l.left;
  grows : Grows l.fn.u l.u;
  made : HasOther l.u l.other.kind l.other.code.0 (others_in l.b.nodes l.s (drop l.left l.arms) l.otherwise) (lower (form_in l.b) (points_by l.b.numbers) (others_in l.b.nodes l.s (drop l.left l.arms) l.otherwise) finish);
}

abbrev pub decreases-lower_others-loop-left : goal.decreases-lower_others-loop-left
decreases-lower_others-loop-left l = l.left
