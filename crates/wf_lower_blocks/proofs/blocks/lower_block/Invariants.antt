use Rattle.std.proofs.Common.{◌≤◌, drop, length}
use Rattle.c_text.specs.CNodes.{code_of}
use Rattle.wf_ast.specs.TypedTrees.{block_made, onto, stmt_makers}
use Rattle.wf_exprs.specs.Grown.{Grows, HasCode}
use Rattle.wf_lower_stmts.specs.BodyNodes.{form_in, points_by}
use Rattle.wf_lower_stmts.specs.Lower.{lower}
use Rattle.wf_lower_blocks.proofs.blocks.lower_block.Given as goal

-- The statements from this one on are lowered.
abbrev pub invariant-loop-left : goal.invariant-loop-left
invariant-loop-left l = record {
  within : l.left ≤ length l.items;
  grows : Grows l.fn.u l.u;
  made : HasCode l.u l.code.0 (lower (form_in l.b) (points_by l.b.numbers) (block_made (onto (stmt_makers l.b.nodes)) (drop l.left l.items)) (code_of l.fn.u l.fn.tail.0));
}

abbrev pub decreases-loop-left : goal.decreases-loop-left
decreases-loop-left l = l.left
