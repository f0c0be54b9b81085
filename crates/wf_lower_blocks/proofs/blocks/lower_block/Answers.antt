use Rattle.std.proofs.Common.{◌-◌, arith}
use Rattle.wf_exprs.proofs.Growing.{grows_on}
use Rattle.wf_lower_stmts.specs.BodyNodes.{form_in}
use Rattle.wf_lower_blocks.proofs.BlockLaws.{block_step}
use Rattle.wf_lower_blocks.proofs.blocks.lower_block.Goals as goal

pub loop-left-preserved : goal.loop-left-preserved
loop-left-preserved c =
    let b = c.args.b.now in
    record {
      within = omega (arith, c.loop-left.invariant.within);
      grows = grows_on c.loop-left.invariant.grows c.lower_stmt.ensures.grows;
      made = block_step b.nodes (form_in b) b.numbers _ c.loop-left.left (c.loop-left.left - 1) _ _ (omega (arith, c.loop-left-test.true)) c.loop-left.invariant.within c.loop-left.invariant.made c.in_ok-code.ensures.made;
    }
