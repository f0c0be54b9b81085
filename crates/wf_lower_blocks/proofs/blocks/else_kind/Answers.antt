use Rattle.std.proofs.Common.{◌<◌, length, arith, rules}
use Rattle.wf_lower_blocks.proofs.BlockLaws.{else_block}
use Rattle.wf_lower_blocks.proofs.blocks.else_kind.Goals as goal

pub returns-else-is_empty-clause-is : goal.returns-else-is_empty-clause-is
returns-else-is_empty-clause-is c =
    let some : 0 < length c.args.block.now.items = search rules in
    else_block c.args.b.now.nodes c.typed-typed.ensures.kept c.args.s.0 (omega (arith, c.requires.within)) c.args.block.now.items some c.requires.below
