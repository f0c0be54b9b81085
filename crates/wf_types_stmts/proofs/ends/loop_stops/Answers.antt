use Rattle.std.proofs.Common.{length, arith}
use Rattle.wf_ast.proofs.AboveLemmas.{block_above}
use Rattle.wf_types_stmts.proofs.ends.loop_stops.Goals as goal

pub block_leaves-requires : goal.block_leaves-requires
block_leaves-requires c = record { block = c.requires.body; few = omega (arith, block_above (length c.args.nodes.now.stmts) c.args.body.now c.requires.body) }
