use Rattle.wf_exprs_nodes.proofs.ItemLaws.{helper_put}
use Rattle.wf_lower.proofs.lowering.add_buffer.Goals as goal

pub returns : goal.returns
returns c = helper_put _ _ _ _ _ c.put_item.result c.is_sound.ensures c.io_buffer.ensures.grows c.in_ok-item.ensures.made.is c.put_item.ensures
