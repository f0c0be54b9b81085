use Rattle.wf_exprs_nodes.proofs.ItemLaws.{adds_item}
use Rattle.wf_exprs_nodes.proofs.helpers.put_item.Goals as goal

pub returns : goal.returns
returns c = adds_item _ _ _ _ c.in_ok-add_item.ensures.ok
