use Rattle.wf_lower.proofs.Whole.{before_all}
use Rattle.wf_lower.proofs.lowering.add_before.Goals as goal

pub returns : goal.returns
returns c = before_all c.args.p.now.t.now c.args.u.now _ _ _ _ c.args.read.now c.add_helpers.result c.in_ok-add_buffer.ensures c.in_ok-add_structs.ensures c.in_ok-add_texts.ensures c.add_helpers.ensures
