use Rattle.wf_lower.proofs.Functions.{entry_none, entry_push}
use Rattle.wf_lower.proofs.lowering.add_entry.Goals as goal

pub returns-in_ok-item-clause-made : goal.returns-in_ok-item-clause-made
returns-in_ok-item-clause-made c = entry_push c.args.p.now.t.now c.args.m.0 c.has_entry.result c.has_entry.ensures _ _ _ _ c.in_ok-item.item c.put_into.result c.if-has_entry.true c.entry_function.ensures.grows c.in_ok-item.ensures.made c.put_into.ensures

pub returns-else-has_entry-clause-made : goal.returns-else-has_entry-clause-made
returns-else-has_entry-clause-made c = entry_none c.args.p.now.t.now c.args.m.0 c.has_entry.result c.has_entry.ensures _ _ c.if-has_entry.false
