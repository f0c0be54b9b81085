use Rattle.std.proofs.Common.{refl, sym}
use Rattle.wf_exprs.proofs.Growing.{unchanged}
use Rattle.wf_lower.proofs.FieldLaws.{coroutine_added, coroutine_none}
use Rattle.wf_lower.proofs.structs.add_method.Goals as goal

pub returns-then-keeps_in-clause-made : goal.returns-then-keeps_in-clause-made
returns-then-keeps_in-clause-made c = coroutine_added c.args.p.now.t.now c.requires.ready.typed c.args.m.0 c.method.result.now c.method.ensures _ _ _ _ c.args.s.0 c.add_coroutine.result (sym c.if-keeps_in.ensures) c.add_coroutine.ensures.made

pub returns-else-keeps_in-clause-made : goal.returns-else-keeps_in-clause-made
returns-else-keeps_in-clause-made c = coroutine_none c.args.p.now.t.now c.requires.ready.typed c.args.m.0 c.method.result.now c.method.ensures c.args.s.0 (sym c.if-keeps_in.ensures) _ (unchanged _ _ refl)
