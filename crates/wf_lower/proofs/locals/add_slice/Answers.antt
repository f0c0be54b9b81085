use Rattle.wf_exprs.proofs.Prefixes.{vp_name, vl_name}
use Rattle.wf_lower.proofs.Kept.{locals_then}
use Rattle.wf_lower.proofs.locals.add_slice.Goals as goal

pub add_zero-requires-clause-name : goal.add_zero-requires-clause-name
add_zero-requires-clause-name c = vp_name c.args.name.now c.requires

pub add_zero-requires-2-clause-name : goal.add_zero-requires-2-clause-name
add_zero-requires-2-clause-name c = vl_name c.args.name.now c.requires

pub returns-clause-made : goal.returns-clause-made
returns-clause-made c = locals_then _ _ _ _ _ _ _ _ c.add_zero-2.result c.in_ok-add_zero.ensures.made c.add_zero-2.ensures.made
