use Rattle.wf_exprs.proofs.Prefixes.{ap_name, al_name}
use Rattle.wf_lower.proofs.Kept.{params_then}
use Rattle.wf_lower.proofs.declaring.add_slice.Goals as goal

pub add_param-requires-clause-name : goal.add_param-requires-clause-name
add_param-requires-clause-name c = ap_name c.args.name.now c.requires

pub add_param-requires-2-clause-name : goal.add_param-requires-2-clause-name
add_param-requires-2-clause-name c = al_name c.args.name.now c.requires

pub returns-clause-made : goal.returns-clause-made
returns-clause-made c = params_then _ _ _ _ _ _ _ _ c.add_param-2.result c.in_ok-add_param.ensures.made c.add_param-2.ensures.made
