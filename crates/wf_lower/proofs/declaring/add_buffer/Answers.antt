use Rattle.std.proofs.Common.{ap, codes, ◌++◌, ◌∷◌, []}
use Rattle.wf_exprs.proofs.Prefixes.{a_name}
use Rattle.wf_lower.proofs.Kept.{param_made, params_after}
use Rattle.wf_lower.proofs.declaring.add_buffer.Goals as goal

pub add_param-requires-clause-name : goal.add_param-requires-clause-name
add_param-requires-clause-name c = a_name c.args.name.now c.requires

pub returns-clause-made : goal.returns-clause-made
returns-clause-made c = params_after _ _ _ _ _ _ _ c.add_param.result c.buffer.ensures.grows (ap (λ k. param_made k (codes "a_" ++ c.args.name.now) ∷ []) c.in_ok-kind.ensures.made.is) c.add_param.ensures.made
