use Rattle.wf_exprs.proofs.Prefixes.{h_name, n_name}
use Rattle.wf_lower.proofs.Kept.{fields_then}
use Rattle.wf_lower.proofs.structs.add_started.Goals as goal

pub add_number-requires : goal.add_number-requires
add_number-requires c = h_name c.args.method.now c.requires

pub add_number-requires-2 : goal.add_number-requires-2
add_number-requires-2 c = n_name c.args.method.now c.requires

pub returns-clause-made : goal.returns-clause-made
returns-clause-made c = fields_then _ _ _ _ _ _ _ _ c.add_number-2.result c.in_ok-add_number.ensures.made c.add_number-2.ensures.made
