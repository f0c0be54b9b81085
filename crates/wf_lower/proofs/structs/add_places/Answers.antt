use Rattle.wf_lower.proofs.Kept.{fields_then}
use Rattle.wf_lower.proofs.structs.add_places.Goals as goal

pub returns-clause-made : goal.returns-clause-made
returns-clause-made c = fields_then _ _ _ _ _ _ _ _ c.add_plain-2.result c.in_ok-add_plain.ensures.made c.add_plain-2.ensures.made
