use Rattle.wf_exprs.proofs.Growing.{grows_on}
use Rattle.wf_lower.proofs.FieldLaws.{struct_made}
use Rattle.wf_lower.proofs.structs.struct_item.Goals as goal

pub returns-clause-made : goal.returns-clause-made
returns-clause-made c = struct_made _ _ _ _ _ c.struct_type.ensures.grows c.in_ok-fields.ensures.made c.in_ok-name.ensures.made

pub returns-clause-grows : goal.returns-clause-grows
returns-clause-grows c = grows_on c.struct_fields.ensures.grows c.struct_type.ensures.grows
