use Rattle.std.proofs.Common.{◌∷◌, [], ap}
use Rattle.c_text.specs.declared.kinds.CUint.TheVariants.{U16}
use Rattle.c_text.specs.CTree.{uint}
use Rattle.wf_lower.specs.Unit.{field}
use Rattle.wf_lower.proofs.Kept.{fields_after}
use Rattle.wf_lower.proofs.structs.add_point.Goals as goal

pub returns-clause-made : goal.returns-clause-made
returns-clause-made c = fields_after _ _ _ _ _ _ _ c.add_named.result c.point_field.ensures.grows (ap (λ n. field (uint U16) n ∷ []) c.in_ok-name.ensures.made.is) c.add_named.ensures
