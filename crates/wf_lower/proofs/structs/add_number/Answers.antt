use Rattle.std.proofs.Common.{[], ◌∷◌, ◌++◌, ap, if◌then◌else◌, refl, sym}
use Rattle.c_text.specs.CTree.{uint}
use Rattle.wf_exprs.proofs.Growing.{unchanged}
use Rattle.wf_lower.specs.Unit.{field}
use Rattle.wf_lower.proofs.FieldLaws.{no_fields_as, number_made}
use Rattle.wf_lower.proofs.Kept.{fields_after}
use Rattle.wf_lower.proofs.structs.add_number.Goals as goal

pub returns-in_ok-name-clause-made : goal.returns-in_ok-name-clause-made
returns-in_ok-name-clause-made c =
    fields_after _ _ _ _ _ _ _ c.add_named.result c.put_spelt.ensures.grows (number_made c.args.there c.args.ty (c.args.begin.now ++ c.args.method.now) c.in_ok-name.name c.if-there.true c.in_ok-name.ensures.made) c.add_named.ensures

pub returns-else-there-clause-made : goal.returns-else-there-clause-made
returns-else-there-clause-made c = no_fields_as _ _ (sym (ap (λ b. if b then field (uint c.args.ty) (c.args.begin.now ++ c.args.method.now) ∷ [] else []) c.if-there.false)) (unchanged _ _ refl)
