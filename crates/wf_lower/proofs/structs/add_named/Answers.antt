use Rattle.std.proofs.Common.{refl}
use Rattle.wf_exprs.proofs.Growing.{unchanged}
use Rattle.wf_lower.proofs.FieldLaws.{plain_made}
use Rattle.wf_lower.proofs.Kept.{fields_push}
use Rattle.wf_lower.proofs.structs.add_named.Goals as goal

pub returns : goal.returns
returns c = fields_push _ _ _ _ c.push.result (unchanged _ _ refl) (plain_made _ _ _ _ c.plain.ensures c.requires.kind c.requires.name) c.push.ensures.ok
