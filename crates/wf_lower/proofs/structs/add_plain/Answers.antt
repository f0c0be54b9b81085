use Rattle.wf_lower.proofs.FieldLaws.{plain_put}
use Rattle.wf_lower.proofs.Kept.{fields_push}
use Rattle.wf_lower.proofs.structs.add_plain.Goals as goal

pub returns-clause-made : goal.returns-clause-made
returns-clause-made c = fields_push _ _ _ _ c.push.result c.put_name.ensures.grows (plain_put _ _ _ _ c.plain.ensures c.put_name.ensures.grows c.requires.kind c.in_ok-name.ensures.made) c.push.ensures.ok
