use Rattle.wf_exprs.proofs.Prefixes.{f_name}
use Rattle.wf_exprs.proofs.scope.BodyNames.field_name.Goals as goal

pub put_spelt-requires : goal.put_spelt-requires
put_spelt-requires c = f_name c.named.result.now c.named.ensures.word
