use Rattle.wf_exprs.proofs.Prefixes.{b_name}
use Rattle.wf_lower.proofs.locals.bytes_local.Goals as goal

pub put_spelt-requires : goal.put_spelt-requires
put_spelt-requires c = b_name c.argument_name-own.result.now c.argument_name-own.ensures.word
