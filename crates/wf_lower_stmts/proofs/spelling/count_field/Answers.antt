use Rattle.wf_exprs.proofs.Prefixes.{n_name}
use Rattle.wf_lower_stmts.proofs.spelling.count_field.Goals as goal

pub put_spelt-requires : goal.put_spelt-requires
put_spelt-requires c = n_name c.args.method.now c.requires
