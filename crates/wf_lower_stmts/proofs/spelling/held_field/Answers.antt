use Rattle.wf_exprs.proofs.Prefixes.{h_name}
use Rattle.wf_lower_stmts.proofs.spelling.held_field.Goals as goal

pub put_spelt-requires : goal.put_spelt-requires
put_spelt-requires c = h_name c.args.method.now c.requires
