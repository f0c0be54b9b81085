use Rattle.wf_exprs.proofs.Prefixes.{r_name}
use Rattle.wf_lower_stmts.proofs.spelling.point_field.Goals as goal

pub put_spelt-requires : goal.put_spelt-requires
put_spelt-requires c = r_name c.args.method.now c.requires
