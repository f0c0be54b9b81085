use Rattle.wf_exprs.proofs.Prefixes.{plus_name, minus_name}
use Rattle.wf_exprs.proofs.rated.saturating_name.Goals as goal

pub put_numbered-requires : goal.put_numbered-requires
put_numbered-requires c = rw c.bits_in.ensures (plus_name c.args.width)

pub put_numbered-requires-else-is_sum : goal.put_numbered-requires-else-is_sum
put_numbered-requires-else-is_sum c = rw c.bits_in-else-is_sum.ensures (minus_name c.args.width)
