use Rattle.c_read_nodes.proofs.FitAt.{expr_there}
use Rattle.c_read_nodes.proofs.conditions.is_target.Goals as goal

pub is_lvalue-requires : goal.is_lvalue-requires
is_lvalue-requires c = expr_there c.args.unit.now c.args.values.now c.args.depth c.expr_at.result c.in-Some.e c.requires c.expr_at.ensures c.in-Some.is
