use Rattle.c_step_load_exprs.proofs.names.Names.called.Goals as goal

pub result_type-requires : goal.result_type-requires
result_type-requires c = rw c.in_ok-head.was at c.requires
