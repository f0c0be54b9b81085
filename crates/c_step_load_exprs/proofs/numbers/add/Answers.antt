use Rattle.c_step_load_exprs.proofs.PlaceLemmas.{name_more}
use Rattle.c_step_load_exprs.proofs.numbers.add.Goals as goal

pub returns : goal.returns
returns c = λ nodes names at h. name_more nodes c.args.table.now c.add.new.self names c.args.name.0 c.args.number c.in_ok-add.field-0 c.in_ok-add.ensures.names c.in_ok-add.ensures.fresh c.in_ok-add.ensures.added at h
