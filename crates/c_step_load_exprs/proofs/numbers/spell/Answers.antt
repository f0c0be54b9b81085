use Rattle.c_text.specs.CNodes.{bytes_at}
use Rattle.c_step_load_exprs.proofs.PlaceLemmas.{places_more}
use Rattle.c_step_load_exprs.proofs.numbers.spell.Goals as goal

pub returns : goal.returns
returns c = λ names at h. places_more c.args.table.now c.add.new.self names (bytes_at c.args.unit.now.names c.args.name.0) c.args.number c.in_ok-add.field-0 (rw c.name.ensures at c.in_ok-add.ensures.fresh) (rw c.name.ensures at c.in_ok-add.ensures.added) at h
