use Rattle.std.proofs.Common.{map, sym, subst, arith}
use Rattle.c_text.specs.CNodes.{bytes_at, field_tree}
use Rattle.c_step_load_exprs.specs.Knowing.{HasNamePlaces}
use Rattle.c_step_load_exprs.proofs.PlaceLemmas.{struct_more, field_names}
use Rattle.c_step_load_exprs.proofs.numbers.Structs.add.Goals as goal

pub returns : goal.returns
returns c = λ before h.
    struct_more c.args.unit.now c.args.self.now.fields.items c.push.new.self.items c.args.self.now.by_name c.add.new.self before (record { fields = map (field_tree c.args.unit.now.names) c.args.fields.now; name = bytes_at c.args.unit.now.names c.args.name.0 }) c.in_ok-table.table c.len-k.result c.in_ok-add.field-0 h
    (subst (HasNamePlaces c.args.unit.now c.in_ok-table.table) (sym (field_names c.args.unit.now c.args.fields.now)) c.in_ok-table.ensures) c.in_ok-push.ensures.items (omega (arith, c.len-k.ensures, c.args.self.now.fields.ok)) c.in_ok-add.ensures.names (rw c.requires.same at c.in_ok-add.ensures.fresh) (rw c.requires.same at c.in_ok-add.ensures.added)
