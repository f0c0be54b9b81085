use Rattle.std.proofs.Common.{◌+◌, map, drop, get_or, ap}
use Rattle.pens.proofs.Progress.{unroll}
use Rattle.c_text.specs.CNodes.{field_tree}
use Rattle.c_text.proofs.Parts.{no_field, fields_rest}
use Rattle.c_step_objects.specs.Shapes.{struct_number, field_of, own_fields}
use Rattle.c_step_objects.proofs.ListLemmas.{one_more}
use Rattle.c_step_objects.proofs.shapes.fields.Goals as goal

pub loop-it-preserved : goal.loop-it-preserved
loop-it-preserved c = record {
  has = fields_rest c.args.unit.now c.args.them.now c.loop-it.it-index c.loop-it-test.true c.loop-it.invariant.has;
  so_far = λ structs h.
      one_more c.loop-it.all.items c.push.new.self.items (own_fields structs (map (field_tree c.args.unit.now.names) (drop (c.loop-it.it-index + 1) c.args.them.now))) (own_fields structs (map (field_tree c.args.unit.now.names) (drop c.loop-it.it-index c.args.them.now))) _ c.in_ok-field.field-0 (field_of (struct_number structs) (field_tree c.args.unit.now.names (get_or c.args.them.now c.loop-it.it-index no_field)))
      c.in_ok-push.ensures.items (c.in_ok-field.ensures structs h) (ap (λ xs. own_fields structs (map (field_tree c.args.unit.now.names) xs)) (unroll c.args.them.now c.loop-it.it-index no_field c.loop-it-test.true)) (c.loop-it.invariant.so_far structs h);
}
