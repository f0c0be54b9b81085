use Rattle.std.proofs.Common.{◌≡◌, suc, length, map, arith}
use Rattle.c_text.specs.CNodes.{field_tree}
use Rattle.c_meaning.specs.CTypes.{StructDecl}
use Rattle.c_step_objects.specs.Shapes.{sizes_inside}
use Rattle.c_step_objects.proofs.StructLemmas.{numbers_more, shapes_more, number_next}
use Rattle.c_step_objects.proofs.shapes.Shapes.add.Goals as goal

pub returns : goal.returns
returns c = λ structs h.
    let s : StructDecl = record { fields = map (field_tree c.args.unit.now.names) c.args.them.now; name = c.args.name.now } in
    let count : c.len-number.result ≡ length c.args.self.now.all.items = omega (arith, c.len-number.ensures, c.args.self.now.all.ok) in
    let sized : c.in_ok-size.size ≡ suc (sizes_inside c.args.self.now.all.items c.in_ok-fields.fields.items) = rw (c.deref.ensures.value, c.deref-2.ensures.value) at c.in_ok-size.ensures in
    record {
      numbers = numbers_more c.args.self.now.numbers c.put.new.self structs s c.len-number.result c.in_ok-put.ensures (number_next c.args.self.now.all.items structs c.len-number.result count h.all) h.numbers;
      all = shapes_more c.args.self.now.all.items c.push.new.self.items structs s c.in_ok-fields.fields.items c.in_ok-size.size c.in_ok-push.ensures.items (c.in_ok-fields.ensures structs h.numbers) sized h.all;
    }
