use Rattle.std.proofs.Common.{refl, ap, map, sym, subst, Some, ◌∙◌}
use Rattle.c_text.specs.CNodes.{bytes_at, field_tree, made_item}
use Rattle.c_step_objects.specs.Structs.{AreShapes, structs_before}
use Rattle.c_step_objects.proofs.StructLemmas.{no_struct, struct_next}
use Rattle.c_step_objects.proofs.shapes.Shapes.add_item.Goals as goal

pub returns-in-Struct : goal.returns-in-Struct
returns-in-Struct c = λ h.
    rw (struct_next c.args.unit.now c.args.i (map (field_tree c.args.unit.now.names) c.in-Struct.fields) (bytes_at c.args.unit.now.names c.in-Struct.name.0) (c.item.ensures.tree ∙ ap (λ x. Some (made_item c.args.unit.now x)) c.in-Struct.is))
    (rw (c.as_slice.ensures, c.name.ensures) at (c.add.ensures (structs_before c.args.unit.now c.args.i) h))

pub returns-in-Text : goal.returns-in-Text
returns-in-Text c = λ h. subst (AreShapes c.args.self.now) (sym (no_struct c.args.unit.now c.args.i (made_item c.args.unit.now c.item.result.now) c.item.ensures.tree (rw c.in-Text.is refl))) h

pub returns-in-Function : goal.returns-in-Function
returns-in-Function c = λ h. subst (AreShapes c.args.self.now) (sym (no_struct c.args.unit.now c.args.i (made_item c.args.unit.now c.item.result.now) c.item.ensures.tree (rw c.in-Function.is refl))) h
