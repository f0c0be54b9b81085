use Rattle.std.proofs.Common.{refl, ap, sym, Some, ◌∙◌}
use Rattle.c_text.specs.CNodes.{bytes_at, made_item}
use Rattle.c_step_objects.proofs.StructLemmas.{no_text, text_added}
use Rattle.c_step_objects.proofs.texts.add_item.Goals as goal

pub returns-in_ok-push-in-Text : goal.returns-in_ok-push-in-Text
returns-in_ok-push-in-Text c = λ so_far.
    text_added c.args.unit.now c.args.i (bytes_at c.args.unit.now.names c.in-Text.name.0) (bytes_at c.args.unit.now.strings c.in-Text.text.0) c.args.all.now.items c.push.new.self.items c.in_ok-bytes_object-in-Text.field-0 c.in_ok-bytes-in-Text.bytes.items
    (c.item.ensures.tree ∙ ap (λ x. Some (made_item c.args.unit.now x)) c.in-Text.is) c.in_ok-push-in-Text.ensures.items c.in_ok-bytes_object-in-Text.ensures (rw c.string.ensures at c.in_ok-bytes-in-Text.ensures) so_far

pub returns-in-Struct : goal.returns-in-Struct
returns-in-Struct c = λ so_far. so_far ∙ sym (no_text c.args.unit.now c.args.i (made_item c.args.unit.now c.item.result.now) c.item.ensures.tree (rw c.in-Struct.is refl))

pub returns-in-Function : goal.returns-in-Function
returns-in-Function c = λ so_far. so_far ∙ sym (no_text c.args.unit.now c.args.i (made_item c.args.unit.now c.item.result.now) c.item.ensures.tree (rw c.in-Function.is refl))
