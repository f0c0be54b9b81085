use Rattle.std.proofs.Common.{◌≡◌, [], map, drop}
use Rattle.c_text.specs.CNodes.{field_tree}
use Rattle.c_text.specs.CFits.{HasFields}
use Rattle.c_meaning.specs.CTypes.{structs_of}
use Rattle.c_form_exprs.specs.Front.{front_items}
use Rattle.c_form.specs.Items.{fields_fit}
use Rattle.c_form.proofs.items.are_formed_fields.Given as goal

abbrev pub invariant-loop-field : goal.invariant-loop-field
invariant-loop-field l = record {
  has : HasFields l.front.nodes (drop l.field-index l.fields);
  so_far : fields_fit (structs_of (front_items l.front)) (map (λ e. e.0) l.seen) (map (field_tree l.front.nodes.names) (drop l.field-index l.fields)) ≡ fields_fit (structs_of (front_items l.front)) [] (map (field_tree l.front.nodes.names) l.fields);
}
