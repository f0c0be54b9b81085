use Rattle.std.proofs.Common.{◌≡◌, ℕ, Bool, List, [], map, Some, IfOk, option_map, sym, ◌∙◌, ap, subst}
use Rattle.std.specs.List.{slice_get}
use Rattle.c_text.specs.declared.nodes.CField.{CField}
use Rattle.c_text.specs.declared.nodes.CItem.{CItem}
use Rattle.c_text.specs.declared.nodes.CItem.TheVariants as item
use Rattle.c_text.specs.CNodes.{Nodes, bytes_at, unit_tree, made_item, field_tree}
use Rattle.c_meaning.specs.CTypes.{structs_of}
use Rattle.c_meaning.specs.UnitForm.{is_among, item_name, formed_fields}
use Rattle.c_form_exprs.specs.Front.{front_items}
use Rattle.c_form_stmts.specs.Names.{is_in}
use Rattle.c_form.specs.Items.{fields_fit}
use Rattle.c_form.proofs.ItemLemmas.{content_told, fields_formed, table_among}
use Rattle.c_form.proofs.items.is_formed_item.Goals as goal

pub returns-in-Struct : goal.returns-in-Struct
returns-in-Struct c =
    let tree : slice_get (unit_tree c.args.front.now.nodes) c.args.i ≡ Some (made_item c.args.front.now.nodes (item.Struct c.in-Struct.fields c.in-Struct.name)) = subst (λ (n : Nodes). slice_get (unit_tree n) c.args.i ≡ Some (made_item n (item.Struct c.in-Struct.fields c.in-Struct.name))) c.unit-unit.ensures (c.item.ensures.tree ∙ ap (λ (x : CItem). Some (made_item c.unit-unit.result.now x)) c.in-Struct.is) in
    let spelt : option_map item_name (slice_get (unit_tree c.args.front.now.nodes) c.args.i) ≡ Some (bytes_at c.args.front.now.nodes.names c.name_of-name.result.0) = rw c.unit-unit.ensures at c.name_of-name.ensures.is in
    let fit : fields_fit (structs_of (front_items c.args.front.now)) [] (map (field_tree c.args.front.now.nodes.names) c.as_slice.result.now) ≡ formed_fields (structs_of (front_items c.args.front.now)) (map (field_tree c.args.front.now.nodes.names) c.in-Struct.fields) = ap (λ (fs : List CField). fields_fit (structs_of (front_items c.args.front.now)) [] (map (field_tree c.args.front.now.nodes.names) fs)) c.as_slice.ensures ∙ sym (fields_formed (structs_of (front_items c.args.front.now)) (map (field_tree c.args.front.now.nodes.names) c.in-Struct.fields)) in
    content_told c.args.front.now (map item_name (unit_tree c.args.front.now.nodes)) c.args.i (made_item c.args.front.now.nodes (item.Struct c.in-Struct.fields c.in-Struct.name)) (bytes_at c.args.front.now.nodes.names c.name_of-name.result.0) c.are_formed_fields.result c.requires.at c.if-i-eq0.false tree spelt c.if-is_declared.ensures (rw (c.name.ensures, c.unit-unit.ensures) at c.if-is_library.ensures) (subst (λ (b : Bool). IfOk c.are_formed_fields.result (λ formed. formed ≡ b)) fit c.are_formed_fields.ensures)

pub returns-in-Function : goal.returns-in-Function
returns-in-Function c =
    let tree : slice_get (unit_tree c.args.front.now.nodes) c.args.i ≡ Some (made_item c.args.front.now.nodes (item.Function c.in-Function.linkage c.in-Function.result c.in-Function.name c.in-Function.params c.in-Function.locals c.in-Function.body)) = subst (λ (n : Nodes). slice_get (unit_tree n) c.args.i ≡ Some (made_item n (item.Function c.in-Function.linkage c.in-Function.result c.in-Function.name c.in-Function.params c.in-Function.locals c.in-Function.body))) c.unit-unit.ensures (c.item.ensures.tree ∙ ap (λ (x : CItem). Some (made_item c.unit-unit.result.now x)) c.in-Function.is) in
    let spelt : option_map item_name (slice_get (unit_tree c.args.front.now.nodes) c.args.i) ≡ Some (bytes_at c.args.front.now.nodes.names c.name_of-name.result.0) = rw c.unit-unit.ensures at c.name_of-name.ensures.is in
    let known : (q : List ℕ) → is_in c.args.names.now q ≡ is_among (map item_name (unit_tree c.args.front.now.nodes)) q = table_among (unit_tree c.args.front.now.nodes) c.args.names.now c.requires.names in
    let told = c.is_formed_function.ensures (map item_name (unit_tree c.args.front.now.nodes)) known in
    content_told c.args.front.now (map item_name (unit_tree c.args.front.now.nodes)) c.args.i (made_item c.args.front.now.nodes (item.Function c.in-Function.linkage c.in-Function.result c.in-Function.name c.in-Function.params c.in-Function.locals c.in-Function.body)) (bytes_at c.args.front.now.nodes.names c.name_of-name.result.0) c.is_formed_function.result c.requires.at c.if-i-eq0.false tree spelt c.if-is_declared.ensures (rw (c.name.ensures, c.unit-unit.ensures) at c.if-is_library.ensures) (rw (← c.as_slice-in-Function.ensures, ← c.as_slice-in-Function-2.ensures) told)
