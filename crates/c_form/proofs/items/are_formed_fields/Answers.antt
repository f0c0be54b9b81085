use Rattle.std.proofs.Common.{[], map}
use Rattle.c_text.specs.CNodes.{field_tree}
use Rattle.c_text.proofs.Parts.{fields_rest}
use Rattle.c_meaning.specs.CTypes.{structs_of}
use Rattle.c_form_exprs.specs.Front.{front_items}
use Rattle.c_form.specs.Items.{fields_fit}
use Rattle.c_form.proofs.ItemLemmas.{twice_at, next_at}
use Rattle.c_form.proofs.items.are_formed_fields.Goals as goal

pub returns-then-not-branch : goal.returns-then-not-branch
returns-then-not-branch c = twice_at (structs_of (front_items c.args.front.now)) c.args.front.now.nodes c.unit-unit.result.now c.args.fields.now c.loop-field.field-index _ c.loop-field.seen (fields_fit (structs_of (front_items c.args.front.now)) [] (map (field_tree c.args.front.now.nodes.names) c.args.fields.now)) c.in_ok-add.field-0 c.name.result.now c.loop-field-test.true c.unit-unit.ensures c.name.ensures c.in_ok-add.ensures.fresh c.if-not-branch.true c.loop-field.invariant.so_far

pub loop-field-preserved : goal.loop-field-preserved
loop-field-preserved c = record {
  has = fields_rest c.args.front.now.nodes c.args.fields.now c.loop-field.field-index c.loop-field-test.true c.loop-field.invariant.has;
  so_far = next_at (structs_of (front_items c.args.front.now)) c.args.front.now.nodes c.unit-unit.result.now c.args.fields.now c.loop-field.field-index _ c.loop-field.seen c.add.new.self (fields_fit (structs_of (front_items c.args.front.now)) [] (map (field_tree c.args.front.now.nodes.names) c.args.fields.now)) c.in_ok-add.field-0 c.name.result.now c.loop-field-test.true c.if-not-is_formed_field.ensures c.unit-unit.ensures c.name.ensures c.in_ok-add.ensures.fresh c.if-not-branch.false c.in_ok-add.ensures.added c.loop-field.invariant.so_far;
}
