use Rattle.std.proofs.Common.{◌∙◌}
use Rattle.c_text.proofs.Parts.{fields_rest}
use Rattle.c_form_exprs.proofs.GrowLemmas.{fields_grow}
use Rattle.c_form_exprs.proofs.front.field_table.Goals as goal

pub loop-field-preserved : goal.loop-field-preserved
loop-field-preserved c = (
  fields_rest c.args.unit.now c.args.fields.now c.loop-field.field-index c.loop-field-test.true c.loop-field.invariant.0,
  c.in_ok-add.ensures.names ∙ c.loop-field.invariant.1,
  fields_grow c.args.unit.now c.args.fields.now c.loop-field.field-index c.loop-field.table.entries c.add.new.self.entries c.in_ok-add.field-0 c.loop-field-test.true c.loop-field.invariant.0 c.loop-field.invariant.2 (rw c.loop-field.invariant.1 at c.in_ok-add.ensures.fresh) (rw c.loop-field.invariant.1 at c.in_ok-add.ensures.added),
)
