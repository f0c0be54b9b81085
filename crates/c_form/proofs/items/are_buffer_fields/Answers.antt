use Rattle.std.proofs.Common.{arith}
use Rattle.c_form.proofs.ItemLemmas.{buffer_six, buffer_apart}
use Rattle.c_form.proofs.items.are_buffer_fields.Goals as goal

pub returns-then-is_field-5 : goal.returns-then-is_field-5
returns-then-is_field-5 c = buffer_six c.args.unit.now c.args.fields.now _ c.is_field-then-is_field-5.result (omega (arith, c.in-len6.len_at_least, c.in-len6.len_below)) c.if-is_field.ensures c.if-is_field-2.ensures c.if-is_field-3.ensures c.if-is_field-4.ensures c.if-is_field-5.ensures c.is_field-then-is_field-5.ensures

pub returns-in_default : goal.returns-in_default
returns-in_default c = buffer_apart c.args.unit.now c.args.fields.now (λ same. absurd (omega (arith, same, c.in_default.len_below)))

pub returns-in_default-2 : goal.returns-in_default-2
returns-in_default-2 c = buffer_apart c.args.unit.now c.args.fields.now (λ same. absurd (omega (arith, same, c.in_default.len_at_least)))
