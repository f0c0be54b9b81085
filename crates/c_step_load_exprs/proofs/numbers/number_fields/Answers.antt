use Rattle.std.proofs.Common.{arith}
use Rattle.c_step_load_exprs.proofs.PlaceLemmas.{field_name_has, fields_more}
use Rattle.c_step_load_exprs.proofs.numbers.number_fields.Goals as goal

pub add-requires : goal.add-requires
add-requires c = rw c.loop-i.invariant.places.same (field_name_has c.args.unit.now c.args.fields.now c.loop-i.i c.loop-i-test.true c.requires)

pub loop-i-preserved : goal.loop-i-preserved
loop-i-preserved c = record {
  within = omega (arith, c.loop-i-test.true);
  places = fields_more c.args.unit.now c.args.fields.now c.loop-i.i c.loop-i.table c.add.new.table c.loop-i-test.true c.in_ok-add.ensures c.loop-i.invariant.places;
}
