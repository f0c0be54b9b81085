use Rattle.std.proofs.Common.{◌∙◌, ◌<◌, arith, length}
use Rattle.std.proofs.lemmas.List.{length-set}
use Rattle.wf_meaning.specs.SourceState.{cleared}
use Rattle.wf_mean_exprs.specs.MachineState.{field_seen}
use Rattle.wf_mean.proofs.LoopLaws.{one-changed, same-rest}
use Rattle.wf_mean.proofs.receivers.clear_fields.Goals as goal

pub loop-i-preserved : goal.loop-i-preserved
loop-i-preserved c =
    let within : c.loop-i.i < length c.loop-i.fields = omega (arith, c.loop-i-test.true, c.loop-i.invariant.long) in record {
      cleared = one-changed field_seen cleared c.loop-i.fields c.args.fields.now c.loop-i.i c.index-fields-i.result c.clear_field.new.field within c.loop-i.invariant.long c.loop-i.invariant.others c.loop-i.invariant.cleared c.clear_field.ensures;
      others = same-rest c.loop-i.fields c.args.fields.now c.loop-i.i c.index-fields-i.result c.clear_field.new.field within c.loop-i.invariant.long c.loop-i.invariant.others;
      long = length-set c.loop-i.fields c.loop-i.i c.clear_field.new.field ∙ c.loop-i.invariant.long;
    }
