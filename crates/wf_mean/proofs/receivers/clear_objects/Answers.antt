use Rattle.std.proofs.Common.{◌∙◌, ◌<◌, arith, length}
use Rattle.std.proofs.lemmas.List.{length-set}
use Rattle.wf_meaning.specs.SourceState.{cleared_object}
use Rattle.wf_mean_exprs.specs.MachineState.{object_seen}
use Rattle.wf_mean_stmts.specs.Stages.{kept_lengths}
use Rattle.wf_mean.proofs.LoopLaws.{one-changed, same-rest, seen-again}
use Rattle.wf_mean.proofs.receivers.clear_objects.Goals as goal

pub loop-i-preserved : goal.loop-i-preserved
loop-i-preserved c =
    let within : c.loop-i.i < length c.loop-i.objects = omega (arith, c.loop-i-test.true, c.loop-i.invariant.long) in record {
      cleared = λ p. one-changed (object_seen p) cleared_object c.loop-i.objects c.args.objects.now c.loop-i.i c.index-objects-i.result c.clear_object.new.o within c.loop-i.invariant.long c.loop-i.invariant.others (c.loop-i.invariant.cleared p) (c.clear_object.ensures.cleared p);
      others = same-rest c.loop-i.objects c.args.objects.now c.loop-i.i c.index-objects-i.result c.clear_object.new.o within c.loop-i.invariant.long c.loop-i.invariant.others;
      kept = seen-again kept_lengths c.loop-i.objects c.loop-i.i c.index-objects-i.result c.clear_object.new.o within c.clear_object.ensures.kept ∙ c.loop-i.invariant.kept;
      long = length-set c.loop-i.objects c.loop-i.i c.clear_object.new.o ∙ c.loop-i.invariant.long;
    }
