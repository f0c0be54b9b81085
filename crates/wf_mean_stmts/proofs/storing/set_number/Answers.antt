use Rattle.wf_mean_exprs.specs.MachineState.{object_seen}
use Rattle.wf_mean_stmts.proofs.StoringLemmas.{objects_changed, kept_stays, past_updated}
use Rattle.wf_mean_stmts.proofs.storing.set_number.Goals as goal

pub returns-then-object-objects-clause-objects : goal.returns-then-object-objects-clause-objects
returns-then-object-objects-clause-objects c =
    objects_changed _ _ c.args.objects.now c.args.object c.index-objects-object.result c.set_number_in.new.state c.if-object-objects.true c.set_number_in.ensures

pub returns-then-object-objects-clause-kept : goal.returns-then-object-objects-clause-kept
returns-then-object-objects-clause-kept c =
    kept_stays _ _ c.args.objects.now c.args.object c.index-objects-object.result c.set_number_in.new.state c.if-object-objects.true c.set_number_in.ensures

pub returns-else-object-objects-clause-objects : goal.returns-else-object-objects-clause-objects
returns-else-object-objects-clause-objects c = λ p. past_updated (object_seen p) _ c.args.objects.now c.args.object c.if-object-objects.false
