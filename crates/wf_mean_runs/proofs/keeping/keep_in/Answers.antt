use Rattle.wf_mean_exprs.specs.MachineState.{object_seen}
use Rattle.wf_mean_stmts.specs.Stages.{kept_lengths}
use Rattle.wf_mean_stmts.proofs.StoringLemmas.{past_updated, set_same, set_updated}
use Rattle.wf_mean_runs.proofs.keeping.keep_in.Goals as goal

pub returns-then-object-objects-clause-objects : goal.returns-then-object-objects-clause-objects
returns-then-object-objects-clause-objects c = λ p. set_updated (object_seen p) _ c.args.objects.now c.args.object c.keep_of.new.state c.index-objects-object.result c.if-object-objects.true (c.keep_of.ensures.state p)

pub returns-then-object-objects-clause-lengths : goal.returns-then-object-objects-clause-lengths
returns-then-object-objects-clause-lengths c = set_same kept_lengths c.args.objects.now c.args.object c.keep_of.new.state c.index-objects-object.result c.if-object-objects.true c.keep_of.ensures.lengths

pub returns-else-object-objects-clause-objects : goal.returns-else-object-objects-clause-objects
returns-else-object-objects-clause-objects c = λ p. past_updated (object_seen p) _ c.args.objects.now c.args.object c.if-object-objects.false
