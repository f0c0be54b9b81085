use Rattle.wf_ast.specs.TypedPackage.{package_of}
use Rattle.wf_mean_exprs.specs.MachineState.{object_seen}
use Rattle.wf_mean_stmts.specs.Stages.{kept_lengths}
use Rattle.wf_mean_stmts.proofs.StoringLemmas.{past_updated, set_same, set_updated}
use Rattle.wf_mean_runs.proofs.answering.settle_in.Goals as goal

pub returns-then-object-objects-clause-objects : goal.returns-then-object-objects-clause-objects
returns-then-object-objects-clause-objects c =
    set_updated (object_seen (package_of c.args.t.now)) _ c.args.objects.now c.args.object c.settle.new.state c.index-objects-object.result c.if-object-objects.true c.settle.ensures.table

pub returns-then-object-objects-clause-lengths : goal.returns-then-object-objects-clause-lengths
returns-then-object-objects-clause-lengths c = set_same kept_lengths c.args.objects.now c.args.object c.settle.new.state c.index-objects-object.result c.if-object-objects.true c.settle.ensures.kept

pub returns-else-object-objects-clause-objects : goal.returns-else-object-objects-clause-objects
returns-else-object-objects-clause-objects c = past_updated (object_seen (package_of c.args.t.now)) _ c.args.objects.now c.args.object c.if-object-objects.false
