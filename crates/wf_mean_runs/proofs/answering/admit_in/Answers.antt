use Rattle.wf_mean_stmts.specs.Stages.{kept_lengths}
use Rattle.wf_mean_stmts.proofs.StoringLemmas.{set_same}
use Rattle.wf_mean_runs.proofs.CallLaws.{admits_there}
use Rattle.wf_mean_runs.proofs.answering.admit_in.Goals as goal

pub returns-clause-table : goal.returns-clause-table
returns-clause-table c = λ p o there.
    admits_there p c.args.objects.now c.args.object c.index-objects-object.result c.enter.new.state c.enter.result c.args.mark c.args.m.0 c.args.fit o c.requires.there there (c.enter.ensures.table p)

pub returns-clause-lengths : goal.returns-clause-lengths
returns-clause-lengths c = set_same kept_lengths c.args.objects.now c.args.object c.enter.new.state c.index-objects-object.result c.requires.there c.enter.ensures.kept
