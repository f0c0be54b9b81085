use Rattle.std.proofs.Common.{◌≡◌, sym, subst}
use Rattle.wf_ast.specs.TypedPackage.{package_of}
use Rattle.wf_meaning.specs.SourceStep.{settled}
use Rattle.wf_mean_runs.specs.declared.calls.Ran.{Ran}
use Rattle.wf_mean_runs.specs.Calls.{ran_seen}
use Rattle.wf_mean_runs.proofs.BodyLaws.{mark_is}
use Rattle.wf_mean_runs.proofs.CallLaws.{settles}
use Rattle.wf_mean_runs.proofs.answering.settle_ran.Goals as goal

pub returns-in-Answers-clause-ran : goal.returns-in-Answers-clause-ran
returns-in-Answers-clause-ran c = λ callee call there object method.
    let nodes = c.args.t.now in
    let old = c.args.stage.now in
    let new = c.settle_on.new.stage in
    let P : Ran → Type 0 = λ r. ran_seen nodes r new ≡ settled (package_of nodes) callee call (ran_seen nodes r old) in
    subst P (sym c.in-Answers.is)
    (settles nodes old new callee call c.method.result.now.mark c.args.m.0 c.args.object c.in-Answers.answer
    (mark_is nodes c.requires.typed c.args.m.0 callee c.method.result.now c.method.ensures there) object method c.settle_on.ensures.turns c.settle_on.ensures.host c.settle_on.ensures.objects)
