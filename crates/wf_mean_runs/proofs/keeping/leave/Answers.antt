use Rattle.std.proofs.Common.{◌∙◌, ap, sym, subst}
use Rattle.turns.specs.Run.{Got}
use Rattle.wf_ast.specs.TypedTree.{end}
use Rattle.wf_meaning.specs.SourceState.{stop}
use Rattle.wf_meaning.specs.Entry.{suspended}
use Rattle.wf_meaning.proofs.Order.{points_ascend}
use Rattle.wf_mean_stmts.specs.Stages.{body_on}
use Rattle.wf_mean_flows.specs.declared.flows.Flow.{Flow}
use Rattle.wf_mean_flows.specs.Flows.{Flows}
use Rattle.wf_mean_runs.specs.Calls.{world_on}
use Rattle.wf_mean_runs.proofs.BodyLaws.{ends, method_there, suspends_at}
use Rattle.wf_mean_runs.proofs.keeping.leave.Goals as goal

pub returns-in-Falls-clause-ran : goal.returns-in-Falls-clause-ran
returns-in-Falls-clause-ran c = λ level o h.
    let nodes = c.args.t.now in
    let stage = c.args.stage.now in
    let F : Flow → Type 0 = λ f. Flows nodes level (body_on nodes stage).method.body end stop f stage o in
    ends nodes level stage o c.end_value.result c.end_value.ensures (subst F c.in-Falls.is h)

pub returns-in-Suspends-clause-ran : goal.returns-in-Suspends-clause-ran
returns-in-Suspends-clause-ran c = λ level o h.
    let nodes = c.args.t.now in
    let stage = c.args.stage.now in
    let F : Flow → Type 0 = λ f. Flows nodes level (body_on nodes stage).method.body end stop f stage o in
    let k = subst F c.in-Suspends.is h in
    let it = method_there nodes c.requires.typed stage.frame.method.0 c.requires.known in
    suspends_at nodes level stage c.requires.typed o it.0 c.in-Suspends.status c.in-Suspends.at c.in-Suspends.done (world_on nodes c.keep.new.stage) it.1 (c.keep.ensures.world nodes) k.0 k.1 k.2 (points_ascend nodes c.requires.typed stage.frame.method.0 it.0 it.1)
    ∙ ap (λ n. Got n (suspended c.in-Suspends.status, world_on nodes c.keep.new.stage)) (sym c.keep.ensures.turns)
