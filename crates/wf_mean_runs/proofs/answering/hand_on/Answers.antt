use Rattle.std.proofs.Common.{false, sym, subst}
use Rattle.std.specs.Prelude.{slice_get}
use Rattle.turns.specs.Run.{Got}
use Rattle.wf_mean_exprs.specs.declared.objects.Progress.TheVariants as progress
use Rattle.wf_mean_stmts.specs.declared.entry.Answer.{Answer}
use Rattle.wf_mean_stmts.specs.declared.entry.Answer.TheVariants.{Returned}
use Rattle.wf_mean_stmts.specs.Entries.{answer_seen}
use Rattle.wf_mean_flows.specs.declared.flows.Flow.{Flow}
use Rattle.wf_mean_flows.specs.declared.flows.Flow.TheVariants as flows
use Rattle.wf_mean_runs.specs.Answers.{Closes}
use Rattle.wf_mean_runs.specs.Calls.{world_on}
use Rattle.wf_mean_runs.proofs.AnswerLaws.{hands_suspension, hands_value}
use Rattle.wf_mean_runs.proofs.AwaitLaws.{place_is}
use Rattle.wf_mean_runs.proofs.answering.hand_on.Goals as goal

pub returns-in-Suspended : goal.returns-in-Suspended
returns-in-Suspended c =
    let nodes = c.args.t.now in
    let stage = c.args.stage.now in
    let P : Answer → Type 0 = λ a. Closes nodes c.args.s c.args.target false c.args.mark stage stage (Got stage.turns (answer_seen a, world_on nodes stage)) (flows.Suspends c.in-Suspended.status c.stmt_place.result progress.Untouched) in
    record {
      closes = subst P (sym c.in-Suspended.is) (hands_suspension nodes c.args.s c.args.target c.args.mark stage c.requires.coroutine c.in-Suspended.status c.stmt_place.result (place_is (slice_get nodes.stmts c.args.s.0) c.stmt_place.result c.stmt_place.ensures));
    }

pub returns-in-Returned : goal.returns-in-Returned
returns-in-Returned c =
    let nodes = c.args.t.now in
    let stage = c.args.stage.now in
    let P : Answer → Type 0 = λ a. Closes nodes c.args.s c.args.target false c.args.mark stage stage (Got stage.turns (answer_seen a, world_on nodes stage)) c.hand_value.result in
    let F : Flow → Type 0 = λ f. Closes nodes c.args.s c.args.target false c.args.mark stage stage (Got stage.turns (answer_seen (Returned c.in-Returned.v), world_on nodes stage)) f in
    record { closes = subst P (sym c.in-Returned.is) (subst F (sym c.hand_value.ensures) (hands_value nodes c.args.s c.args.target c.args.mark stage c.requires.coroutine c.in-Returned.v)) }
