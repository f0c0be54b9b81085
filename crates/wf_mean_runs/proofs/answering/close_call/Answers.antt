use Rattle.std.proofs.Common.{sym, subst}
use Rattle.wf_mean_flows.specs.declared.flows.Flow.TheVariants as flows
use Rattle.wf_mean_runs.specs.declared.calls.Ran.{Ran}
use Rattle.wf_mean_runs.specs.Answers.{Closes}
use Rattle.wf_mean_runs.specs.Calls.{ran_seen}
use Rattle.wf_mean_runs.proofs.AnswerLaws.{calls_out, calls_stuck}
use Rattle.wf_mean_runs.proofs.answering.close_call.Goals as goal

pub returns-in-Out-clause-closes : goal.returns-in-Out-clause-closes
returns-in-Out-clause-closes c =
    let nodes = c.args.t.now in
    let old = c.args.stage.now in
    let P : Ran → Type 0 = λ r. Closes nodes c.args.s c.args.call.target c.args.call.keep c.args.mark old old (ran_seen nodes r old) flows.Out in
    subst P (sym c.in-Out.is) (calls_out nodes c.args.s c.args.call.target c.args.mark old c.args.call.keep)

pub returns-in-Stuck-clause-closes : goal.returns-in-Stuck-clause-closes
returns-in-Stuck-clause-closes c =
    let nodes = c.args.t.now in
    let old = c.args.stage.now in
    let P : Ran → Type 0 = λ r. Closes nodes c.args.s c.args.call.target c.args.call.keep c.args.mark old old (ran_seen nodes r old) flows.Stuck in
    subst P (sym c.in-Stuck.is) (calls_stuck nodes c.args.s c.args.call.target c.args.mark old c.args.call.keep)
