use Rattle.std.proofs.Common.{◌∙◌, refl, sym}
use Rattle.wf_mean_stmts.specs.Stages.{body_on}
use Rattle.wf_mean_flows.proofs.SimpleLaws.{gives_coroutine, gives_status, no_status}
use Rattle.wf_mean_flows.proofs.simple.give_status.Goals as goal

pub returns-then-is_coroutine-clause-steps : goal.returns-then-is_coroutine-clause-steps
returns-then-is_coroutine-clause-steps c = λ n here rest behind vars.
    let b = body_on c.args.t.now c.args.stage.now in
    rw (c.answered_status.ensures c.args.stage.now) (gives_coroutine b n vars.world c.args.s (sym c.if-is_coroutine.true ∙ c.is_coroutine.ensures ∙ rw c.own_mark.ensures refl))

pub returns-then-is_result-clause-steps : goal.returns-then-is_result-clause-steps
returns-then-is_result-clause-steps c = λ n here rest behind vars.
    let b = body_on c.args.t.now c.args.stage.now in
    gives_status b n vars.world c.args.s (sym c.if-is_coroutine.false ∙ c.is_coroutine.ensures ∙ rw c.own_mark.ensures refl) (sym c.if-is_result.true ∙ c.is_result.ensures ∙ rw c.own_result.ensures refl)

pub returns-else-is_result-clause-steps : goal.returns-else-is_result-clause-steps
returns-else-is_result-clause-steps c = λ n here rest behind vars.
    let b = body_on c.args.t.now c.args.stage.now in
    no_status b n vars.world c.args.s (sym c.if-is_coroutine.false ∙ c.is_coroutine.ensures ∙ rw c.own_mark.ensures refl) (sym c.if-is_result.false ∙ c.is_result.ensures ∙ rw c.own_result.ensures refl)
