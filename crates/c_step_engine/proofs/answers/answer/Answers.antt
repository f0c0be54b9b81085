use Rattle.std.proofs.Common.{Option, Some, ap, sym, option_map, ◌∙◌}
use Rattle.wf_bufs.specs.declared.surfaces.AnswerKind.{AnswerKind}
use Rattle.wf_bufs.specs.SurfaceViews.{answer_kind_of}
use Rattle.c_meaning.specs.declared.values.CValue.{CValue}
use Rattle.c_meaning.specs.CRun.{answer_of}
use Rattle.c_step_engine.specs.Engines.{outcome_for}
use Rattle.c_step_engine.proofs.HostCalls.{status_answered}
use Rattle.c_step_engine.proofs.answers.answer.Goals as goal

pub returns-in_ok-value-in-Status : goal.returns-in_ok-value-in-Status
returns-in_ok-value-in-Status c = λ p surface ok table.
    c.status.ensures ∙ (status_answered p surface c.args.statuses.now c.in_ok-value-in-Status.field-0 ok table
    ∙ (ap (λ (k : AnswerKind). option_map (outcome_for surface) (answer_of p surface (answer_kind_of k) (Some c.in_ok-value-in-Status.field-0))) (sym c.in-Status.is)
    ∙ ap (λ (o : Option CValue). option_map (outcome_for surface) (answer_of p surface (answer_kind_of c.args.kind) o)) (sym c.in_ok-value-in-Status.was)))
