use Rattle.std.proofs.Common.{◌∙◌, refl, sym}
use Rattle.wf_mean_exprs.specs.MachineState.{slot_seen}
use Rattle.wf_mean_stmts.specs.Stages.{body_on}
use Rattle.wf_mean_flows.proofs.SimpleLaws.{gives_plain, no_plain}
use Rattle.wf_mean_flows.proofs.simple.give_plain.Goals as goal

pub returns-then-is_result-clause-steps : goal.returns-then-is_result-clause-steps
returns-then-is_result-clause-steps c = λ n here rest behind vars.
    gives_plain (body_on c.args.t.now c.args.stage.now) n vars.world (slot_seen c.args.v) (sym c.if-is_result.true ∙ c.is_result.ensures ∙ rw c.own_result.ensures refl)

pub returns-else-is_result-clause-steps : goal.returns-else-is_result-clause-steps
returns-else-is_result-clause-steps c = λ n here rest behind vars.
    no_plain (body_on c.args.t.now c.args.stage.now) n vars.world (slot_seen c.args.v) (sym c.if-is_result.false ∙ c.is_result.ensures ∙ rw c.own_result.ensures refl)
