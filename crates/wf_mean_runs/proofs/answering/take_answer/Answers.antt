use Rattle.std.proofs.Common.{Bool, Option, false, sym, subst}
use Rattle.std.specs.Prelude.{option_map}
use Rattle.turns.specs.Run.{Got}
use Rattle.wf_ast.specs.TypedTrees.{optional_target, tree_of}
use Rattle.wf_ast.specs.Value.{Value}
use Rattle.wf_meaning.specs.SourceStep.{put_answer}
use Rattle.wf_mean_exprs.specs.MachineState.{slot_seen}
use Rattle.wf_mean_stmts.specs.declared.entry.Answer.{Answer}
use Rattle.wf_mean_stmts.specs.Entries.{answer_seen}
use Rattle.wf_mean_stmts.specs.Stages.{body_on, vars_on}
use Rattle.wf_mean_flows.specs.declared.flows.Flow.TheVariants as flows
use Rattle.wf_mean_runs.specs.Answers.{Closes, TakesValue}
use Rattle.wf_mean_runs.specs.Calls.{world_on}
use Rattle.wf_mean_runs.proofs.AnswerLaws.{gives_value, keeps_status, plain_suspends}
use Rattle.wf_mean_runs.proofs.answering.take_answer.Goals as goal

pub returns-then-call-clause-closes : goal.returns-then-call-clause-closes
returns-then-call-clause-closes c =
    let nodes = c.args.t.now in
    let old = c.args.stage.now in
    let new = c.take_value.new.stage in
    let P : Bool → Type 0 = λ k. Closes nodes c.args.s c.args.call.target k c.args.mark old new (Got old.turns (answer_seen c.args.answer, world_on nodes old)) c.take_value.result in
    let Q : Option Value → Type 0 = λ v. TakesValue c.take_value.result (put_answer (body_on nodes old) (optional_target (tree_of nodes) c.args.call.target) v (vars_on nodes old)) (vars_on nodes new) in
    subst P (sym c.if-call.true) (keeps_status nodes c.args.s c.args.call.target old new c.args.mark c.take_value.result (answer_seen c.args.answer) c.take_value.ensures.shape c.take_value.ensures.turns (subst Q c.kept_status.ensures c.take_value.ensures.value))

pub returns-in-Returned-clause-closes : goal.returns-in-Returned-clause-closes
returns-in-Returned-clause-closes c =
    let nodes = c.args.t.now in
    let old = c.args.stage.now in
    let one = c.take_value-in-Returned in
    let new = one.new.stage in
    let P : Bool → Type 0 = λ k. Closes nodes c.args.s c.args.call.target k c.args.mark old new (Got old.turns (answer_seen c.args.answer, world_on nodes old)) one.result in
    let R : Answer → Type 0 = λ a. Closes nodes c.args.s c.args.call.target false c.args.mark old new (Got old.turns (answer_seen a, world_on nodes old)) one.result in
    subst P (sym c.if-call.false) (subst R (sym c.in-Returned.is) (gives_value nodes c.args.s c.args.call.target old new c.args.mark one.result (option_map slot_seen c.in-Returned.v) (sym c.if-is_coroutine.ensures) one.ensures.shape one.ensures.turns one.ensures.value))

pub returns-in-Suspended-clause-closes : goal.returns-in-Suspended-clause-closes
returns-in-Suspended-clause-closes c =
    let nodes = c.args.t.now in
    let old = c.args.stage.now in
    let P : Bool → Type 0 = λ k. Closes nodes c.args.s c.args.call.target k c.args.mark old old (Got old.turns (answer_seen c.args.answer, world_on nodes old)) flows.Stuck in
    let R : Answer → Type 0 = λ a. Closes nodes c.args.s c.args.call.target false c.args.mark old old (Got old.turns (answer_seen a, world_on nodes old)) flows.Stuck in
    subst P (sym c.if-call.false) (subst R (sym c.in-Suspended.is) (plain_suspends nodes c.args.s c.args.call.target c.args.mark old _ (sym c.if-is_coroutine.ensures)))
