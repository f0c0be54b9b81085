use Rattle.std.proofs.Common.{map}
use Rattle.std.specs.Prelude.{slice_get}
use Rattle.wf_ast.specs.TypedTree.{end}
use Rattle.wf_ast.specs.TypedTrees.{base_call, optional_target, tree_of}
use Rattle.wf_meaning.specs.SourceState.{stop}
use Rattle.wf_mean_exprs.specs.MachineState.{done_seen}
use Rattle.wf_mean_stmts.specs.Stages.{body_on, vars_on}
use Rattle.wf_mean_flows.specs.declared.flows.Flow.TheVariants as flows
use Rattle.wf_mean_flows.specs.Flows.{calls_below, inner_of, site_of}
use Rattle.wf_mean_flows.proofs.SimpleLaws.{simple_runs}
use Rattle.wf_mean_runs.proofs.AwaitLaws.{calm, place_is}
use Rattle.wf_mean_runs.proofs.awaits.run_base.Goals as goal

pub returns-in-Goes-clause-runs : goal.returns-in-Goes-clause-runs
returns-in-Goes-clause-runs c = λ level.
    let nodes = c.args.t.now in
    let s = c.args.s in
    let at = inner_of nodes s.0 in
    let old = c.args.stage.now in
    let st = base_call at (optional_target (tree_of nodes) c.args.call.target) (tree_of nodes c.args.call.on) c.args.call.sig (map (tree_of nodes) c.args.call.args.now) in
    simple_runs nodes level s st (done_seen c.args.done) old c.base_call.new.stage flows.Falls c.requires.made c.base_call.ensures.shape c.base_call.ensures.turns tt
    (λ rest behind. c.in-Goes.ensures.steps (calls_below nodes level) old.turns (site_of nodes s) at rest behind)

pub returns-in-Stuck-clause-runs : goal.returns-in-Stuck-clause-runs
returns-in-Stuck-clause-runs c = λ level.
    let nodes = c.args.t.now in
    let s = c.args.s in
    let at = inner_of nodes s.0 in
    let old = c.args.stage.now in
    let st = base_call at (optional_target (tree_of nodes) c.args.call.target) (tree_of nodes c.args.call.on) c.args.call.sig (map (tree_of nodes) c.args.call.args.now) in
    simple_runs nodes level s st (done_seen c.args.done) old c.base_call.new.stage flows.Stuck c.requires.made c.base_call.ensures.shape c.base_call.ensures.turns tt
    (λ rest behind. c.in-Stuck.ensures.steps (calls_below nodes level) old.turns (site_of nodes s) at rest behind)

pub returns-in-Suspends-clause-runs : goal.returns-in-Suspends-clause-runs
returns-in-Suspends-clause-runs c = λ level.
    let nodes = c.args.t.now in
    let s = c.args.s in
    let at = inner_of nodes s.0 in
    let old = c.args.stage.now in
    let target = optional_target (tree_of nodes) c.args.call.target in
    let args = map (tree_of nodes) c.args.call.args.now in
    let st = base_call at target (tree_of nodes c.args.call.on) c.args.call.sig args in
    let calls = calls_below nodes level in
    let point = calm at target (tree_of nodes c.args.call.on) c.args.call.sig args (body_on nodes old) calls old.turns (done_seen c.args.done) (site_of nodes s) end stop (vars_on nodes old) _ _ _ (vars_on nodes c.base_call.new.stage)
    (c.in-Suspends.ensures.steps calls old.turns (site_of nodes s) at end stop) in
    simple_runs nodes level s st (done_seen c.args.done) old c.base_call.new.stage (flows.Suspends c.in-Suspends.status c.stmt_place-at.result c.in-Suspends.done) c.requires.made c.base_call.ensures.shape c.base_call.ensures.turns
    (point, place_is (slice_get nodes.stmts s.0) c.stmt_place-at.result c.stmt_place-at.ensures)
    (λ rest behind. c.in-Suspends.ensures.steps calls old.turns (site_of nodes s) at rest behind)
