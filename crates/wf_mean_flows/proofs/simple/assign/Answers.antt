use Rattle.std.proofs.Common.{true, false}
use Rattle.wf_ast.specs.TypedTree.{assign, plain}
use Rattle.wf_ast.specs.TypedTrees.{assigned_by, target_of, tree_of}
use Rattle.wf_meaning.specs.SourceState.{untouched}
use Rattle.wf_mean_exprs.specs.MachineState.{slot_seen}
use Rattle.wf_mean_stmts.specs.Stages.{vars_on}
use Rattle.wf_mean_flows.specs.declared.flows.Flow.TheVariants.{Falls, Stuck}
use Rattle.wf_mean_flows.specs.Flows.{calls_below, site_of}
use Rattle.wf_mean_flows.proofs.SimpleLaws.{assigned, assigned_stuck, simple_runs, still_runs}
use Rattle.wf_mean_flows.proofs.simple.assign.Goals as goal

pub returns-then-put-clause-runs : goal.returns-then-put-clause-runs
returns-then-put-clause-runs c = λ level.
    let nodes = c.args.t.now in
    let target = target_of (tree_of nodes c.args.target) in
    let op = assigned_by c.args.op in
    let value = tree_of nodes c.args.value in
    let n = c.args.stage.now.turns in
    simple_runs nodes level c.args.s (assign target op value) untouched c.args.stage.now c.put.new.stage Falls c.requires.made c.put.ensures.shape c.put.ensures.turns tt
    (λ rest behind. assigned nodes c.args.stage.now (calls_below nodes level) n (site_of nodes c.args.s) (plain (site_of nodes c.args.s) (assign target op value) rest) rest behind target op value (slot_seen c.in-Some.v) true c.put.new.stage c.in-Some.ensures c.if-put.ensures.vars)

pub returns-else-put-clause-runs : goal.returns-else-put-clause-runs
returns-else-put-clause-runs c = λ level.
    let nodes = c.args.t.now in
    let target = target_of (tree_of nodes c.args.target) in
    let op = assigned_by c.args.op in
    let value = tree_of nodes c.args.value in
    let n = c.args.stage.now.turns in
    simple_runs nodes level c.args.s (assign target op value) untouched c.args.stage.now c.put.new.stage Stuck c.requires.made c.put.ensures.shape c.put.ensures.turns tt
    (λ rest behind. assigned nodes c.args.stage.now (calls_below nodes level) n (site_of nodes c.args.s) (plain (site_of nodes c.args.s) (assign target op value) rest) rest behind target op value (slot_seen c.in-Some.v) false c.put.new.stage c.in-Some.ensures c.if-put.ensures.vars)

pub returns-in-None-clause-runs : goal.returns-in-None-clause-runs
returns-in-None-clause-runs c = λ level.
    let nodes = c.args.t.now in
    let target = target_of (tree_of nodes c.args.target) in
    let op = assigned_by c.args.op in
    let value = tree_of nodes c.args.value in
    let n = c.args.stage.now.turns in
    still_runs nodes level c.args.s (assign target op value) untouched c.args.stage.now Stuck c.requires.made tt
    (λ rest behind. assigned_stuck nodes c.args.stage.now (calls_below nodes level) n (site_of nodes c.args.s) (plain (site_of nodes c.args.s) (assign target op value) rest) rest behind target op value (vars_on nodes c.args.stage.now) c.in-None.ensures)
