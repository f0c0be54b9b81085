use Rattle.std.proofs.Common.{◌∙◌, ◌-◌, sym, arith}
use Rattle.wf_ast.specs.TypedTrees.{head_made, tree_of}
use Rattle.wf_mean_flows.proofs.LoopLaws.{back_out, back_stuck, back_turn}
use Rattle.wf_mean_flows.proofs.looping.go_back.Goals as goal

pub returns-then-not-clauses_hold-clause-runs : goal.returns-then-not-clauses_hold-clause-runs
returns-then-not-clauses_hold-clause-runs c = λ level site close body rest behind.
    let nodes = c.args.t.now in
    back_stuck nodes level c.args.stage.now site (head_made (tree_of nodes) close c.args.head.now) body rest behind (sym c.if-not-clauses_hold.true ∙ (rw c.as_slice.ensures at c.clauses_hold.ensures))

pub returns-then-stage-eq0-clause-runs : goal.returns-then-stage-eq0-clause-runs
returns-then-stage-eq0-clause-runs c = λ level site close body rest behind.
    let nodes = c.args.t.now in
    back_out nodes level c.args.stage.now site (head_made (tree_of nodes) close c.args.head.now) body rest behind (sym c.if-not-clauses_hold.false ∙ (rw c.as_slice.ensures at c.clauses_hold.ensures)) c.if-stage-eq0.true

pub returns-clause-runs : goal.returns-clause-runs
returns-clause-runs c = λ level site close body rest behind.
    let nodes = c.args.t.now in
    back_turn nodes level c.args.stage.now site (head_made (tree_of nodes) close c.args.head.now) body rest behind _ (c.args.stage.now.turns - 1) (sym c.if-not-clauses_hold.false ∙ (rw c.as_slice.ensures at c.clauses_hold.ensures)) (omega (arith, c.if-stage-eq0.false)) (c.test_loop.ensures level site close body rest behind)
