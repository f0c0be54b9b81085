use Rattle.std.proofs.Common.{◌∙◌, sym}
use Rattle.wf_ast.specs.TypedTrees.{head_made, tree_of}
use Rattle.wf_mean_flows.proofs.LoopLaws.{enters, enters_not}
use Rattle.wf_mean_flows.proofs.looping.enter_loop.Goals as goal

pub returns-then-clauses_hold : goal.returns-then-clauses_hold
returns-then-clauses_hold c = λ level site close body rest behind.
    let nodes = c.args.t.now in
    enters nodes level c.args.stage.now site (head_made (tree_of nodes) close c.args.head.now) body rest behind _ (sym c.if-clauses_hold.true ∙ (rw c.as_slice.ensures at c.clauses_hold.ensures)) (c.test_loop.ensures level site close body rest behind)

pub returns-else-clauses_hold : goal.returns-else-clauses_hold
returns-else-clauses_hold c = λ level site close body rest behind.
    let nodes = c.args.t.now in
    enters_not nodes level c.args.stage.now site (head_made (tree_of nodes) close c.args.head.now) body rest behind (sym c.if-clauses_hold.false ∙ (rw c.as_slice.ensures at c.clauses_hold.ensures))
