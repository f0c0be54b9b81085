use Rattle.std.proofs.Common.{◌∙◌, refl, sym, ap, Some}
use Rattle.wf_ast.specs.TypedTrees.{head_made, tree_of}
use Rattle.wf_mean_flows.specs.Loops.{turned_on}
use Rattle.wf_mean_flows.proofs.LoopLaws.{left_loop}
use Rattle.wf_mean_flows.proofs.looping.test_loop.Goals as goal

pub returns-else-holds : goal.returns-else-holds
returns-else-holds c = λ level site close body rest behind.
    let nodes = c.args.t.now in
    left_loop nodes level c.args.stage.now site (head_made (tree_of nodes) close c.args.head.now) body rest behind _ (ap Some (sym c.if-holds.false) ∙ c.in-Some.ensures) refl ∙ ap (turned_on nodes level c.args.stage.now site (head_made (tree_of nodes) close c.args.head.now) body rest behind) (sym c.break_loop.ensures)
