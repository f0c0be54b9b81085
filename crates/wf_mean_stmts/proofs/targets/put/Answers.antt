use Rattle.std.proofs.Common.{◌∙◌, refl, sym, subst, true}
use Rattle.wf_ast.specs.TypedTree.{Target}
use Rattle.wf_ast.specs.TypedTrees.{tree_of}
use Rattle.wf_meaning.specs.World.{put_value}
use Rattle.wf_mean_exprs.specs.MachineState.{slot_seen}
use Rattle.wf_mean_stmts.specs.Stages.{Comes, body_on, vars_on}
use Rattle.wf_mean_stmts.proofs.ChainTargets.{chain_no_target}
use Rattle.wf_mean_stmts.proofs.targets.put.Goals as goal

pub returns-in-Chain-clause-vars : goal.returns-in-Chain-clause-vars
returns-in-Chain-clause-vars c =
    let nodes = c.args.t.now in
    let stage = c.args.stage.now in
    let P : Target → Type 0 = λ target. Comes true (put_value (body_on nodes stage) target (slot_seen c.args.v) (vars_on nodes stage)) (vars_on nodes stage) in
    subst P
    (sym (chain_no_target nodes (tree_of nodes) _ _ _ _ _ c.in-Chain.op c.in-Chain.parts (tree_of nodes c.args.target) (sym c.constant.ensures ∙ c.in-None.is) c.in-Chain.is c.expr-expr.ensures.kinds c.expr-expr.ensures.made))
    refl
