use Rattle.wf_ast.specs.TypedTrees.{operator_kind}
use Rattle.wf_ast.specs.OperatorForms.{order_in}
use Rattle.wf_ast.specs.NodeKinds.{node_number}
use Rattle.wf_exprs.specs.Exprs.{comparand}
use Rattle.wf_exprs.proofs.Growing.{grows_on}
use Rattle.wf_exprs_nodes.proofs.ConditionLaws.{compared_as_are}
use Rattle.wf_exprs_nodes.proofs.SliceLaws.{rated_kept}
use Rattle.wf_exprs_nodes.proofs.conditions.numbers_compared.Goals as goal

pub returns-clause-grows : goal.returns-clause-grows
returns-clause-grows c = grows_on (grows_on c.comparand.ensures.grows c.comparand-2.ensures.grows) c.side_by_side.ensures.grows

pub returns-clause-made : goal.returns-clause-made
returns-clause-made c =
    let names = c.args.scope.now.names in
    let nodes = c.args.scope.now.nodes in
    compared_as_are c.comparand-2.new.u c.side_by_side.new.u (order_in (operator_kind c.args.op)) c.in_ok-left.left c.in_ok-right.right
    (comparand names (node_number nodes c.args.a)) (comparand names (node_number nodes c.args.b)) c.side_by_side.result
    (rated_kept _ _ _ _ c.comparand-2.ensures.grows c.in_ok-left.ensures.made) c.in_ok-right.ensures.made c.side_by_side.ensures.made
