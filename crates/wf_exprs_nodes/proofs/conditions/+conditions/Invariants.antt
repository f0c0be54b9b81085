use Rattle.std.proofs.Common.{◌≡◌, ◌+◌, ◌*◌, ◌≤◌, drop, get_or, map, false}
use Rattle.wf_ast.specs.NodeKinds.{node_cond}
use Rattle.c_text.specs.CTree.{Operands}
use Rattle.wf_ast.specs.TypedTrees.{operator_kind}
use Rattle.wf_exprs.specs.Exprs.{begun, lowered_cond}
use Rattle.wf_exprs.specs.Making.{c_op}
use Rattle.wf_exprs.specs.Grown.{Grows, HasExpr}
use Rattle.wf_exprs_nodes.specs.Trees.{HasOperands, conditions_behind}
use Rattle.wf_exprs_nodes.proofs.ChainLaws.{appended}
use Rattle.wf_exprs_nodes.proofs.conditions.+conditions.Given as goal

abbrev pub decreases-condition : goal.decreases-condition
decreases-condition l = 8 * l.e.0 + 7

abbrev pub decreases-opposite : goal.decreases-opposite
decreases-opposite l = 8 * l.e.0 + 6

abbrev pub decreases-chain : goal.decreases-chain
decreases-chain l = 8 * l.e.0 + 6

abbrev pub decreases-junction : goal.decreases-junction
decreases-junction l = 8 * l.e.0 + 5

-- The unit has the first two operands and those after them so far, and with those that are left they are all.
abbrev pub invariant-junction-loop-i : goal.invariant-junction-loop-i
invariant-junction-loop-i l = record {
  from : 2 ≤ l.i;
  grows : Grows l.fn.u l.u;
  one : HasExpr l.u l.first.0 (begun false (c_op (operator_kind l.op)) (lowered_cond l.scope.names (node_cond l.scope.nodes (get_or l.parts 0 (record { 0 = 0 })))) (lowered_cond l.scope.names (node_cond l.scope.nodes (get_or l.parts 1 (record { 0 = 0 })))));
  two : HasExpr l.u l.second.0 (lowered_cond l.scope.names (node_cond l.scope.nodes (get_or l.parts 1 (record { 0 = 0 }))));
  so_far : Operands;
  has : HasOperands l.u l.others so_far;
  left : appended so_far (conditions_behind l.scope.names (map (node_cond l.scope.nodes) (drop l.i l.parts))) ≡ conditions_behind l.scope.names (map (node_cond l.scope.nodes) (drop 2 l.parts));
}
