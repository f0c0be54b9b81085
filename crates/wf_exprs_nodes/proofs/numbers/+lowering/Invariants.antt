use Rattle.std.proofs.Common.{◌≡◌, ◌+◌, ◌*◌, ◌≤◌, drop, get_or, map}
use Rattle.wf_ast.specs.TypedTrees.{num_type, operator_kind, type_of_node}
use Rattle.wf_ast.specs.NodeKinds.{node_number}
use Rattle.c_text.specs.CTree.{Operands}
use Rattle.wf_exprs.specs.Exprs.{Rated, lowered}
use Rattle.wf_exprs.specs.Grown.{Grows}
use Rattle.wf_exprs.specs.Making.{HasRated}
use Rattle.wf_exprs_nodes.specs.Trees.{HasOperands, chain_on, numbers_behind}
use Rattle.wf_exprs_nodes.proofs.ChainLaws.{appended}
use Rattle.wf_exprs_nodes.proofs.numbers.+lowering.Given as goal

abbrev pub decreases-number : goal.decreases-number
decreases-number l = 8 * l.e.0 + 7

abbrev pub decreases-element_of : goal.decreases-element_of
decreases-element_of l = 8 * l.e.0 + 6

abbrev pub decreases-chain : goal.decreases-chain
decreases-chain l = 8 * l.e.0 + 6

abbrev pub decreases-operation_chain : goal.decreases-operation_chain
decreases-operation_chain l = 8 * l.e.0 + 5

abbrev pub decreases-linked_chain : goal.decreases-linked_chain
decreases-linked_chain l = 8 * l.e.0 + 5

abbrev pub decreases-conversion : goal.decreases-conversion
decreases-conversion l = 8 * l.e.0 + 6

abbrev pub decreases-answer : goal.decreases-answer
decreases-answer l = 8 * l.e.0 + 6

abbrev pub decreases-length_of : goal.decreases-length_of
decreases-length_of l = 8 * l.e.0 + 5

abbrev pub decreases-cells : goal.decreases-cells
decreases-cells l = 8 * l.e.0 + 7

abbrev pub decreases-cut : goal.decreases-cut
decreases-cut l = 8 * l.e.0 + 6

abbrev pub decreases-end : goal.decreases-end
decreases-end l = 8 * l.e.0 + 5

-- The unit has the first two operands and those after them so far, and with those that are left they are all.
abbrev pub invariant-operation_chain-loop-i : goal.invariant-operation_chain-loop-i
invariant-operation_chain-loop-i l = record {
  from : 2 ≤ l.i;
  grows : Grows l.fn.u l.u;
  one : HasRated l.u l.first (lowered l.scope.names (node_number l.scope.nodes (get_or l.parts 0 (record { 0 = 0 }))));
  two : HasRated l.u l.second (lowered l.scope.names (node_number l.scope.nodes (get_or l.parts 1 (record { 0 = 0 }))));
  so_far : Operands;
  has : HasOperands l.u l.others so_far;
  left : appended so_far (numbers_behind l.scope.names (map (node_number l.scope.nodes) (drop l.i l.parts))) ≡ numbers_behind l.scope.names (map (node_number l.scope.nodes) (drop 2 l.parts));
}

-- What is left of the chain, on from what stands left of it, is the whole chain.
abbrev pub invariant-linked_chain-loop-i : goal.invariant-linked_chain-loop-i
invariant-linked_chain-loop-i l = record {
  from : 1 ≤ l.i;
  grows : Grows l.fn.u l.u;
  so_far : Rated;
  has : HasRated l.u l.left so_far;
  rest : chain_on l.scope.names (operator_kind l.op) (num_type (type_of_node l.scope.nodes l.fn.e.0)).bits so_far (map (node_number l.scope.nodes) (drop l.i l.parts)) ≡ lowered l.scope.names (node_number l.scope.nodes l.fn.e);
}
