use Rattle.std.proofs.Common.{◌≡◌, ◌+◌, ◌*◌, ◌≤◌, drop, map}
use Rattle.wf_ast.specs.TypedTrees.{num_type, operator_kind, type_of_node}
use Rattle.wf_ast.specs.Value.{value}
use Rattle.wf_ast.specs.OperatorForms.{arith_in}
use Rattle.wf_ast.specs.NodeKinds.{node_number}
use Rattle.wf_mean_exprs.specs.MachineState.{seen_from}
use Rattle.wf_mean_exprs.specs.Operands.{chain_value}
use Rattle.wf_mean_exprs.proofs.numbers.+valuing.Given as goal

abbrev pub decreases-number : goal.decreases-number
decreases-number l = 8 * l.e.0 + 7

abbrev pub decreases-number_of_element : goal.decreases-number_of_element
decreases-number_of_element l = 8 * l.e.0 + 6

abbrev pub decreases-number_of_chain : goal.decreases-number_of_chain
decreases-number_of_chain l = 8 * l.e.0 + 6

abbrev pub decreases-converted : goal.decreases-converted
decreases-converted l = 8 * l.e.0 + 6

abbrev pub decreases-answer : goal.decreases-answer
decreases-answer l = 8 * l.e.0 + 6

abbrev pub decreases-length_of_slice : goal.decreases-length_of_slice
decreases-length_of_slice l = 8 * l.e.0 + 5

abbrev pub decreases-slice : goal.decreases-slice
decreases-slice l = 8 * l.e.0 + 7

abbrev pub decreases-cut_slice : goal.decreases-cut_slice
decreases-cut_slice l = 8 * l.e.0 + 6

abbrev pub decreases-end_or : goal.decreases-end_or
decreases-end_or l = 8 * l.e.0 + 5

-- What is left of the chain, from the value of the part so far, is what the whole chain is.
abbrev pub invariant-number_of_chain-loop-i : goal.invariant-number_of_chain-loop-i
invariant-number_of_chain-loop-i l = record {
  from : 1 ≤ l.i;
  left : chain_value (seen_from l.scene) (arith_in (operator_kind l.op)) (num_type (type_of_node l.scene.package.now l.fn.e.0)).bits l.so_far (map (node_number l.scene.package.now) (drop l.i l.parts)) ≡ value (seen_from l.scene) (node_number l.scene.package.now l.fn.e);
}
