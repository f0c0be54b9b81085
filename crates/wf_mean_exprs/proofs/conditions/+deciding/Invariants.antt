use Rattle.std.proofs.Common.{◌≡◌, ◌+◌, ◌*◌, ◌≤◌, drop, map}
use Rattle.wf_ast.specs.TypedTrees.{operator_kind}
use Rattle.wf_ast.specs.Value.{truth_of}
use Rattle.wf_ast.specs.NodeKinds.{node_cond}
use Rattle.wf_mean_exprs.specs.MachineState.{seen_from}
use Rattle.wf_mean_exprs.specs.Conditions.{chain_truth, joins_both}
use Rattle.wf_mean_exprs.proofs.conditions.+deciding.Given as goal

abbrev pub decreases-truth : goal.decreases-truth
decreases-truth l = 8 * l.e.0 + 7

abbrev pub decreases-negated : goal.decreases-negated
decreases-negated l = 8 * l.e.0 + 6

abbrev pub decreases-truth_of_chain : goal.decreases-truth_of_chain
decreases-truth_of_chain l = 8 * l.e.0 + 6

abbrev pub decreases-truth_of_junction : goal.decreases-truth_of_junction
decreases-truth_of_junction l = 8 * l.e.0 + 5

-- What is left of the chain, from the value of the part so far, is what the whole chain is.
abbrev pub invariant-truth_of_junction-loop-i : goal.invariant-truth_of_junction-loop-i
invariant-truth_of_junction-loop-i l = record {
  from : 1 ≤ l.i;
  left : chain_truth (seen_from l.scene) (joins_both (operator_kind l.op)) l.so_far (map (node_cond l.scene.package.now) (drop l.i l.parts)) ≡ truth_of (seen_from l.scene) (node_cond l.scene.package.now l.fn.e);
}
