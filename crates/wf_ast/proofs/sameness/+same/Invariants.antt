use Rattle.std.proofs.Common.{◌≡◌, drop}
use Rattle.wf_ast.specs.TypedTrees.{tree_of}
use Rattle.wf_ast.specs.TypedInvariant.{parts_of}
use Rattle.wf_ast.specs.SameNodes.{all_same}
use Rattle.wf_ast.proofs.sameness.+same.Given as goal

abbrev pub decreases-same : goal.decreases-same
decreases-same l = l.a.0

-- The parts so far are the same, so all are where those that are left are.
abbrev pub invariant-loop-i : goal.invariant-loop-i
invariant-loop-i l = all_same (tree_of l.t) (drop l.i (parts_of l.one)) (drop l.i (parts_of l.other)) ≡ all_same (tree_of l.t) (parts_of l.one) (parts_of l.other)
