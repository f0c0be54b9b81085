use Rattle.std.proofs.Common.{◌≡◌, IsTrue}
use Rattle.wf_ast.specs.NodeKinds.{is_slice_at, node_slice}
use Rattle.wf_lower_stmts.specs.Statements.{slice_bits}
use Rattle.wf_lower_blocks.proofs.performing.cut_from.Given as goal

-- What is left of the cuts has elements as wide.
abbrev pub invariant-loop-base : goal.invariant-loop-base
invariant-loop-base l = record {
  node : IsTrue (is_slice_at l.t l.whole);
  bits : slice_bits (node_slice l.t l.fn.e) ≡ slice_bits (node_slice l.t l.whole);
}

abbrev pub decreases-loop-base : goal.decreases-loop-base
decreases-loop-base l = l.whole.0
