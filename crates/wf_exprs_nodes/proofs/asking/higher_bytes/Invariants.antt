use Rattle.std.proofs.Common.{◌≤◌, ◌-◌, ◌/◌}
use Rattle.wf_base.specs.BaseTable.{bits_of}
use Rattle.wf_exprs.specs.Exprs.{bytes_ahead}
use Rattle.wf_exprs.specs.Grown.{Grows}
use Rattle.wf_exprs_nodes.specs.Trees.{HasOperands}
use Rattle.wf_exprs_nodes.proofs.asking.higher_bytes.Given as goal

-- The unit has the bytes so far.
abbrev pub invariant-loop-below : goal.invariant-loop-below
invariant-loop-below l = record {
  from : 2 ≤ l.below;
  within : l.below ≤ bits_of l.width / 8;
  grows : Grows l.fn.u l.u;
  has : HasOperands l.u l.others (bytes_ahead l.scope.names l.a (bits_of l.width) l.big 2 (l.below - 2));
}
