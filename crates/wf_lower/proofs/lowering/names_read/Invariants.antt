use Rattle.std.proofs.Common.{◌≡◌, ◌||◌, ℕ, List, drop, length}
use Rattle.wf_exprs_nodes.specs.Marks.{is_marked}
use Rattle.wf_lower.specs.Made.{FitFunctions, item_trees}
use Rattle.wf_lower.specs.Unit.{is_used}
use Rattle.wf_lower.proofs.lowering.names_read.Given as goal

-- A name is there, or one of the functions that are left reads it, where one of all reads it.
abbrev pub invariant-loop-item : goal.invariant-loop-item
invariant-loop-item l = record {
  sized : length l.read ≡ length l.u.names;
  fit : FitFunctions l.u (drop l.item-index l.functions);
  left : (name : List ℕ) → (is_marked l.u.names l.read name || is_used (item_trees l.u (drop l.item-index l.functions)) name) ≡ is_used (item_trees l.u l.functions) name;
}
