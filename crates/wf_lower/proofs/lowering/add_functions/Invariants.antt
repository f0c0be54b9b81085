use Rattle.std.proofs.Common.{◌≡◌, List, ◌++◌, length}
use Rattle.std.specs.Vec.Iter.{into_iter_items, into_iter_len}
use Rattle.c_text.specs.CTree.{ItemTree}
use Rattle.wf_exprs_nodes.specs.Growth.{GrowsBy}
use Rattle.wf_lower.specs.Made.{FitFunctions, item_trees}
use Rattle.wf_lower.proofs.lowering.add_functions.Given as goal

-- The functions so far were added, and with those that are left they are all.
abbrev pub invariant-loop-item : goal.invariant-loop-item
invariant-loop-item l = record {
  added : List ItemTree;
  grows : GrowsBy added l.fn.u l.u;
  fit : FitFunctions l.u (into_iter_items l.item-iterator);
  left : added ++ item_trees l.u (into_iter_items l.item-iterator) ≡ item_trees l.fn.u l.fn.functions.items;
  long : into_iter_len l.item-iterator ≡ length (into_iter_items l.item-iterator);
}
