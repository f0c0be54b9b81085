use Rattle.std.proofs.Common.{◌≡◌, List, ◌++◌, drop}
use Rattle.wf_ast.specs.TypedPackage.{package_of}
use Rattle.c_text.specs.CTree.{ItemTree}
use Rattle.wf_exprs_nodes.specs.Growth.{GrowsBy}
use Rattle.wf_lower.specs.Unit.{struct_items}
use Rattle.wf_lower.proofs.lowering.add_structs.Given as goal

-- The structs so far were added, and with those that are left they are all.
abbrev pub invariant-loop-i : goal.invariant-loop-i
invariant-loop-i l = record {
  added : List ItemTree;
  grows : GrowsBy added l.fn.u l.u;
  left : added ++ struct_items (package_of l.p.t.now) (drop l.i l.order) ≡ struct_items (package_of l.p.t.now) l.order;
}
