use Rattle.std.proofs.Common.{◌≡◌, List, ◌++◌, drop}
use Rattle.wf_ast.specs.TypedPackage.{package_of}
use Rattle.c_text.specs.CTree.{ItemTree}
use Rattle.wf_exprs.specs.Grown.{Grows}
use Rattle.wf_lower.specs.Made.{AddsFunctions}
use Rattle.wf_lower.specs.Shared.{HasShared}
use Rattle.wf_lower.specs.Unit.{method_functions}
use Rattle.wf_lower.proofs.lowering.add_methods.Given as goal

-- The functions so far were added, and with those that are left they are all.
abbrev pub invariant-loop-i : goal.invariant-loop-i
invariant-loop-i l = record {
  grows : Grows l.fn.u l.u;
  shared : HasShared l.u l.shared;
  added : List ItemTree;
  adds : AddsFunctions l.fn.u l.u l.fn.functions.items l.functions.items added;
  left : added ++ method_functions (package_of l.p.t.now) (drop l.i l.order) ≡ method_functions (package_of l.p.t.now) l.order;
}
