use Rattle.std.proofs.Common.{◌≡◌, ◌++◌, drop}
use Rattle.wf_ast.specs.TypedPackage.{package_of, public_methods}
use Rattle.wf_surfaces.proofs.surface.methods.Given as goal

abbrev pub invariant-loop-m : goal.invariant-loop-m
invariant-loop-m l = public_methods l.s 0 (package_of l.t).methods ≡ l.all.items ++ public_methods l.s l.m (drop l.m (package_of l.t).methods)
