use Rattle.std.proofs.Common.{◌≡◌, ◌++◌, drop, map}
use Rattle.wf_ast.specs.TypedPackage.{package_of}
use Rattle.wf_points.specs.PointNumbers.{saved_locals}
use Rattle.wf_points.proofs.deciding.saved_by_method.Given as goal

-- With the methods that are left, what was saved is what is to be saved.
abbrev pub invariant-loop-m : goal.invariant-loop-m
invariant-loop-m l = l.saved ++ map saved_locals (drop l.m (package_of l.t).methods) ≡ map saved_locals (package_of l.t).methods
