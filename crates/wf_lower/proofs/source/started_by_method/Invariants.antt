use Rattle.std.proofs.Common.{◌≡◌, ◌++◌, drop, map}
use Rattle.wf_ast.specs.TypedPackage.{package_of}
use Rattle.wf_lower_stmts.specs.BodyNodes.{started_of}
use Rattle.wf_lower.proofs.source.started_by_method.Given as goal

-- With those of the methods that are left, these are all.
abbrev pub invariant-loop-m : goal.invariant-loop-m
invariant-loop-m l = l.started ++ map started_of (drop l.m (package_of l.t).methods) ≡ map started_of (package_of l.t).methods
