use Rattle.std.proofs.Common.{drop}
use Rattle.wf_ast.specs.TypedPackage.{package_of}
use Rattle.wf_points.proofs.LoopLemmas.{NumbersLeft}
use Rattle.wf_points.proofs.deciding.number_methods.Given as goal

-- With the methods that are left, what was found is what is to be found.
abbrev pub invariant-loop-m : goal.invariant-loop-m
invariant-loop-m l = NumbersLeft l.fn.numbers.items l.numbers.items l.refusal (drop l.m (package_of l.t).methods) (package_of l.t).methods
