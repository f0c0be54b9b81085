use Rattle.std.proofs.Common.{◌≡◌, ◌++◌, drop}
use Rattle.wf_ast.specs.TypedPackage.{package_of, public_structs}
use Rattle.wf_surfaces.proofs.surface.structs.Given as goal

abbrev pub invariant-loop-s : goal.invariant-loop-s
invariant-loop-s l = public_structs (package_of l.t).methods 0 (package_of l.t).structs ≡ l.all.items ++ public_structs (package_of l.t).methods l.s (drop l.s (package_of l.t).structs)
