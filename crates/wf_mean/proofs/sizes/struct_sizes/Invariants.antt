use Rattle.wf_ast.specs.TypedPackage.{package_of}
use Rattle.wf_mean.specs.Sizes.{HaveSizes}
use Rattle.wf_mean.proofs.sizes.struct_sizes.Given as goal

abbrev pub invariant-loop-i : goal.invariant-loop-i
invariant-loop-i l = HaveSizes (package_of l.t) l.sizes.items l.order l.i
