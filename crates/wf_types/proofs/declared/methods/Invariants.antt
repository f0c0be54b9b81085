use Rattle.std.proofs.Common.{◌≡◌, ◌++◌, drop, map}
use Rattle.wf_types.specs.DeclaredNodes.{declared_method}
use Rattle.wf_types.proofs.declared.methods.Given as goal

abbrev pub invariant-loop-number : goal.invariant-loop-number
invariant-loop-number l = (l.all ++ map (declared_method l.nodes) (drop l.number l.nodes.methods)) ≡ map (declared_method l.nodes) l.nodes.methods
