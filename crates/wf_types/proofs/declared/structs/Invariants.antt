use Rattle.std.proofs.Common.{◌≡◌, ◌++◌, drop, map}
use Rattle.wf_types.specs.DeclaredNodes.{declared_struct}
use Rattle.wf_types.proofs.declared.structs.Given as goal

abbrev pub invariant-loop-number : goal.invariant-loop-number
invariant-loop-number l = (l.all ++ map (declared_struct l.nodes) (drop l.number l.nodes.structs)) ≡ map (declared_struct l.nodes) l.nodes.structs
