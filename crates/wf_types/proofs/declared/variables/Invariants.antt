use Rattle.std.proofs.Common.{◌≡◌, ◌++◌, drop}
use Rattle.wf_types.specs.DeclaredNodes.{variables_with}
use Rattle.wf_types.proofs.declared.variables.Given as goal

abbrev pub invariant-loop-number : goal.invariant-loop-number
invariant-loop-number l = (l.all ++ variables_with (drop l.number l.of) (drop l.number l.types)) ≡ variables_with l.of l.types
