use Rattle.std.proofs.Common.{map, take}
use Rattle.wf_ast.specs.TypedPackage.{variable_of}
use Rattle.wf_exprs.specs.Grown.{Grows}
use Rattle.wf_lower.specs.Bodies.{wrong_args}
use Rattle.wf_lower.specs.Methods.{HasTests}
use Rattle.wf_lower.proofs.entries.wrong_args.Given as goal

-- The tests of the arguments so far are there.
abbrev pub invariant-loop-x : goal.invariant-loop-x
invariant-loop-x l = record {
  grows : Grows l.fn.u l.u;
  made : HasTests l.u l.tests (wrong_args (map (variable_of l.e.nodes) (take l.x-index l.e.method.args)));
}
