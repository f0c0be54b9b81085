use Rattle.std.proofs.Common.{◌≤◌, drop, length, map}
use Rattle.wf_ast.specs.TypedPackage.{package_of, variable_of}
use Rattle.c_text.specs.CNodes.{code_of}
use Rattle.wf_exprs.specs.Grown.{Grows, HasCode}
use Rattle.wf_lower.specs.Unit.{initialize_parts}
use Rattle.wf_lower.proofs.initializing.initialize_parts.Given as goal

-- The fields from this one on are done.
abbrev pub invariant-loop-left : goal.invariant-loop-left
invariant-loop-left l = record {
  within : l.left ≤ length l.fields;
  grows : Grows l.fn.u l.u;
  made : HasCode l.u l.code.0 (initialize_parts (package_of l.t) (drop l.left (map (variable_of l.t) l.fields)) (code_of l.fn.u l.fn.rest.0));
}

abbrev pub decreases-loop-left : goal.decreases-loop-left
decreases-loop-left l = l.left
