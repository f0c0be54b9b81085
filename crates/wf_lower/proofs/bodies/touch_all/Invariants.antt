use Rattle.std.proofs.Common.{◌+◌, ◌≤◌, drop, length}
use Rattle.c_text.specs.CNodes.{code_of}
use Rattle.wf_exprs.specs.Grown.{Grows, HasCode}
use Rattle.wf_lower.specs.Bodies.{touched}
use Rattle.wf_lower.specs.Methods.{names_in}
use Rattle.wf_lower.proofs.bodies.touch_all.Given as goal

-- The names from this one on are done.
abbrev pub invariant-loop-left : goal.invariant-loop-left
invariant-loop-left l = record {
  within : l.left ≤ length l.params + length l.locals;
  grows : Grows l.fn.u l.u;
  made : HasCode l.u l.front.0 (touched (drop l.left (names_in l.fn.u l.params l.locals)) (code_of l.fn.u l.fn.code.0) (code_of l.fn.u l.fn.code.0));
}

abbrev pub decreases-loop-left : goal.decreases-loop-left
decreases-loop-left l = l.left
