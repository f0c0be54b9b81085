use Rattle.std.proofs.Common.{◌≤◌, drop, length}
use Rattle.c_text.specs.CNodes.{code_of}
use Rattle.wf_exprs.specs.Grown.{Grows, HasCode}
use Rattle.wf_lower_stmts.specs.BodyNodes.{form_in, for_locals, save_one}
use Rattle.wf_lower_stmts.proofs.keeping.save_locals.Given as goal

-- The kept locals from this one on are done.
abbrev pub invariant-loop-left : goal.invariant-loop-left
invariant-loop-left l = record {
  within : l.left ≤ length l.saved;
  grows : Grows l.fn.u l.u;
  made : HasCode l.u l.code.0 (for_locals (save_one (form_in l.b).method.name) (form_in l.b).names.locals (drop l.left l.saved) (code_of l.fn.u l.fn.rest.0));
}

abbrev pub decreases-loop-left : goal.decreases-loop-left
decreases-loop-left l = l.left
