use Rattle.std.proofs.Common.{◌≤◌, drop, length}
use Rattle.c_text.specs.CNodes.{code_of}
use Rattle.wf_exprs.specs.Grown.{Grows, HasCode}
use Rattle.wf_lower_stmts.specs.BodyNodes.{form_in, picks, places_code}
use Rattle.wf_lower_stmts.proofs.places.move_places.Given as goal

-- The arguments from this one on are done.
abbrev pub invariant-loop-left : goal.invariant-loop-left
invariant-loop-left l = record {
  within : l.left ≤ length l.b.method.args;
  grows : Grows l.fn.u l.u;
  made : HasCode l.u l.code.0 (places_code l.way (form_in l.b).names (picks l.b.nodes l.picked) l.left (drop l.left (form_in l.b).method.args) (code_of l.fn.u l.fn.rest.0));
}

abbrev pub decreases-loop-left : goal.decreases-loop-left
decreases-loop-left l = l.left
