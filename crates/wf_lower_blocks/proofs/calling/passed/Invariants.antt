use Rattle.std.proofs.Common.{◌∷◌, take}
use Rattle.wf_exprs.specs.Grown.{Grows}
use Rattle.wf_lower_stmts.specs.BodyNodes.{form_in}
use Rattle.wf_lower_stmts.specs.Statements.{receiver_code, values_codes}
use Rattle.wf_lower_blocks.specs.Calls.{HasGiven, called_in, given_in}
use Rattle.wf_lower_blocks.proofs.calling.passed.Given as goal

-- The arguments so far stand after the receiver.
abbrev pub invariant-loop-e : goal.invariant-loop-e
invariant-loop-e l = record {
  grows : Grows l.fn.u l.u;
  made : HasGiven l.u l.args (receiver_code (form_in l.b).names (called_in l.what.called) ∷ values_codes (form_in l.b).names (given_in l.b.nodes (take l.e-index l.what.args.now)));
}
