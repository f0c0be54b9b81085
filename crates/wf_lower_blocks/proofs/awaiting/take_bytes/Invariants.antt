use Rattle.std.proofs.Common.{◌≤◌, ◌-◌}
use Rattle.wf_base.specs.BaseTable.{bytes_of, read_width}
use Rattle.c_text.specs.CNodes.{code_of}
use Rattle.wf_exprs.specs.Grown.{Grows, HasCode}
use Rattle.wf_lower_stmts.specs.BodyNodes.{form_in}
use Rattle.wf_lower_stmts.specs.Statements.{take_bytes}
use Rattle.wf_lower_blocks.proofs.awaiting.take_bytes.Given as goal

-- So many bytes are taken before what follows.
abbrev pub invariant-loop-taken : goal.invariant-loop-taken
invariant-loop-taken l = record {
  within : l.taken ≤ bytes_of (read_width l.form);
  grows : Grows l.fn.u l.u;
  made : HasCode l.u l.code.0 (take_bytes (form_in l.b).names l.a l.form l.taken (code_of l.fn.u l.fn.rest.0));
}

abbrev pub decreases-loop-taken : goal.decreases-loop-taken
decreases-loop-taken l = bytes_of (read_width l.form) - l.taken
