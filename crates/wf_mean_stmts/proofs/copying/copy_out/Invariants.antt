use Rattle.std.proofs.Common.{◌≡◌, ◌<◌, length}
use Rattle.std.specs.Prelude.{slice_get, Some}
use Rattle.wf_base.specs.BaseOps.{Buffer}
use Rattle.wf_mean_exprs.specs.MachineState.{span_seen, store_seen}
use Rattle.wf_mean_stmts.specs.Stages.{shape, vars_on}
use Rattle.wf_mean_stmts.proofs.CopyOutLemmas.{PutSoFar}
use Rattle.wf_mean_stmts.proofs.copying.copy_out.Given as goal

-- So many bytes are written.
abbrev pub invariant-loop-i : goal.invariant-loop-i
invariant-loop-i l = record {
  put : (buffer : Buffer) → slice_get l.fn.stage.host.bufs l.k ≡ Some buffer → PutSoFar (store_seen l.from.store) l.from.from (span_seen l.from).count l.n l.k buffer (vars_on l.t l.fn.stage) l.i (vars_on l.t l.stage);
  there : l.k < length l.stage.host.bufs;
  shape : shape l.stage ≡ shape l.fn.stage;
  turns : l.stage.turns ≡ l.fn.stage.turns;
}
