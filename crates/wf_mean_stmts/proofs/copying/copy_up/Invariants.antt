use Rattle.std.proofs.Common.{◌≡◌}
use Rattle.wf_mean_exprs.specs.MachineState.{span_seen, store_seen}
use Rattle.wf_mean_stmts.specs.Stages.{shape, vars_on}
use Rattle.wf_mean_stmts.proofs.CopyLemmas.{CopiedUp}
use Rattle.wf_mean_stmts.proofs.copying.copy_up.Given as goal

-- So many elements are copied, and those that follow are as they were.
abbrev pub invariant-loop-i : goal.invariant-loop-i
invariant-loop-i l = record {
  copied : CopiedUp (store_seen l.to.store) (store_seen l.from.store) l.to.from l.from.from (span_seen l.from).count l.n (vars_on l.t l.fn.stage).world l.i (vars_on l.t l.stage).world;
  locals : (vars_on l.t l.stage).locals ≡ (vars_on l.t l.fn.stage).locals;
  shape : shape l.stage ≡ shape l.fn.stage;
  turns : l.stage.turns ≡ l.fn.stage.turns;
}
