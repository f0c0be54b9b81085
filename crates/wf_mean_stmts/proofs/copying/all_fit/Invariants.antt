use Rattle.std.proofs.Common.{◌≡◌, drop, length}
use Rattle.std.specs.List.{list_all}
use Rattle.wf_meaning.specs.World.{fits_store}
use Rattle.wf_mean_exprs.specs.MachineState.{store_seen}
use Rattle.wf_mean_stmts.specs.Copies.{elements_on}
use Rattle.wf_mean_stmts.proofs.copying.all_fit.Given as goal

-- Where those that follow fit, all do.
abbrev pub invariant-loop-i : goal.invariant-loop-i
invariant-loop-i l = record {
  end : l.i-end ≡ length (elements_on l.t l.stage l.span);
  all : list_all (fits_store (store_seen l.store)) (elements_on l.t l.stage l.span) ≡ list_all (fits_store (store_seen l.store)) (drop l.i (elements_on l.t l.stage l.span));
}
