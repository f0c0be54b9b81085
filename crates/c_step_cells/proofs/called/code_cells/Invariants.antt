use Rattle.std.proofs.Common.{◌≡◌, max, drop}
use Rattle.c_step_cells.specs.Chains.{code_cells}
use Rattle.c_step_cells.proofs.called.code_cells.Given as goal

abbrev pub invariant-loop-it : goal.invariant-loop-it
invariant-loop-it l = max l.most (code_cells l.table (drop l.it-index l.code)) ≡ code_cells l.table l.code
