use Rattle.std.proofs.Common.{◌≡◌, max, drop}
use Rattle.c_step_cells.specs.Chains.{initials_cells}
use Rattle.c_step_cells.proofs.called.initials_cells.Given as goal

abbrev pub invariant-loop-it : goal.invariant-loop-it
invariant-loop-it l = max l.most (initials_cells l.code.text l.table (drop l.it-index l.initials)) ≡ initials_cells l.code.text l.table l.initials
