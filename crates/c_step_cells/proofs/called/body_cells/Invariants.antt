use Rattle.std.proofs.Common.{◌≡◌, max, drop}
use Rattle.c_step_cells.specs.Chains.{body_cells}
use Rattle.c_step_cells.proofs.called.body_cells.Given as goal

abbrev pub invariant-loop-it : goal.invariant-loop-it
invariant-loop-it l = max l.most (body_cells l.code.text l.table (drop l.it-index l.body)) ≡ body_cells l.code.text l.table l.body
