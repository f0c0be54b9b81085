use Rattle.std.proofs.Common.{◌≡◌, ◌++◌, map, take, drop}
use Rattle.c_mem.proofs.fields.fill.Given as goal

abbrev pub invariant-loop-cell : goal.invariant-loop-cell
invariant-loop-cell l = l.cells ≡ map (λ _. l.it) (take l.cell-index l.initial.cells) ++ drop l.cell-index l.initial.cells
