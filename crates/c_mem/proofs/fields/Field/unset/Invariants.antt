use Rattle.std.proofs.Common.{◌≡◌, replicate}
use Rattle.c_meaning.specs.declared.cells.Cell.TheVariants.{Unset as unset}
use Rattle.c_mem.proofs.fields.Field.unset.Given as goal

abbrev pub invariant-loop : goal.invariant-loop
invariant-loop l = l.cells.items ≡ replicate l.counter unset
