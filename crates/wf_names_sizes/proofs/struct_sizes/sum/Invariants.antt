use Rattle.std.proofs.Common.{◌≡◌, drop, Some}
use Rattle.wf_names_sizes.specs.StructSizes.{sum_after}
use Rattle.wf_names_sizes.proofs.struct_sizes.sum.Given as goal

abbrev pub invariant-loop-field : goal.invariant-loop-field
invariant-loop-field l = sum_after l.flags l.sizes l.sum (drop l.field-index l.row) ≡ sum_after l.flags l.sizes (Some 0) l.row
