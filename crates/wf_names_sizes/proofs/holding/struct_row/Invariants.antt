use Rattle.std.proofs.Common.{◌≡◌, ◌++◌, drop}
use Rattle.wf_names_sizes.specs.StructSizes.{structs_in}
use Rattle.wf_names_sizes.proofs.holding.struct_row.Given as goal

abbrev pub invariant-loop-field : goal.invariant-loop-field
invariant-loop-field l = l.row ++ structs_in (drop l.field-index l.fields) ≡ structs_in l.fields
