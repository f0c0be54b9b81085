use Rattle.std.proofs.Common.{◌≡◌, ◌++◌, drop, map}
use Rattle.wf_names_sizes.specs.StructSizes.{structs_in}
use Rattle.wf_names_sizes.proofs.holding.struct_rows.Given as goal

abbrev pub invariant-loop-fields : goal.invariant-loop-fields
invariant-loop-fields l = l.rows.items ++ map structs_in (drop l.fields-index l.sizes.structs.items) ≡ map structs_in l.sizes.structs.items
