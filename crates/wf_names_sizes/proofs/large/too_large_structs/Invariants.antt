use Rattle.std.proofs.Common.{◌≡◌, Some, drop}
use Rattle.std.specs.List.{flat_map}
use Rattle.wf_text.specs.Precedence.{soonest}
use Rattle.wf_names_sizes.specs.StructSizes.{too_large_struct}
use Rattle.wf_names_sizes.proofs.large.too_large_structs.Given as goal

abbrev pub invariant-loop-fields : goal.invariant-loop-fields
invariant-loop-fields l =
    soonest l.found (flat_map (too_large_struct l.flags l.sizes (Some 0)) (drop l.fields-index l.structs))
    ≡ soonest l.fn.found (flat_map (too_large_struct l.flags l.sizes (Some 0)) l.structs)
