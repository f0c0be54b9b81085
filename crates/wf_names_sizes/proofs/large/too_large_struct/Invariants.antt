use Rattle.std.proofs.Common.{◌≡◌, Some, drop}
use Rattle.wf_text.specs.Precedence.{soonest}
use Rattle.wf_names_sizes.specs.StructSizes.{too_large_struct}
use Rattle.wf_names_sizes.proofs.large.too_large_struct.Given as goal

abbrev pub invariant-loop-field : goal.invariant-loop-field
invariant-loop-field l =
    soonest l.found (too_large_struct l.flags l.sizes l.sum (drop l.field-index l.fields)) ≡ soonest l.fn.found (too_large_struct l.flags l.sizes (Some 0) l.fields)
