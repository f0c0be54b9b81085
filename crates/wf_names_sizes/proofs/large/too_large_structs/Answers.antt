use Rattle.std.proofs.Common.{◌∙◌}
use Rattle.wf_names_sizes.proofs.LargeLaws.{larges-step}
use Rattle.wf_names_sizes.proofs.large.too_large_structs.Goals as goal

pub loop-fields-preserved : goal.loop-fields-preserved
loop-fields-preserved c =
    larges-step c.args.flags.now c.args.sizes.now c.args.structs.now c.loop-fields.fields-index c.fields-item.result c.fields-item.is c.loop-fields-test.true c.loop-fields.found _
    (rw c.as_slice.ensures at c.too_large_struct.ensures) ∙ c.loop-fields.invariant
