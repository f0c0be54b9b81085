use Rattle.std.proofs.Common.{◌≤◌, length}
use Rattle.wf_names_sizes.proofs.HoldingLemmas.{rows-end, rows-graph}
use Rattle.wf_names_sizes.proofs.holding.struct_rows.Goals as goal

pub returns : goal.returns
returns c = λ d sizes few.
    let structs = c.args.sizes.now.structs.items in
    let past : length structs ≤ c.loop-fields.fields-index = rw c.as_slice-fields-items.ensures.value at c.loop-fields-test.false in
    rows-graph d structs c.loop-fields.rows.items sizes.structs (rows-end structs c.loop-fields.rows.items c.loop-fields.fields-index past c.loop-fields.invariant) few
