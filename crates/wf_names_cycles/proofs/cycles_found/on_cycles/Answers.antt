use Rattle.graphs.specs.Graphs.{AreCycles}
use Rattle.wf_names_cycles.proofs.CycleLemmas.{cycles_found-decides}
use Rattle.wf_names_cycles.proofs.cycles_found.on_cycles.Goals as goal

pub returns : goal.returns
returns c = λ rows h.
    let named = c.args.named.now in
    let P : _ → Type 0 = λ n. AreCycles rows named.cycles.flags.items n in
    cycles_found-decides c.args.rule rows named.names.items named.cycles.flags.items c.args.found.now c.flagged.new.found (rw h.long h.flags) (rw (c.as_slice.ensures.value, c.as_slice-2.ensures.value) at c.flagged.ensures)
