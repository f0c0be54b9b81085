use Rattle.wf_names_cycles.proofs.StructLemmas.{structs-decided}
use Rattle.wf_names_cycles.proofs.cycles_found.holds_itself.Goals as goal

pub returns : goal.returns
returns c = λ d s.
    let structs = c.args.structs.now in
    structs-decided d structs.names.items s.rows s.names s.made c.args.found.now c.on_cycles.new.found (c.on_cycles.ensures s.rows s.cycles)
