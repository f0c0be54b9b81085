use Rattle.wf_names_cycles.specs.CyclesFound.{ArePackageCycles}
use Rattle.wf_names.proofs.DecidingLemmas.{order-of-calls, order-of-structs}
use Rattle.wf_names.proofs.findings.look_through.Goals as goal
use Rattle.wf_names_rules.specs.Declarations.{declared_in}

pub sizes_and_cycles-requires-clause-calls : goal.sizes_and_cycles-requires-clause-calls
sizes_and_cycles-requires-clause-calls c = rw c.as_slice.ensures.value c.in_ok-calls.ensures.rows

pub deciding-requires-clause-named : goal.deciding-requires-clause-named
deciding-requires-clause-named c = rw c.nothing-found.ensures at c.in_ok-calls.ensures.found

pub returns : goal.returns
returns c =
    let d = declared_in c.args.parsed.now in
    let cycles : ArePackageCycles d c.in_ok-sizes.cycles = c.in_ok-sizes.ensures.cycles in
    record {
      decides = rw c.first.ensures c.in_ok-deciding.ensures;
      tables = c.in_ok-tables.ensures;
      order = rw c.into_orders-struct_order.ensures (order-of-calls d c.in_ok-sizes.cycles.methods cycles.methods);
      struct_order = rw c.into_orders-struct_order.ensures (order-of-structs d c.in_ok-sizes.cycles.structs cycles.structs);
    }
