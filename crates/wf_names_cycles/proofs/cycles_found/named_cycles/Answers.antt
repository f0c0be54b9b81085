use Rattle.wf_names_cycles.proofs.SectionLemmas.{methods-long}
use Rattle.wf_names_cycles.proofs.StructLemmas.{structs-long}
use Rattle.wf_names_cycles.proofs.cycles_found.named_cycles.Goals as goal

pub returns-clause-structs : goal.returns-clause-structs
returns-clause-structs c = λ d made named. record {
  rows = c.args.rows.now;
  made = made;
  names = named;
  cycles = record {
    long = structs-long d c.args.names.items c.args.rows.now named made;
    flags = c.in_ok-cycles.ensures.flags;
    order = c.in_ok-cycles.ensures.order;
  };
}

pub returns-clause-methods : goal.returns-clause-methods
returns-clause-methods c = λ d made named. record {
  rows = c.args.rows.now;
  made = made;
  names = named;
  cycles = record {
    long = methods-long d c.args.rows.now made c.args.names.items named;
    flags = c.in_ok-cycles.ensures.flags;
    order = c.in_ok-cycles.ensures.order;
  };
}
