use Rattle.wf_names_cycles.proofs.SectionLemmas.{methods-decided}
use Rattle.wf_names_cycles.proofs.cycles_found.recursion.Goals as goal

pub returns : goal.returns
returns c = λ d m.
    let methods = c.args.methods.now in
    methods-decided d m.rows m.made methods.names.items m.names c.args.found.now c.on_cycles.new.found (c.on_cycles.ensures m.rows m.cycles)
