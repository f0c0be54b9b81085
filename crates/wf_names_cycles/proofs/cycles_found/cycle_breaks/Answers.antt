use Rattle.wf_names_cycles.proofs.SectionLemmas.{cycles-decided}
use Rattle.wf_names_cycles.proofs.cycles_found.cycle_breaks.Goals as goal

pub returns : goal.returns
returns c = λ d cycles.
    cycles-decided d c.args.found.now c.holds_itself.new.found c.recursion.new.found (c.holds_itself.ensures d cycles.structs) (c.recursion.ensures d cycles.methods)
