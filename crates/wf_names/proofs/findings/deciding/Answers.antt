use Rattle.wf_names_scopes.proofs.PackageLemmas.{on_ok}
use Rattle.wf_names.proofs.DecidingLemmas.{all-decide, flags-hold, order-stands}
use Rattle.wf_names.proofs.findings.deciding.Goals as goal
use Rattle.wf_names_rules.specs.Declarations.{declared_in}

pub size_breaks-requires-clause-holding : goal.size_breaks-requires-clause-holding
size_breaks-requires-clause-holding c = flags-hold (declared_in c.args.parsed.now) c.args.cycles.now.structs c.requires.cycles.structs

pub size_breaks-requires-clause-order : goal.size_breaks-requires-clause-order
size_breaks-requires-clause-order c = order-stands (declared_in c.args.parsed.now) c.args.cycles.now.structs c.requires.cycles.structs

pub returns : goal.returns
returns c =
    let d = declared_in c.args.parsed.now in
    let last = c.cycle_breaks.new.found in
    let all = c.size_breaks.new.found in
    on_ok c.size_breaks.result (λ b. all-decide d c.args.found.now last all c.requires.named (c.cycle_breaks.ensures d c.requires.cycles) b) c.size_breaks.ensures
