use Rattle.graphs.proofs.WalkLemmas.{nothing-walked}
use Rattle.graphs.proofs.walk.nowhere.Goals as goal

pub returns-clause-walks : goal.returns-clause-walks
returns-clause-walks c = λ rows e.
    nothing-walked rows (record { order = c.new.result; path = c.new-2.result; begun = c.in_ok-begun.begun; passed = c.in_ok-passed.passed }) c.args.count e
    c.new.ensures.items c.new-2.ensures.items c.in_ok-begun.ensures.len c.in_ok-begun.ensures.none c.in_ok-passed.ensures.len c.in_ok-passed.ensures.zero
