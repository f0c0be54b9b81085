use Rattle.std.proofs.Common.{refl}
use Rattle.graphs.proofs.WalkLemmas.{enter-advances}
use Rattle.graphs.proofs.walk.enter.Goals as goal

pub returns-clause-walks : goal.returns-clause-walks
returns-clause-walks c = λ rows walks next.
    enter-advances rows c.args.walk.now (record c.args.walk.now { path = c.push.new.self; begun = c.set_flag.new.flags }) c.args.a refl walks refl c.in_ok-push.ensures.items
    c.set_flag.ensures.len c.set_flag.ensures.set next
