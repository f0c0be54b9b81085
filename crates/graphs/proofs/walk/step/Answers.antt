use Rattle.std.proofs.Common.{arith}
use Rattle.graphs.proofs.WalkLemmas.{last-within}
use Rattle.graphs.proofs.walk.step.Goals as goal

pub pass-requires-clause-a : goal.pass-requires-clause-a
pass-requires-clause-a c = last-within c.args.rows.now c.args.walk.now c.args.a c.requires.walks c.requires.last

pub leave-requires : goal.leave-requires
leave-requires c = omega (arith, last-within c.args.rows.now c.args.walk.now c.args.a c.requires.walks c.requires.last, c.requires.few)
