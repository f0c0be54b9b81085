use Rattle.c_read.proofs.ReadLaws.{end_whole, end_early}
use Rattle.c_read.proofs.machine.Machine.end.Goals as goal

pub returns-then-whole-clause-ending : goal.returns-then-whole-clause-ending
returns-then-whole-clause-ending c = end_whole c.args.at c.args.self.now c.finish.new.self c.in_ok-whole.whole c.in_ok-whole.ensures.answers c.if-whole.true

pub returns-else-whole-clause-ending : goal.returns-else-whole-clause-ending
returns-else-whole-clause-ending c = end_early c.args.at c.args.self.now c.finish.new.self c.in_ok-whole.whole c.in_ok-whole.ensures.answers c.if-whole.false
