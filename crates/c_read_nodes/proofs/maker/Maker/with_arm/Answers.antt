use Rattle.c_read_nodes.specs.declared.statements.Statement.TheVariants as says
use Rattle.c_read_nodes.proofs.BlockLaws.{grew_statement, arm_code}
use Rattle.c_read_nodes.proofs.maker.Maker.with_arm.Goals as goal

pub in_front-requires-clause-parts : goal.in_front-requires-clause-parts
in_front-requires-clause-parts c = grew_statement c.args.self.now.unit c.nothing.new.self.unit (says.If c.args.later) c.in_ok-end.ensures.grows c.requires.parts

pub returns-clause-code : goal.returns-clause-code
returns-clause-code c = arm_code c.args.self.now.unit c.nothing.new.self.unit c.in_front.new.self.unit c.args.later c.args.arm c.in_ok-end.end c.in_ok-other.other c.in_ok-end.ensures.grows c.in_ok-other.ensures.grows c.requires.parts c.requires.test c.requires.body c.in_ok-end.ensures.code.1 c.in_ok-other.ensures.code.1
