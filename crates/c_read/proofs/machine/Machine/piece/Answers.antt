use Rattle.c_read.proofs.ReadLaws.{too_deep_there, refused_there, taken_there}
use Rattle.c_read.proofs.machine.Machine.piece.Goals as goal

pub returns-then-is_too_deep-clause-step : goal.returns-then-is_too_deep-clause-step
returns-then-is_too_deep-clause-step c = too_deep_there c.args.at c.args.depth c.args.kind c.args.text.now c.args.rest.now c.args.self.now c.args.self.now c.is_too_deep.result c.is_too_deep.ensures c.if-is_too_deep.true

pub returns-then-not-taken-clause-step : goal.returns-then-not-taken-clause-step
returns-then-not-taken-clause-step c = refused_there c.args.at c.args.depth c.args.kind c.args.text.now c.args.rest.now c.args.self.now c.step.new.self c.is_too_deep.result c.in_ok-taken.taken c.requires.few c.is_too_deep.ensures c.if-is_too_deep.false c.in_ok-taken.ensures.answers c.if-not-taken.true

pub returns-clause-step : goal.returns-clause-step
returns-clause-step c = taken_there c.args.at c.args.depth c.open_after.result c.args.kind c.args.text.now c.args.rest c.args.self.now c.step.new.self c.is_too_deep.result c.in_ok-taken.taken c.requires.few c.is_too_deep.ensures c.if-is_too_deep.false c.in_ok-taken.ensures.answers c.if-not-taken.false c.open_after.ensures
