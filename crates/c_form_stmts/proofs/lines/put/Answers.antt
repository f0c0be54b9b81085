use Rattle.c_form_stmts.proofs.LineLemmas.{put_has, put_left, put_size}
use Rattle.c_form_stmts.proofs.lines.put.Goals as goal

pub returns-clause-has : goal.returns-clause-has
returns-clause-has c = put_has c.args.unit.now c.args.left.now.items c.push.new.self.items (record { stmt = c.args.stmt; switched = c.args.switched }) c.in_ok-push.ensures.items c.requires.has c.requires.stmt

pub returns-clause-lines : goal.returns-clause-lines
returns-clause-lines c = put_left c.args.unit.now c.args.left.now.items c.push.new.self.items (record { stmt = c.args.stmt; switched = c.args.switched }) c.in_ok-push.ensures.items

pub returns-clause-size : goal.returns-clause-size
returns-clause-size c = put_size c.args.unit.now c.args.left.now.items c.push.new.self.items (record { stmt = c.args.stmt; switched = c.args.switched }) c.in_ok-push.ensures.items
