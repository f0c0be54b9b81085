use Rattle.c_read_nodes.proofs.Putting.{stmt_grew, grown_same, grown_fit}
use Rattle.c_read_nodes.proofs.maker.Maker.in_front.Goals as goal

pub returns-clause-made : goal.returns-clause-made
returns-clause-made c = grown_same c.args.self.now.unit c.add_stmt.new.self c.args.self.now.values (stmt_grew c.args.self.now.unit c.add_stmt.new.self _ c.is_sound.ensures c.in_ok-whole.ensures.ok.1) c.requires.fit

pub returns-clause-fit : goal.returns-clause-fit
returns-clause-fit c = grown_fit c.args.self.now.unit c.add_stmt.new.self c.args.self.now.values (stmt_grew c.args.self.now.unit c.add_stmt.new.self _ c.is_sound.ensures c.in_ok-whole.ensures.ok.1) c.requires.fit

pub returns-clause-grows : goal.returns-clause-grows
returns-clause-grows c = stmt_grew c.args.self.now.unit c.add_stmt.new.self _ c.is_sound.ensures c.in_ok-whole.ensures.ok.1
