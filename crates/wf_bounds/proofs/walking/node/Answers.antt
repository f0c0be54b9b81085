use Rattle.wf_bounds.proofs.NodeLemmas.{stmt_walks, parts_of_stmt, alone_stmt}
use Rattle.wf_bounds.proofs.walking.node.Goals as goal

pub returns-clause-walked : goal.returns-clause-walked
returns-clause-walked c =
    stmt_walks c.args.walk.now.t.now c.requires.ready.typed c.args.walk.now.m.0 c.args.walk.now.sought c.args.s c.stmt.result.now c.requires.known c.stmt.ensures.node c.requires.stands

pub returns-clause-parts : goal.returns-clause-parts
returns-clause-parts c =
    parts_of_stmt c.args.walk.now.t.now c.requires.ready.typed c.args.walk.now.m.0 c.args.s c.stmt.result.now c.requires.known c.stmt.ensures.node c.requires.stands

pub returns-clause-alone : goal.returns-clause-alone
returns-clause-alone c = alone_stmt c.args.walk.now.t.now c.args.s c.stmt.result.now c.stmt.ensures.node
