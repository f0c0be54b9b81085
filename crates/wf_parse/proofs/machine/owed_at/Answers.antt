use Rattle.wf_parse.proofs.Counting.{owed_one, owed_none}
use Rattle.wf_parse.proofs.machine.owed_at.Goals as goal

pub returns-then-want_owes-clause-counted : goal.returns-then-want_owes-clause-counted
returns-then-want_owes-clause-counted c = owed_one c.args.wants.now c.args.depth c.at.result.now c.want_owes.result c.at.ensures c.want_owes.ensures c.if-want_owes.true

pub returns-else-want_owes-clause-counted : goal.returns-else-want_owes-clause-counted
returns-else-want_owes-clause-counted c = owed_none c.args.wants.now c.args.depth c.at.result.now c.want_owes.result c.at.ensures c.want_owes.ensures c.if-want_owes.false
