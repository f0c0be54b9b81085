use Rattle.wf_meaning.specs.Remaining.{points_in}
use Rattle.wf_meaning.proofs.Numbers.{numbered}
use Rattle.wf_meaning.proofs.Order.{points_ascend}
use Rattle.wf_meaning.proofs.laws.points_are_numbered_in_order.Goals as goal

pub returns-clause-order : goal.returns-clause-order
returns-clause-order c nodes m method typed known = points_ascend nodes typed m method known

pub returns-clause-numbers : goal.returns-clause-numbers
returns-clause-numbers c nodes m i method site typed known e = numbered (points_in method.body) (points_ascend nodes typed m method known) i site e
