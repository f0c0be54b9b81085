use Rattle.std.proofs.Common.{ap}
use Rattle.wf_exprs.specs.Words.{of_self}
use Rattle.wf_exprs.proofs.Growing.{grows_on, retell}
use Rattle.wf_exprs.proofs.nodes.of_self.Goals as goal

pub returns-clause-grows : goal.returns-clause-grows
returns-clause-grows c = grows_on c.put_name.ensures.grows c.member_of_self.ensures.grows

pub returns-clause-made : goal.returns-clause-made
returns-clause-made c = retell _ _ _ c.member_of_self.result (ap of_self c.in_ok-field.ensures.made.is) c.member_of_self.ensures.made
