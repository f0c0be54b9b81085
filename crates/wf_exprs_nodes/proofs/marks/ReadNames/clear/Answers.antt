use Rattle.wf_exprs_nodes.proofs.WalkLaws.{none_set_next, up_to_next}
use Rattle.wf_exprs_nodes.proofs.marks.ReadNames.clear.Goals as goal

pub invariant_of-self : goal.invariant_of-self
invariant_of-self c = up_to_next c.self.inside.walk c.in-Some.walk c.self.inside.walks.items c.in-Some.ensures.1 c.self.invariant

pub returns-in-Some : goal.returns-in-Some
returns-in-Some c = none_set_next c.self.inside.walk c.in-Some.walk c.self.inside.walks.items c.in-Some.ensures.1 c.self.invariant
