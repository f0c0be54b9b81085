use Rattle.std.proofs.Common.{◌≡◌, ◌+◌, ◌*◌, take}
use Rattle.wf_facts_exprs.specs.Claims.{claims_in}
use Rattle.wf_facts.specs.FactLists.{all_added}
use Rattle.wf_facts.specs.IndexedFacts.{IsOver}
use Rattle.wf_facts.specs.Conditions.{facts_of_all}
use Rattle.wf_facts.proofs.list.Facts.+adding_conditions.Given as goal

abbrev pub decreases-add_condition : goal.decreases-add_condition
decreases-add_condition l = 4 * l.e.0 + 3

abbrev pub decreases-add_chain : goal.decreases-add_chain
decreases-add_chain l = 4 * l.e.0 + 2

abbrev pub decreases-add_all : goal.decreases-add_all
decreases-add_all l = 4 * l.e.0 + 1

-- The facts of the parts so far have been added.
abbrev pub invariant-add_all-loop-i : goal.invariant-add_all-loop-i
invariant-add_all-loop-i l =
    IsOver l.t l.self × (claims_in l.t l.self.list ≡ all_added (claims_in l.t l.fn.self.list) (facts_of_all l.t l.answer (take l.i l.parts)))
