use Rattle.std.proofs.Common.{◌≡◌, map}
use Rattle.wf_facts_exprs.specs.Knowledge.{told}
use Rattle.wf_facts_exprs.specs.Claims.{claims_in}
use Rattle.wf_axioms.specs.Items.{claims_of_items}
use Rattle.wf_bounds_stmts.specs.Assertions.{inside_text, premise_offsets, premises_refusal}
use Rattle.wf_bounds_stmts.proofs.AssertLemmas.{premises-from}
use Rattle.wf_bounds_stmts.proofs.asserting.check_premises.Given as goal

-- The premises so far are given, so those that are left decide.
abbrev pub invariant-loop-i : goal.invariant-loop-i
invariant-loop-i l =
    premises-from l.t (claims_in l.t (told l.facts)) l.text_at l.offsets l.p.items l.p.count l.i ≡ premises_refusal (claims_in l.t (told l.facts)) (map (inside_text l.text_at) (premise_offsets l.fn.a)) (claims_of_items l.t l.p)
