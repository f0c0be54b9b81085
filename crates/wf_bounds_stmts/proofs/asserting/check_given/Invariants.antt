use Rattle.std.proofs.Common.{◌≡◌, drop}
use Rattle.wf_facts_exprs.specs.Knowledge.{told}
use Rattle.wf_facts_exprs.specs.Claims.{claims_in}
use Rattle.wf_axioms.specs.Matching.{given_trees}
use Rattle.wf_bounds_stmts.specs.Assertions.{given_refusal}
use Rattle.wf_bounds_stmts.proofs.asserting.check_given.Given as goal

-- What was given so far has values, so what is left decides.
abbrev pub invariant-loop-i : goal.invariant-loop-i
invariant-loop-i l = given_refusal (claims_in l.t (told l.facts)) (given_trees l.t (drop l.i l.given)) ≡ given_refusal (claims_in l.t (told l.facts)) (given_trees l.t l.given)
