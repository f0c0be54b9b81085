use Rattle.std.proofs.Common.{◌≡◌, ◌+◌, ◌*◌, drop}
use Rattle.wf_facts_exprs.specs.Knowledge.{told}
use Rattle.wf_facts_exprs.specs.Claims.{claims_in}
use Rattle.wf_facts_exprs.specs.Operands.{all_given, any_given}
use Rattle.wf_facts_exprs.proofs.giving.+giving.Given as goal

abbrev pub decreases-gives : goal.decreases-gives
decreases-gives l = 4 * l.e.0 + 3

abbrev pub decreases-gives_chain : goal.decreases-gives_chain
decreases-gives_chain l = 4 * l.e.0 + 2

abbrev pub decreases-gives_all : goal.decreases-gives_all
decreases-gives_all l = 4 * l.e.0 + 1

abbrev pub decreases-gives_any : goal.decreases-gives_any
decreases-gives_any l = 4 * l.e.0 + 1

-- All parts so far are given, and none of them is.
abbrev pub invariant-gives_all-loop-i : goal.invariant-gives_all-loop-i
invariant-gives_all-loop-i l = all_given (claims_in l.t (told l.facts)) l.t (drop l.i l.parts) l.answer ≡ all_given (claims_in l.t (told l.facts)) l.t l.parts l.answer

abbrev pub invariant-gives_any-loop-i : goal.invariant-gives_any-loop-i
invariant-gives_any-loop-i l = any_given (claims_in l.t (told l.facts)) l.t (drop l.i l.parts) l.answer ≡ any_given (claims_in l.t (told l.facts)) l.t l.parts l.answer
