use Rattle.std.proofs.Common.{◌≡◌, ◌<◌, ◌-◌, true}
use Rattle.wf_facts_exprs.specs.Claims.{claim_in, claims_in, is_among}
use Rattle.wf_facts_exprs.specs.Knowledge.{told}
use Rattle.wf_facts_exprs.proofs.ClassLemmas.{rest, standing}
use Rattle.wf_facts.proofs.adding.place_in.Given as goal

-- What none of the facts so far is, the facts that are left decide.
abbrev pub invariant-loop-i : goal.invariant-loop-i
invariant-loop-i l = record {
  here : l.i < l.n → standing l.set.words l.known.gone.now.words l.i ≡ true;
  left : is_among (rest l.t l.known.gone.now.words l.known.list.now l.i) (claim_in l.t l.f) ≡ is_among (claims_in l.t (told l.known)) (claim_in l.t l.f);
}

abbrev pub decreases-loop-i : goal.decreases-loop-i
decreases-loop-i l = l.n - l.i
