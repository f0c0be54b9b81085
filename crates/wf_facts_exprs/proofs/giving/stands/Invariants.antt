use Rattle.std.proofs.Common.{◌≡◌, ◌<◌, ◌-◌, true}
use Rattle.wf_ast.specs.NodeKinds.{node_cond}
use Rattle.wf_facts_exprs.specs.Knowledge.{told}
use Rattle.wf_facts_exprs.specs.Claims.{claims_in}
use Rattle.wf_facts_exprs.specs.Given.{is_standing}
use Rattle.wf_facts_exprs.proofs.ClassLemmas.{rest, standing}
use Rattle.wf_facts_exprs.proofs.giving.stands.Given as goal

-- It isn't among the facts so far, so it is among those that are left where it is among all.
abbrev pub invariant-loop-i : goal.invariant-loop-i
invariant-loop-i l = record {
  here : l.i < l.n → standing l.set.words l.facts.gone.now.words l.i ≡ true;
  left : is_standing (rest l.t l.facts.gone.now.words l.facts.list.now l.i) (node_cond l.t l.e) l.answer ≡ is_standing (claims_in l.t (told l.facts)) (node_cond l.t l.e) l.answer;
}

abbrev pub decreases-loop-i : goal.decreases-loop-i
decreases-loop-i l = l.n - l.i
