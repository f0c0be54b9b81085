use Rattle.std.proofs.Common.{◌≡◌, ◌<◌, ◌-◌, true}
use Rattle.wf_facts_exprs.specs.Knowledge.{told}
use Rattle.wf_facts_exprs.specs.Claims.{claims_in, order_of, single}
use Rattle.wf_facts_exprs.specs.HeadRules.{head_gives}
use Rattle.wf_facts_exprs.specs.Shapes.{shape_tree}
use Rattle.wf_facts_exprs.proofs.ClassLemmas.{rest, standing}
use Rattle.wf_facts_exprs.proofs.given.gives_with.Given as goal

-- No fact so far gives it, so one that is left does where any does.
abbrev pub invariant-loop-i : goal.invariant-loop-i
invariant-loop-i l = record {
  here : l.i < l.n → standing l.set.words l.facts.gone.now.words l.i ≡ true;
  left : head_gives l.head (rest l.t l.facts.gone.now.words l.facts.list.now l.i) (single (shape_tree l.t l.a)) (order_of l.op) (single (shape_tree l.t l.b)) ≡ head_gives l.head (claims_in l.t (told l.facts)) (single (shape_tree l.t l.a)) (order_of l.op) (single (shape_tree l.t l.b));
}

abbrev pub decreases-loop-i : goal.decreases-loop-i
decreases-loop-i l = l.n - l.i
