use Rattle.std.proofs.Common.{◌≡◌, ◌<◌, ◌-◌, false, true}
use Rattle.wf_num.specs.declared.ranges.Range.{Range}
use Rattle.wf_num.specs.Ranges.{IsSmall}
use Rattle.wf_facts_exprs.specs.Knowledge.{told}
use Rattle.wf_facts_exprs.specs.declared.meeting.Pass.TheVariants.{Thin}
use Rattle.wf_facts_exprs.specs.Claims.{claims_in}
use Rattle.wf_facts_exprs.specs.RangeOf.{passed}
use Rattle.wf_facts_exprs.specs.Operands.{pass_of}
use Rattle.wf_facts_exprs.specs.Shapes.{shape_tree}
use Rattle.wf_facts_exprs.proofs.ClassLemmas.{rest, standing}
use Rattle.wf_facts_exprs.proofs.meeting.meet_by.Given as goal

-- What the facts that are left make of the range so far is what all make of the first one, and where none compares by `<>`, the
-- second pass makes the same of every range by those that are left as by all.
abbrev pub invariant-loop-i : goal.invariant-loop-i
invariant-loop-i l = record {
  here : l.i < l.n → standing l.set.words l.facts.gone.now.words l.i ≡ true;
  left : passed (pass_of l.pass) (rest l.t l.facts.gone.now.words l.facts.list.now l.i) (shape_tree l.t l.shape) l.met ≡ passed (pass_of l.pass) (claims_in l.t (told l.facts)) (shape_tree l.t l.shape) l.fn.r;
  small : IsSmall l.fn.r → IsSmall l.met;
  thin : l.thins ≡ false → (q : Range) → passed (pass_of Thin) (rest l.t l.facts.gone.now.words l.facts.list.now l.i) (shape_tree l.t l.shape) q ≡ passed (pass_of Thin) (claims_in l.t (told l.facts)) (shape_tree l.t l.shape) q;
}

abbrev pub decreases-loop-i : goal.decreases-loop-i
decreases-loop-i l = l.n - l.i
