use Rattle.std.proofs.Common.{◌∙◌, arith, sym, ap}
use Rattle.wf_facts_exprs.specs.declared.meeting.Pass.TheVariants.{Thin}
use Rattle.wf_facts_exprs.specs.Operands.{pass_of}
use Rattle.wf_facts_exprs.specs.RangeOf.{passed}
use Rattle.wf_facts_exprs.specs.Shapes.{shape_tree}
use Rattle.wf_facts_exprs.proofs.ClassLemmas.{rest_past, head_set, said_from, passed_next, lent_passed, neither, standing_parts}
use Rattle.wf_facts_exprs.proofs.meeting.meet_by.Goals as goal

pub loop-i-init : goal.loop-i-init
loop-i-init c =
    let fs = c.args.facts.now.list.now in
    let gone = c.args.facts.now.gone.now.words in
    let tree = shape_tree c.args.t.now c.args.shape in
    let h = c.shape_head.result in
    let words = c.at-set.result.now.words in
    let set = head_set c.args.t.now c.args.facts.now c.requires.known h c.shape_head.ensures.few words c.at-set.ensures in
    record {
      here = c.first_but-i.ensures.here;
      left =
          said_from c.args.t.now gone fs c.requires.known.few h words set (λ gs. passed (pass_of c.args.pass) gs tree c.args.r) (lent_passed (pass_of c.args.pass) tree h c.shape_head.ensures.head c.args.r)
          0 c.first_but-i.result (omega arith) c.first_but-i.ensures.before;
      small = λ small. small;
      thin = λ none q.
          said_from c.args.t.now gone fs c.requires.known.few h words set (λ gs. passed (pass_of Thin) gs tree q) (lent_passed (pass_of Thin) tree h c.shape_head.ensures.head q)
          0 c.first_but-i.result (omega arith) c.first_but-i.ensures.before;
    }

pub loop-i-preserved : goal.loop-i-preserved
loop-i-preserved c =
    let fs = c.args.facts.now.list.now in
    let gone = c.args.facts.now.gone.now.words in
    let tree = shape_tree c.args.t.now c.args.shape in
    let h = c.shape_head.result in
    let words = c.at-set.result.now.words in
    let set = head_set c.args.t.now c.args.facts.now c.requires.known h c.shape_head.ensures.few words c.at-set.ensures in
    let here = standing_parts _ _ (c.loop-i.invariant.here (omega arith)) in
    record {
      here = c.first_but-i-in-loop-i.ensures.here;
      left =
          said_from c.args.t.now gone fs c.requires.known.few h words set (λ gs. passed (pass_of c.args.pass) gs tree c.meet_fact-met.result) (lent_passed (pass_of c.args.pass) tree h c.shape_head.ensures.head c.meet_fact-met.result)
          _ c.first_but-i-in-loop-i.result c.first_but-i-in-loop-i.ensures.start c.first_but-i-in-loop-i.ensures.before
          ∙ passed_next (pass_of c.args.pass) c.args.t.now gone fs c.loop-i.i _ tree c.loop-i.met c.meet_fact-met.result (omega arith) here.1 c.meet_fact-met.ensures.met
          ∙ c.loop-i.invariant.left;
      small = λ small. c.meet_fact-met.ensures.small (c.loop-i.invariant.small small);
      thin = λ none q.
          let p = neither c.loop-i.thins c.is_thinning-thins.result none in
          said_from c.args.t.now gone fs c.requires.known.few h words set (λ gs. passed (pass_of Thin) gs tree q) (lent_passed (pass_of Thin) tree h c.shape_head.ensures.head q)
          _ c.first_but-i-in-loop-i.result c.first_but-i-in-loop-i.ensures.start c.first_but-i-in-loop-i.ensures.before
          ∙ passed_next (pass_of Thin) c.args.t.now gone fs c.loop-i.i _ tree q q (omega arith) here.1 (c.is_thinning-thins.ensures p.1 c.args.t.now tree q)
          ∙ c.loop-i.invariant.thin p.0 q;
    }

pub returns-clause-met : goal.returns-clause-met
returns-clause-met c =
    ap (λ gs. passed (pass_of c.args.pass) gs (shape_tree c.args.t.now c.args.shape) c.loop-i.met) (sym (rest_past c.args.t.now c.args.facts.now.gone.now.words c.args.facts.now.list.now c.loop-i.i (omega arith))) ∙ c.loop-i.invariant.left

pub returns-clause-thin : goal.returns-clause-thin
returns-clause-thin c none q =
    ap (λ gs. passed (pass_of Thin) gs (shape_tree c.args.t.now c.args.shape) q) (sym (rest_past c.args.t.now c.args.facts.now.gone.now.words c.args.facts.now.list.now c.loop-i.i (omega arith))) ∙ c.loop-i.invariant.thin none q
