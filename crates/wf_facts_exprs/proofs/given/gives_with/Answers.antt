use Rattle.std.proofs.Common.{List, Bool, sym, ◌∙◌, arith, ap}
use Rattle.wf_facts_exprs.specs.Claims.{Claim, order_of, single}
use Rattle.wf_facts_exprs.specs.HeadRules.{head_gives}
use Rattle.wf_facts_exprs.specs.Shapes.{shape_tree}
use Rattle.wf_facts_exprs.proofs.ClassLemmas.{rest_past, head_set, head_here, said_from, other_gives, gives_here, gives_next, standing_parts}
use Rattle.wf_facts_exprs.proofs.given.gives_with.Goals as goal

pub loop-i-init : goal.loop-i-init
loop-i-init c =
    let a = single (shape_tree c.args.t.now c.args.a) in
    let b = single (shape_tree c.args.t.now c.args.b) in
    let gone = c.args.facts.now.gone.now.words in
    let set = head_set c.args.t.now c.args.facts.now c.requires.known c.args.head c.requires.head c.at-set.result.now.words c.at-set.ensures in
    record {
      here = c.first_but-i.ensures.here;
      left =
          said_from c.args.t.now gone c.args.facts.now.list.now c.requires.known.few c.args.head c.at-set.result.now.words set (λ gs. head_gives c.args.head gs a (order_of c.args.op) b) (other_gives c.args.head a (order_of c.args.op) b)
          0 c.first_but-i.result (omega arith) c.first_but-i.ensures.before;
    }

pub loop-i-preserved : goal.loop-i-preserved
loop-i-preserved c =
    let fs = c.args.facts.now.list.now in
    let gone = c.args.facts.now.gone.now.words in
    let a = single (shape_tree c.args.t.now c.args.a) in
    let b = single (shape_tree c.args.t.now c.args.b) in
    let said : List Claim → Bool = λ gs. head_gives c.args.head gs (single (shape_tree c.args.t.now c.args.a)) (order_of c.args.op) (single (shape_tree c.args.t.now c.args.b)) in
    let set = head_set c.args.t.now c.args.facts.now c.requires.known c.args.head c.requires.head c.at-set.result.now.words c.at-set.ensures in
    let here = standing_parts _ _ (c.loop-i.invariant.here (omega arith)) in
    record {
      here = c.first_but-i-in-loop-i.ensures.here;
      left =
          said_from c.args.t.now gone fs c.requires.known.few c.args.head c.at-set.result.now.words set said (other_gives c.args.head a (order_of c.args.op) b) _ c.first_but-i-in-loop-i.result c.first_but-i-in-loop-i.ensures.start c.first_but-i-in-loop-i.ensures.before
          ∙ gives_next c.args.t.now gone fs c.loop-i.i _ c.args.head a (order_of c.args.op) b (omega arith) here.1 (sym c.fact_gives.ensures ∙ c.if-fact_gives.false)
          ∙ c.loop-i.invariant.left;
    }

pub returns-then-fact_gives : goal.returns-then-fact_gives
returns-then-fact_gives c =
    let fs = c.args.facts.now.list.now in
    let gone = c.args.facts.now.gone.now.words in
    let a = single (shape_tree c.args.t.now c.args.a) in
    let b = single (shape_tree c.args.t.now c.args.b) in
    let set = head_set c.args.t.now c.args.facts.now c.requires.known c.args.head c.requires.head c.at-set.result.now.words c.at-set.ensures in
    let here = standing_parts _ _ (c.loop-i.invariant.here (omega arith)) in
    gives_here c.args.t.now gone fs c.loop-i.i _ c.args.head a (order_of c.args.op) b (omega arith) here.1
    (head_here c.args.t.now gone fs c.requires.known.few c.args.head c.at-set.result.now.words set c.loop-i.i _ (omega arith) here.0) (sym c.fact_gives.ensures ∙ c.if-fact_gives.true)
    ∙ c.loop-i.invariant.left

pub returns : goal.returns
returns c =
    ap (λ gs. head_gives c.args.head gs (single (shape_tree c.args.t.now c.args.a)) (order_of c.args.op) (single (shape_tree c.args.t.now c.args.b)))
    (sym (rest_past c.args.t.now c.args.facts.now.gone.now.words c.args.facts.now.list.now c.loop-i.i (omega arith))) ∙ c.loop-i.invariant.left
