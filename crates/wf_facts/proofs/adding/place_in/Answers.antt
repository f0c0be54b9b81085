use Rattle.std.proofs.Common.{List, Bool, sym, ap, ◌∙◌, arith}
use Rattle.wf_facts_exprs.specs.Claims.{Claim, claim_in, is_among}
use Rattle.wf_facts_exprs.proofs.ClassLemmas.{head_lent, said_from, other_among, among_here, among_next, rest_past, standing_parts}
use Rattle.wf_facts.proofs.adding.place_in.Goals as goal

pub loop-i-init : goal.loop-i-init
loop-i-init c =
    let claim = claim_in c.args.t.now c.args.f in
    let set = head_lent c.args.t.now c.args.known.now c.requires.known c.fact_head.result (claim_in c.args.t.now c.args.f) c.fact_head.ensures.head c.fact_head.ensures.few c.at-set.result.now.words c.at-set.ensures in
    record {
      here = c.first_but-i.ensures.here;
      left =
          said_from c.args.t.now c.args.known.now.gone.now.words c.args.known.now.list.now c.requires.known.few _ c.at-set.result.now.words set (λ gs. is_among gs claim) (other_among claim) 0 c.first_but-i.result (omega arith) c.first_but-i.ensures.before;
    }

pub loop-i-preserved : goal.loop-i-preserved
loop-i-preserved c =
    let claim = claim_in c.args.t.now c.args.f in
    let gone = c.args.known.now.gone.now.words in
    let fs = c.args.known.now.list.now in
    let said : List Claim → Bool = λ gs. is_among gs (claim_in c.args.t.now c.args.f) in
    let set = head_lent c.args.t.now c.args.known.now c.requires.known c.fact_head.result (claim_in c.args.t.now c.args.f) c.fact_head.ensures.head c.fact_head.ensures.few c.at-set.result.now.words c.at-set.ensures in
    let here = standing_parts _ _ (c.loop-i.invariant.here (omega arith)) in
    record {
      here = c.first_but-i-in-loop-i.ensures.here;
      left =
          said_from c.args.t.now gone fs c.requires.known.few _ c.at-set.result.now.words set said (other_among claim) _ c.first_but-i-in-loop-i.result c.first_but-i-in-loop-i.ensures.start c.first_but-i-in-loop-i.ensures.before
          ∙ among_next c.args.t.now gone fs c.loop-i.i _ claim (omega arith) here.1 (sym c.is_fact_again.ensures ∙ c.if-is_fact_again.false)
          ∙ c.loop-i.invariant.left;
    }

pub returns-then-is_fact_again-clause-among : goal.returns-then-is_fact_again-clause-among
returns-then-is_fact_again-clause-among c =
    let here = standing_parts _ _ (c.loop-i.invariant.here (omega arith)) in
    among_here c.args.t.now c.args.known.now.gone.now.words c.args.known.now.list.now c.loop-i.i _ (claim_in c.args.t.now c.args.f) (omega arith) here.1 (sym c.is_fact_again.ensures ∙ c.if-is_fact_again.true) ∙ c.loop-i.invariant.left

pub returns-clause-among : goal.returns-clause-among
returns-clause-among c =
    ap (λ gs. is_among gs (claim_in c.args.t.now c.args.f)) (sym (rest_past c.args.t.now c.args.known.now.gone.now.words c.args.known.now.list.now c.loop-i.i (omega arith))) ∙ c.loop-i.invariant.left
