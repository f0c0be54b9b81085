use Rattle.std.proofs.Common.{List, Bool, sym, ◌∙◌, arith, ap}
use Rattle.wf_ast.specs.NodeKinds.{node_cond}
use Rattle.wf_facts_exprs.specs.Claims.{Claim, stands}
use Rattle.wf_facts_exprs.specs.Given.{is_standing}
use Rattle.wf_facts_exprs.proofs.ClassLemmas.{rest_past, head_set, said_from, other_among, among_here, among_next, standing_parts}
use Rattle.wf_facts_exprs.proofs.giving.stands.Goals as goal

pub loop-i-init : goal.loop-i-init
loop-i-init c =
    let cond = node_cond c.args.t.now c.args.e in
    let gone = c.args.facts.now.gone.now.words in
    let set = head_set c.args.t.now c.args.facts.now c.requires.known 0 (omega arith) c.at-set.result.now.words c.at-set.ensures in
    record {
      here = c.first_but-i.ensures.here;
      left =
          said_from c.args.t.now gone c.args.facts.now.list.now c.requires.known.few 0 c.at-set.result.now.words set (λ gs. is_standing gs cond c.args.answer) (other_among (stands cond c.args.answer)) 0 c.first_but-i.result (omega arith) c.first_but-i.ensures.before;
    }

pub loop-i-preserved : goal.loop-i-preserved
loop-i-preserved c =
    let fs = c.args.facts.now.list.now in
    let gone = c.args.facts.now.gone.now.words in
    let cond = node_cond c.args.t.now c.args.e in
    let said : List Claim → Bool = λ gs. is_standing gs (node_cond c.args.t.now c.args.e) c.args.answer in
    let set = head_set c.args.t.now c.args.facts.now c.requires.known 0 (omega arith) c.at-set.result.now.words c.at-set.ensures in
    let here = standing_parts _ _ (c.loop-i.invariant.here (omega arith)) in
    record {
      here = c.first_but-i-in-loop-i.ensures.here;
      left =
          said_from c.args.t.now gone fs c.requires.known.few 0 c.at-set.result.now.words set said (other_among (stands cond c.args.answer)) _ c.first_but-i-in-loop-i.result c.first_but-i-in-loop-i.ensures.start c.first_but-i-in-loop-i.ensures.before
          ∙ among_next c.args.t.now gone fs c.loop-i.i _ (stands cond c.args.answer) (omega arith) here.1 (sym c.is_fact_of.ensures ∙ c.if-is_fact_of.false)
          ∙ c.loop-i.invariant.left;
    }

pub returns-then-is_fact_of : goal.returns-then-is_fact_of
returns-then-is_fact_of c =
    let here = standing_parts _ _ (c.loop-i.invariant.here (omega arith)) in
    among_here c.args.t.now c.args.facts.now.gone.now.words c.args.facts.now.list.now c.loop-i.i _ (stands (node_cond c.args.t.now c.args.e) c.args.answer) (omega arith) here.1 (sym c.is_fact_of.ensures ∙ c.if-is_fact_of.true) ∙ c.loop-i.invariant.left

pub returns : goal.returns
returns c =
    ap (λ gs. is_standing gs (node_cond c.args.t.now c.args.e) c.args.answer) (sym (rest_past c.args.t.now c.args.facts.now.gone.now.words c.args.facts.now.list.now c.loop-i.i (omega arith))) ∙ c.loop-i.invariant.left
