use Rattle.std.proofs.Common.{◌∙◌, sym, arith}
use Rattle.wf_facts_exprs.specs.Knowledge.{told}
use Rattle.wf_facts_exprs.specs.Claims.{claims_in, order_of, side_in, single}
use Rattle.wf_facts_exprs.specs.Shapes.{shape_tree}
use Rattle.wf_facts_exprs.proofs.AlikeLemmas.{first-alike}
use Rattle.wf_facts_exprs.proofs.ClassLemmas.{first-at}
use Rattle.wf_facts_exprs.proofs.given.first_rule_at.Goals as goal

pub returns : goal.returns
returns c it =
    let a = single (shape_tree c.args.t.now c.shape_of.result) in
    let b = single (shape_tree c.args.t.now c.shape_of-2.result) in
    sym (first-alike (claims_in c.args.t.now (told c.args.facts.now)) (order_of c.args.op) a (side_in c.args.t.now c.args.left) b (side_in c.args.t.now c.args.right) c.shape_of.ensures.alike c.shape_of-2.ensures.alike)
    ∙ first-at c.args.t.now c.args.facts.now.gone.now.words c.args.facts.now.list.now c.args.place _ a (order_of c.args.op) b (omega arith) (sym c.has.ensures ∙ c.if-has.false) (sym c.fact_gives.ensures ∙ it)
