use Rattle.wf_facts_exprs.specs.Knowledge.{told}
use Rattle.wf_facts_exprs.specs.Claims.{claims_in, order_of, single}
use Rattle.wf_facts_exprs.specs.Shapes.{shape_tree}
use Rattle.wf_facts_exprs.proofs.ClassLemmas.{by_first, by_second, by_one}
use Rattle.wf_facts_exprs.proofs.given.any_gives.Goals as goal

pub returns-then-gives_with : goal.returns-then-gives_with
returns-then-gives_with c =
    by_first (claims_in c.args.t.now (told c.args.facts.now)) (single (shape_tree c.args.t.now c.args.a)) (order_of c.args.op) (single (shape_tree c.args.t.now c.args.b)) c.shape_head-head.result c.shape_head-other.result
    c.shape_head-head.ensures.head c.shape_head-other.ensures.head c.gives_with.result c.gives_with.ensures c.if-gives_with.true

pub returns-then-other-head : goal.returns-then-other-head
returns-then-other-head c =
    by_second (claims_in c.args.t.now (told c.args.facts.now)) (single (shape_tree c.args.t.now c.args.a)) (order_of c.args.op) (single (shape_tree c.args.t.now c.args.b)) c.shape_head-head.result c.shape_head-other.result
    c.shape_head-head.ensures.head c.shape_head-other.ensures.head c.gives_with.result c.gives_with.ensures c.if-gives_with.false c.gives_with-then-other-head.result c.gives_with-then-other-head.ensures

pub returns-else-other-head : goal.returns-else-other-head
returns-else-other-head c =
    by_one (claims_in c.args.t.now (told c.args.facts.now)) (single (shape_tree c.args.t.now c.args.a)) (order_of c.args.op) (single (shape_tree c.args.t.now c.args.b)) c.shape_head-head.result c.shape_head-other.result
    c.shape_head-head.ensures.head c.shape_head-other.ensures.head c.gives_with.result c.gives_with.ensures c.if-gives_with.false c.if-other-head.false
