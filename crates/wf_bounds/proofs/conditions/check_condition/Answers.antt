use Rattle.std.proofs.Common.{◌∙◌, ap}
use Rattle.wf_facts_exprs.specs.Knowledge.{told}
use Rattle.wf_facts_exprs.specs.Claims.{claims_in}
use Rattle.wf_facts_exprs.specs.Demands.{unless_refused}
use Rattle.wf_loops.proofs.LoopLemmas.{condition_refusal}
use Rattle.wf_bounds.proofs.conditions.check_condition.Goals as goal

pub returns : goal.returns
returns c =
    c.check_value.ensures
    ∙ ap (λ o. unless_refused o (tt {0})) (condition_refusal c.args.t.now c.args.e c.expr-node.result.now c.expr-node.ensures.made c.expr-node.ensures.kinds c.requires.condition (claims_in c.args.t.now (told c.args.facts.now)))
