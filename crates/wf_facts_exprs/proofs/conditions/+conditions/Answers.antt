use Rattle.std.proofs.Common.{◌∙◌, sym, ap, rules, length, ◌<◌}
use Rattle.wf_ast.specs.TypedTree.{ValueTree}
use Rattle.wf_ast.specs.TypedTrees.{cond_in, operator_kind, type_of_node, place_of_node, signs_of_node}
use Rattle.wf_ast.specs.TypedInvariant.{is_expr}
use Rattle.wf_facts_exprs.specs.Knowledge.{told}
use Rattle.wf_facts_exprs.specs.Claims.{claims_in}
use Rattle.wf_facts_exprs.specs.Demands.{cond_refusal, unless_refused}
use Rattle.wf_facts_exprs.proofs.PassLemmas.{both_of, lt_from}
use Rattle.wf_facts_exprs.proofs.ConditionLemmas.{joined-refusal, joined-conditions}
use Rattle.wf_facts_exprs.proofs.conditions.+conditions.Goals as goal

pub check_chain-check_all-requires : goal.check_chain-check_all-requires
check_chain-check_all-requires t c =
    let n = both_of (is_expr c.args.t.now c.args.e) _ c.requires.node in
    let inside : c.args.e.0 < length c.args.t.now.exprs = lt_from _ _ n.0 in
    (search rules, (c.requires.known, joined-conditions c.args.t.now c.args.e inside (type_of_node c.args.t.now c.args.e.0) (operator_kind c.args.op) c.args.parts.now c.requires.fits (sym c.joins.ensures ∙ c.if-joins.true) c.requires.below))

pub check_chain-returns-then-joins : goal.check_chain-returns-then-joins
check_chain-returns-then-joins t c =
    let e = joined-refusal (claims_in c.args.t.now (told c.args.facts.now)) c.args.t.now (place_of_node c.args.t.now c.args.e.0) (signs_of_node c.args.t.now c.args.e.0) (type_of_node c.args.t.now c.args.e.0) (operator_kind c.args.op) c.args.parts.now c.requires.fits (sym c.joins.ensures ∙ c.if-joins.true) in
    c.check_all.ensures ∙ ap (λ r. unless_refused r (tt {0})) (sym e) ∙ ap (λ (t : ValueTree). unless_refused (cond_refusal (claims_in c.args.t.now (told c.args.facts.now)) (cond_in t)) (tt {0})) (sym c.requires.tree)
