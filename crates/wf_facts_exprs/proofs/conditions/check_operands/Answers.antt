use Rattle.std.proofs.Common.{◌∙◌, sym, ap, length, ◌<◌}
use Rattle.wf_ast.specs.TypedTree.{ValueTree}
use Rattle.wf_ast.specs.TypedTrees.{cond_in, operator_kind, type_of_node, place_of_node, signs_of_node}
use Rattle.wf_ast.specs.TypedInvariant.{is_expr}
use Rattle.wf_facts_exprs.specs.Knowledge.{told}
use Rattle.wf_facts_exprs.specs.Claims.{claims_in}
use Rattle.wf_facts_exprs.specs.Demands.{cond_refusal, unless_refused}
use Rattle.wf_facts_exprs.proofs.PassLemmas.{both_of, lt_from}
use Rattle.wf_facts_exprs.proofs.ConditionLemmas.{pair-parts, pair-refusal}
use Rattle.wf_facts_exprs.proofs.conditions.check_operands.Goals as goal

pub check_pair-requires-clause-right : goal.check_pair-requires-clause-right
check_pair-requires-clause-right c =
    let n = both_of (is_expr c.args.t.now c.args.e) _ c.requires.node in
    let inside : c.args.e.0 < length c.args.t.now.exprs = lt_from _ _ n.0 in
    let p = pair-parts c.args.t.now c.args.e inside (type_of_node c.args.t.now c.args.e.0) (operator_kind c.args.op) c.args.parts.now (record { 0 = 0 }) c.requires.fits c.requires.compares n.1 c.requires.below in
    p.numbers (sym c.is_number.ensures ∙ c.if-is_number.true)

pub returns-then-is_number : goal.returns-then-is_number
returns-then-is_number c =
    let n = both_of (is_expr c.args.t.now c.args.e) _ c.requires.node in
    let e = pair-refusal (claims_in c.args.t.now (told c.args.facts.now)) c.args.t.now (place_of_node c.args.t.now c.args.e.0) (signs_of_node c.args.t.now c.args.e.0) (type_of_node c.args.t.now c.args.e.0) (operator_kind c.args.op) c.args.parts.now (record { 0 = 0 }) c.requires.fits c.requires.compares n.1 (sym c.is_number.ensures ∙ c.if-is_number.true) c.look_at.ensures in
    c.check_pair.ensures ∙ ap (λ r. unless_refused r (tt {0})) (sym e) ∙ ap (λ (t : ValueTree). unless_refused (cond_refusal (claims_in c.args.t.now (told c.args.facts.now)) (cond_in t)) (tt {0})) (sym c.requires.tree)
