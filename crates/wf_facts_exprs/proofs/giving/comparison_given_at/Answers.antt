use Rattle.std.proofs.Common.{◌∙◌, sym, ap, length, ◌<◌, true}
use Rattle.wf_ast.specs.TypedTree.{ValueTree}
use Rattle.wf_ast.specs.TypedTrees.{cond_in, operator_kind, type_of_node, place_of_node, signs_of_node}
use Rattle.wf_ast.specs.TypedInvariant.{is_expr}
use Rattle.wf_facts_exprs.specs.Knowledge.{told}
use Rattle.wf_facts_exprs.specs.Claims.{claims_in, single}
use Rattle.wf_facts_exprs.specs.Given.{gives, gives_sides}
use Rattle.wf_facts_exprs.specs.Operands.{part_number}
use Rattle.wf_facts_exprs.proofs.PassLemmas.{both_of, lt_from}
use Rattle.wf_facts_exprs.proofs.ConditionLemmas.{pair-parts}
use Rattle.wf_facts_exprs.proofs.GivenLemmas.{pair-given}
use Rattle.wf_facts_exprs.proofs.giving.comparison_given_at.Goals as goal

pub numbers_given_at-requires-clause-right : goal.numbers_given_at-requires-clause-right
numbers_given_at-requires-clause-right c =
    let n = both_of (is_expr c.args.t.now c.args.e) _ c.requires.node in
    let inside : c.args.e.0 < length c.args.t.now.exprs = lt_from _ _ n.0 in
    let p = pair-parts c.args.t.now c.args.e inside (type_of_node c.args.t.now c.args.e.0) (operator_kind c.args.op) c.args.parts.now (record { 0 = 0 }) c.requires.fits c.requires.compares n.1 c.requires.below in
    p.numbers (sym c.is_number.ensures ∙ c.if-is_number.true)

pub returns-then-is_number : goal.returns-then-is_number
returns-then-is_number c it =
    let n = both_of (is_expr c.args.t.now c.args.e) _ c.requires.node in
    let g = pair-given (claims_in c.args.t.now (told c.args.facts.now)) c.args.t.now true (place_of_node c.args.t.now c.args.e.0) (signs_of_node c.args.t.now c.args.e.0) (type_of_node c.args.t.now c.args.e.0) (operator_kind c.args.op) c.args.parts.now (record { 0 = 0 }) c.requires.fits c.requires.compares n.1 (sym c.is_number.ensures ∙ c.if-is_number.true) c.look_at.ensures in
    ap (λ (t : ValueTree). gives (claims_in c.args.t.now (told c.args.facts.now)) (cond_in t) true) c.requires.tree ∙ g
    ∙ ap (λ o. gives_sides (claims_in c.args.t.now (told c.args.facts.now)) (single (part_number c.args.t.now c.args.parts.now 0)) o (single (part_number c.args.t.now c.args.parts.now 1))) (sym c.compared_by.ensures)
    ∙ c.numbers_given_at.ensures it
