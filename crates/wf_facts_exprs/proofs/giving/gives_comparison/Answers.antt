use Rattle.std.proofs.Common.{◌∙◌, sym, ap, length, ◌<◌}
use Rattle.wf_ast.specs.TypedTree.{ValueTree}
use Rattle.wf_ast.specs.TypedTrees.{cond_in, operator_kind, type_of_node, place_of_node, signs_of_node}
use Rattle.wf_ast.specs.TypedInvariant.{is_expr}
use Rattle.wf_facts_exprs.specs.Knowledge.{told}
use Rattle.wf_facts_exprs.specs.Claims.{claims_in, single}
use Rattle.wf_facts_exprs.specs.Demands.{cond_refusal}
use Rattle.wf_facts_exprs.specs.Given.{gives, gives_sides, is_standing}
use Rattle.wf_facts_exprs.specs.Operands.{part_number}
use Rattle.wf_facts_exprs.proofs.PassLemmas.{both_of, lt_from}
use Rattle.wf_facts_exprs.proofs.ConditionLemmas.{pair-parts, pair-refusal}
use Rattle.wf_facts_exprs.proofs.GivenLemmas.{fine-parts, pair-given, pair-stands}
use Rattle.wf_facts_exprs.proofs.giving.gives_comparison.Goals as goal

pub gives_numbers-requires-clause-left_fine : goal.gives_numbers-requires-clause-left_fine
gives_numbers-requires-clause-left_fine c =
    let n = both_of (is_expr c.args.t.now c.args.e) _ c.requires.node in
    let e = pair-refusal (claims_in c.args.t.now (told c.args.facts.now)) c.args.t.now (place_of_node c.args.t.now c.args.e.0) (signs_of_node c.args.t.now c.args.e.0) (type_of_node c.args.t.now c.args.e.0) (operator_kind c.args.op) c.args.parts.now (record { 0 = 0 }) c.requires.fits c.requires.compares n.1 (sym c.is_number.ensures ∙ c.if-is_number.true) c.look_at.ensures in
    (fine-parts _ _ (sym e ∙ ap (λ (t : ValueTree). cond_refusal (claims_in c.args.t.now (told c.args.facts.now)) (cond_in t)) (sym c.requires.tree) ∙ c.requires.fine)).0

pub gives_numbers-requires-clause-right_fine : goal.gives_numbers-requires-clause-right_fine
gives_numbers-requires-clause-right_fine c =
    let n = both_of (is_expr c.args.t.now c.args.e) _ c.requires.node in
    let e = pair-refusal (claims_in c.args.t.now (told c.args.facts.now)) c.args.t.now (place_of_node c.args.t.now c.args.e.0) (signs_of_node c.args.t.now c.args.e.0) (type_of_node c.args.t.now c.args.e.0) (operator_kind c.args.op) c.args.parts.now (record { 0 = 0 }) c.requires.fits c.requires.compares n.1 (sym c.is_number.ensures ∙ c.if-is_number.true) c.look_at.ensures in
    (fine-parts _ _ (sym e ∙ ap (λ (t : ValueTree). cond_refusal (claims_in c.args.t.now (told c.args.facts.now)) (cond_in t)) (sym c.requires.tree) ∙ c.requires.fine)).1

pub gives_numbers-requires-clause-right : goal.gives_numbers-requires-clause-right
gives_numbers-requires-clause-right c =
    let n = both_of (is_expr c.args.t.now c.args.e) _ c.requires.node in
    let inside : c.args.e.0 < length c.args.t.now.exprs = lt_from _ _ n.0 in
    let p = pair-parts c.args.t.now c.args.e inside (type_of_node c.args.t.now c.args.e.0) (operator_kind c.args.op) c.args.parts.now (record { 0 = 0 }) c.requires.fits c.requires.compares n.1 c.requires.below in
    p.numbers (sym c.is_number.ensures ∙ c.if-is_number.true)

pub returns-then-is_number : goal.returns-then-is_number
returns-then-is_number c =
    let n = both_of (is_expr c.args.t.now c.args.e) _ c.requires.node in
    let g = pair-given (claims_in c.args.t.now (told c.args.facts.now)) c.args.t.now c.args.answer (place_of_node c.args.t.now c.args.e.0) (signs_of_node c.args.t.now c.args.e.0) (type_of_node c.args.t.now c.args.e.0) (operator_kind c.args.op) c.args.parts.now (record { 0 = 0 }) c.requires.fits c.requires.compares n.1 (sym c.is_number.ensures ∙ c.if-is_number.true) c.look_at.ensures in
    c.gives_numbers.ensures ∙ ap (λ o. gives_sides (claims_in c.args.t.now (told c.args.facts.now)) (single (part_number c.args.t.now c.args.parts.now 0)) o (single (part_number c.args.t.now c.args.parts.now 1))) c.compared_by.ensures
    ∙ sym g ∙ ap (λ (t : ValueTree). gives (claims_in c.args.t.now (told c.args.facts.now)) (cond_in t) c.args.answer) (sym c.requires.tree)

pub returns-else-is_number : goal.returns-else-is_number
returns-else-is_number c =
    let n = both_of (is_expr c.args.t.now c.args.e) _ c.requires.node in
    let g = pair-stands (claims_in c.args.t.now (told c.args.facts.now)) c.args.t.now c.args.answer (place_of_node c.args.t.now c.args.e.0) (signs_of_node c.args.t.now c.args.e.0) (type_of_node c.args.t.now c.args.e.0) (operator_kind c.args.op) c.args.parts.now (record { 0 = 0 }) c.requires.fits c.requires.compares n.1 (sym c.is_number.ensures ∙ c.if-is_number.false) c.look_at.ensures in
    c.stands.ensures ∙ ap (λ (t : ValueTree). is_standing (claims_in c.args.t.now (told c.args.facts.now)) (cond_in t) c.args.answer) c.requires.tree ∙ sym g ∙ ap (λ (t : ValueTree). gives (claims_in c.args.t.now (told c.args.facts.now)) (cond_in t) c.args.answer) (sym c.requires.tree)
