use Rattle.std.proofs.Common.{◌≡◌, ◌∙◌, sym, ap, subst, refl, length, map, true, false, ◌||◌, ◌<◌, ◌≤◌, ◌+◌, nat_lt, nat_eq, arith, rules, drop, ◌-◌}
use Rattle.std.specs.List.{list_all}
use Rattle.std.proofs.lemmas.Bool.Decides.{nat_tests}
use Rattle.wf_num.specs.Ranges.{fits_width}
use Rattle.wf_ast.specs.declared.numbers.ExprId.{ExprId}
use Rattle.wf_ast.specs.declared.operators.Op.{Op}
use Rattle.std.specs.Prelude.{Ok, Err}
use Rattle.std.proofs.lemmas.Result.{err_from_is_err_and}
use Rattle.wf_text.specs.declared.rules.Rule.TheVariants.{B2}
use Rattle.wf_ast.specs.TypedTree.{ValueTree, less, at_most, number}
use Rattle.wf_ast.specs.TypedTrees.{chain_of, first_sign, num_in, num_type, operator_kind, tree_of, type_of_node, place_of_node, signs_of_node, no_place}
use Rattle.wf_ast.specs.TypedInvariant.{chain_fits, is_expr}
use Rattle.wf_ast.specs.NodeKinds.{is_number_at, node_number, node_slice}
use Rattle.wf_ast.specs.OperatorForms.{is_arithmetic}
use Rattle.wf_facts_exprs.specs.Knowledge.{told}
use Rattle.wf_facts_exprs.specs.Claims.{claims_in, side_in, single}
use Rattle.wf_facts_exprs.specs.RangeOf.{first_rule, is_ordered}
use Rattle.wf_facts_exprs.specs.Given.{second_rule}
use Rattle.wf_facts_exprs.specs.Shapes.{shape_tree}
use Rattle.wf_facts_exprs.specs.Operands.{arith_of, is_operator, judged, one_more, ruled, part_number}
use Rattle.wf_facts_exprs.proofs.PassLemmas.{both_of, lt_from}
use Rattle.wf_facts_exprs.proofs.ShapeLemmas.{number-below}
use Rattle.wf_facts_exprs.proofs.ChainLemmas.{item-true, more-unordered, next_at, chain-stops, chain-goes-on, chain-ends, first-refused, chain-begins}
use Rattle.wf_facts_exprs.proofs.JudgeLemmas.{judged-ok, judged-range, length-given, numbers-given, zero-given, element-ok, element-err, from-answer, up-to-answer, up-to-refused, between-answer, between-refused, next-refused, next-ok, next-err, next-small, is-arith, is-operator}
use Rattle.wf_facts_exprs.proofs.judging.+judging.Goals as goal

pub judge-returns-clause-answer : goal.judge-returns-clause-answer
judge-returns-clause-answer t c =
    judged-ok (claims_in c.args.t.now (told c.args.facts.now)) (node_number c.args.t.now c.args.e) (shape_tree c.args.t.now c.expr_shape.result) c.in_ok-r.r c.meet_facts.result c.close.result (sym c.in_ok-r.was ∙ c.judge_rule.ensures.answer) c.meet_facts.ensures.met c.expr_shape.ensures.alike c.close.ensures.answer

pub judge_element-returns-then-gives_ranged-clause-answer : goal.judge_element-returns-then-gives_ranged-clause-answer
judge_element-returns-then-gives_ranged-clause-answer t c =
    let R = λ (t : ValueTree). Ok c.type_range.result ≡ ruled (claims_in c.args.t.now (told c.args.facts.now)) (num_in t) in
    subst R (sym c.requires.tree) (element-ok (claims_in c.args.t.now (told c.args.facts.now)) (place_of_node c.args.t.now c.args.e.0) (num_type (type_of_node c.args.t.now c.args.e.0)) (node_slice c.args.t.now c.args.base) (node_number c.args.t.now c.args.at) c.in_ok-range.range c.gives_ranged.result c.type_range.result (sym c.in_ok-judge_slice.was ∙ c.judge_slice.ensures.answer) (sym c.in_ok-range.was ∙ c.judge.ensures.answer)
    (c.gives_ranged.ensures ∙ length-given (claims_in c.args.t.now (told c.args.facts.now)) c.args.t.now c.args.base less (node_number c.args.t.now c.args.at) (place_of_node c.args.t.now c.args.e.0) c.length_side.result.side c.in_ok-range.range c.length_side.result.range (both_of (is_expr c.args.t.now c.args.base) _ c.requires.base).1 c.length_side.ensures.kind c.length_side.ensures.side (judged-range (claims_in c.args.t.now (told c.args.facts.now)) (node_number c.args.t.now c.args.at) c.in_ok-range.range (sym c.in_ok-range.was ∙ c.judge.ensures.answer)) c.length_side.ensures.range) c.if-gives_ranged.true c.type_range.ensures.range)

pub judge_element-returns-else-gives_ranged-clause-answer : goal.judge_element-returns-else-gives_ranged-clause-answer
judge_element-returns-else-gives_ranged-clause-answer t c =
    let R = λ (t : ValueTree). Err (record { rule = B2; at = c.expr_place.result }) ≡ ruled (claims_in c.args.t.now (told c.args.facts.now)) (num_in t) in
    subst R (sym c.requires.tree) (element-err (claims_in c.args.t.now (told c.args.facts.now)) (place_of_node c.args.t.now c.args.e.0) c.expr_place.result (num_type (type_of_node c.args.t.now c.args.e.0)) (node_slice c.args.t.now c.args.base) (node_number c.args.t.now c.args.at) c.in_ok-range.range c.gives_ranged.result (sym c.in_ok-judge_slice.was ∙ c.judge_slice.ensures.answer) (sym c.in_ok-range.was ∙ c.judge.ensures.answer)
    (c.gives_ranged.ensures ∙ length-given (claims_in c.args.t.now (told c.args.facts.now)) c.args.t.now c.args.base less (node_number c.args.t.now c.args.at) (place_of_node c.args.t.now c.args.e.0) c.length_side.result.side c.in_ok-range.range c.length_side.result.range (both_of (is_expr c.args.t.now c.args.base) _ c.requires.base).1 c.length_side.ensures.kind c.length_side.ensures.side (judged-range (claims_in c.args.t.now (told c.args.facts.now)) (node_number c.args.t.now c.args.at) c.in_ok-range.range (sym c.in_ok-range.was ∙ c.judge.ensures.answer)) c.length_side.ensures.range) c.if-gives_ranged.false c.expr_place.ensures)

pub judge_from-returns : goal.judge_from-returns
judge_from-returns t c = record {
  answer = from-answer (claims_in c.args.t.now (told c.args.facts.now)) (place_of_node c.args.t.now c.args.e.0) (node_slice c.args.t.now c.args.base) (node_number c.args.t.now c.args.i) c.in_ok-range.range (first_rule (claims_in c.args.t.now (told c.args.facts.now)) (single (node_number c.args.t.now c.args.i)) at_most (side_in c.args.t.now c.length_side.result.side) || second_rule at_most c.in_ok-range.range c.length_side.result.range) c.ordered_ends.result (sym c.in_ok-range.was ∙ c.judge.ensures.answer) c.ordered_ends.ensures.answer (length-given (claims_in c.args.t.now (told c.args.facts.now)) c.args.t.now c.args.base at_most (node_number c.args.t.now c.args.i) (place_of_node c.args.t.now c.args.e.0) c.length_side.result.side c.in_ok-range.range c.length_side.result.range (both_of (is_expr c.args.t.now c.args.base) _ c.requires.base).1 c.length_side.ensures.kind c.length_side.ensures.side (judged-range (claims_in c.args.t.now (told c.args.facts.now)) (node_number c.args.t.now c.args.i) c.in_ok-range.range (sym c.in_ok-range.was ∙ c.judge.ensures.answer)) c.length_side.ensures.range);
}

pub judge_up_to-returns : goal.judge_up_to-returns
judge_up_to-returns t c = record {
  answer = up-to-answer (claims_in c.args.t.now (told c.args.facts.now)) (place_of_node c.args.t.now c.args.e.0) (node_slice c.args.t.now c.args.base) (node_number c.args.t.now c.args.j) c.in_ok-range.range (first_rule (claims_in c.args.t.now (told c.args.facts.now)) (single (number no_place 0)) at_most (single (node_number c.args.t.now c.args.j)) || second_rule at_most c.number_range.result c.in_ok-range.range) (first_rule (claims_in c.args.t.now (told c.args.facts.now)) (single (node_number c.args.t.now c.args.j)) at_most (side_in c.args.t.now c.length_side.result.side) || second_rule at_most c.in_ok-range.range c.length_side.result.range) c.ordered_ends-2.result (sym c.in_ok-range.was ∙ c.judge.ensures.answer) (sym c.in_ok-ordered_ends.was ∙ c.ordered_ends.ensures.answer) c.ordered_ends-2.ensures.answer
      (zero-given (claims_in c.args.t.now (told c.args.facts.now)) (place_of_node c.args.t.now c.args.e.0) (node_number c.args.t.now c.args.j) c.number_range.result c.in_ok-range.range c.number_range.ensures.range (sym c.in_ok-range.was ∙ c.judge.ensures.answer)) (length-given (claims_in c.args.t.now (told c.args.facts.now)) c.args.t.now c.args.base at_most (node_number c.args.t.now c.args.j) (place_of_node c.args.t.now c.args.e.0) c.length_side.result.side c.in_ok-range.range c.length_side.result.range (both_of (is_expr c.args.t.now c.args.base) _ c.requires.base).1 c.length_side.ensures.kind c.length_side.ensures.side (judged-range (claims_in c.args.t.now (told c.args.facts.now)) (node_number c.args.t.now c.args.j) c.in_ok-range.range (sym c.in_ok-range.was ∙ c.judge.ensures.answer)) c.length_side.ensures.range);
}

pub judge_up_to-returns-in_err-ordered_ends : goal.judge_up_to-returns-in_err-ordered_ends
judge_up_to-returns-in_err-ordered_ends t c =
    let r = err_from_is_err_and c.from_residual-in_err-ordered_ends.result c.from_residual-in_err-ordered_ends.ensures.1 in
    rw (r.1, r.2) (record {
      answer = up-to-refused (claims_in c.args.t.now (told c.args.facts.now)) (place_of_node c.args.t.now c.args.e.0) (node_slice c.args.t.now c.args.base) (node_number c.args.t.now c.args.j) c.in_ok-range.range (first_rule (claims_in c.args.t.now (told c.args.facts.now)) (single (number no_place 0)) at_most (single (node_number c.args.t.now c.args.j)) || second_rule at_most c.number_range.result c.in_ok-range.range) c.in_err-ordered_ends.field-0.0 (sym c.in_ok-range.was ∙ c.judge.ensures.answer) (sym c.in_err-ordered_ends.was ∙ c.ordered_ends.ensures.answer)
          (zero-given (claims_in c.args.t.now (told c.args.facts.now)) (place_of_node c.args.t.now c.args.e.0) (node_number c.args.t.now c.args.j) c.number_range.result c.in_ok-range.range c.number_range.ensures.range (sym c.in_ok-range.was ∙ c.judge.ensures.answer));
    })

pub judge_between-returns : goal.judge_between-returns
judge_between-returns t c = record {
  answer = between-answer (claims_in c.args.t.now (told c.args.facts.now)) (place_of_node c.args.t.now c.args.e.0) (node_slice c.args.t.now c.args.base) (node_number c.args.t.now c.args.i) (node_number c.args.t.now c.args.j) c.in_ok-range.range c.in_ok-range-2.range (first_rule (claims_in c.args.t.now (told c.args.facts.now)) (single (node_number c.args.t.now c.args.i)) at_most (single (node_number c.args.t.now c.args.j)) || second_rule at_most c.in_ok-range.range c.in_ok-range-2.range) (first_rule (claims_in c.args.t.now (told c.args.facts.now)) (single (node_number c.args.t.now c.args.j)) at_most (side_in c.args.t.now c.length_side.result.side) || second_rule at_most c.in_ok-range-2.range c.length_side.result.range) c.ordered_ends-2.result (sym c.in_ok-range.was ∙ c.judge.ensures.answer) (sym c.in_ok-range-2.was ∙ c.judge-2.ensures.answer) (sym c.in_ok-ordered_ends.was ∙ c.ordered_ends.ensures.answer) c.ordered_ends-2.ensures.answer
      (numbers-given (claims_in c.args.t.now (told c.args.facts.now)) at_most (node_number c.args.t.now c.args.i) (node_number c.args.t.now c.args.j) c.in_ok-range.range c.in_ok-range-2.range (sym c.in_ok-range.was ∙ c.judge.ensures.answer) (sym c.in_ok-range-2.was ∙ c.judge-2.ensures.answer)) (length-given (claims_in c.args.t.now (told c.args.facts.now)) c.args.t.now c.args.base at_most (node_number c.args.t.now c.args.j) (place_of_node c.args.t.now c.args.e.0) c.length_side.result.side c.in_ok-range-2.range c.length_side.result.range (both_of (is_expr c.args.t.now c.args.base) _ c.requires.base).1 c.length_side.ensures.kind c.length_side.ensures.side (judged-range (claims_in c.args.t.now (told c.args.facts.now)) (node_number c.args.t.now c.args.j) c.in_ok-range-2.range (sym c.in_ok-range-2.was ∙ c.judge-2.ensures.answer)) c.length_side.ensures.range);
}

pub judge_between-returns-in_err-ordered_ends : goal.judge_between-returns-in_err-ordered_ends
judge_between-returns-in_err-ordered_ends t c =
    let r = err_from_is_err_and c.from_residual-in_err-ordered_ends.result c.from_residual-in_err-ordered_ends.ensures.1 in
    rw (r.1, r.2) (record {
      answer = between-refused (claims_in c.args.t.now (told c.args.facts.now)) (place_of_node c.args.t.now c.args.e.0) (node_slice c.args.t.now c.args.base) (node_number c.args.t.now c.args.i) (node_number c.args.t.now c.args.j) c.in_ok-range.range c.in_ok-range-2.range (first_rule (claims_in c.args.t.now (told c.args.facts.now)) (single (node_number c.args.t.now c.args.i)) at_most (single (node_number c.args.t.now c.args.j)) || second_rule at_most c.in_ok-range.range c.in_ok-range-2.range) c.in_err-ordered_ends.field-0.0 (sym c.in_ok-range.was ∙ c.judge.ensures.answer) (sym c.in_ok-range-2.was ∙ c.judge-2.ensures.answer) (sym c.in_err-ordered_ends.was ∙ c.ordered_ends.ensures.answer)
          (numbers-given (claims_in c.args.t.now (told c.args.facts.now)) at_most (node_number c.args.t.now c.args.i) (node_number c.args.t.now c.args.j) c.in_ok-range.range c.in_ok-range-2.range (sym c.in_ok-range.was ∙ c.judge.ensures.answer) (sym c.in_ok-range-2.was ∙ c.judge-2.ensures.answer));
    })

pub judge_next-returns-in_err-operand_demand-clause-answer : goal.judge_next-returns-in_err-operand_demand-clause-answer
judge_next-returns-in_err-operand_demand-clause-answer t c =
    let r = err_from_is_err_and c.from_residual-in_err-operand_demand.result c.from_residual-in_err-operand_demand.ensures.1 in
    rw (r.1, r.2) (next-refused (claims_in c.args.t.now (told c.args.facts.now)) (arith_of c.args.link.op) c.args.link.bits c.args.link.sign c.args.link.ordered c.args.link.last c.args.r c.in_ok-operand.operand (node_number c.args.t.now c.args.part) c.in_err-operand_demand.field-0.0 (sym c.in_ok-operand.was ∙ c.judge.ensures.answer) (sym c.in_err-operand_demand.was ∙ c.operand_demand.ensures))

pub judge_next-returns-then-lies_in-clause-answer : goal.judge_next-returns-then-lies_in-clause-answer
judge_next-returns-then-lies_in-clause-answer t c =
    next-ok (claims_in c.args.t.now (told c.args.facts.now)) (arith_of c.args.link.op) c.args.link.bits c.args.link.sign c.args.link.ordered c.args.link.last (fits_width c.operator_range-next.result c.args.link.bits) c.args.r c.in_ok-operand.operand c.operator_range-next.result (node_number c.args.t.now c.args.part)
    (sym c.in_ok-operand.was ∙ c.judge.ensures.answer) (sym c.in_ok-operand_demand.was ∙ c.operand_demand.ensures) c.operator_range-next.ensures refl (sym c.lies_in.ensures ∙ c.if-lies_in.true)

pub judge_next-returns-then-lies_in-clause-small : goal.judge_next-returns-then-lies_in-clause-small
judge_next-returns-then-lies_in-clause-small t c =
    λ h. next-small c.args.link.bits c.args.link.last (fits_width c.operator_range-next.result c.args.link.bits) c.operator_range-next.result c.requires.width refl (sym c.lies_in.ensures ∙ c.if-lies_in.true) h

pub judge_next-returns-else-lies_in-clause-answer : goal.judge_next-returns-else-lies_in-clause-answer
judge_next-returns-else-lies_in-clause-answer t c =
    next-err (claims_in c.args.t.now (told c.args.facts.now)) (arith_of c.args.link.op) c.args.link.bits c.args.link.sign c.args.link.ordered c.args.link.last (fits_width c.operator_range-next.result c.args.link.bits) c.args.r c.in_ok-operand.operand c.operator_range-next.result (node_number c.args.t.now c.args.part)
    (sym c.in_ok-operand.was ∙ c.judge.ensures.answer) (sym c.in_ok-operand_demand.was ∙ c.operand_demand.ensures) c.operator_range-next.ensures refl (sym c.lies_in.ensures ∙ c.if-lies_in.false)

pub judge_rule-judge_chain-requires : goal.judge_rule-judge_chain-requires
judge_rule-judge_chain-requires t c =
    let fits : chain_fits c.args.t.now (operator_kind c.in-Chain.op) c.as_slice.result.now (type_of_node c.args.t.now c.args.e.0) ≡ true = search rules in
    let below : list_all (λ (p : ExprId). nat_lt p.0 c.args.e.0) c.as_slice.result.now ≡ true = search rules in
    let tree : tree_of c.args.t.now c.args.e ≡ chain_of (place_of_node c.args.t.now c.args.e.0) (signs_of_node c.args.t.now c.args.e.0) (type_of_node c.args.t.now c.args.e.0) (operator_kind c.in-Chain.op) (map (tree_of c.args.t.now) c.as_slice.result.now) = search rules in
    let a = is-arith c.args.t.now c.args.e.0 (type_of_node c.args.t.now c.args.e.0) (operator_kind c.in-Chain.op) c.as_slice.result.now (number-below c.args.t.now c.args.e c.requires.node) (both_of (is_expr c.args.t.now c.args.e) _ c.requires.node).1 fits below in
    (search rules, (c.requires.known, (c.requires.node, (tree, (fits, (below, (a.arithmetic_sort, a.numbers)))))))

pub judge_rule-returns-in-Chain-clause-small : goal.judge_rule-returns-in-Chain-clause-small
judge_rule-returns-in-Chain-clause-small t c =
    let fits : chain_fits c.args.t.now (operator_kind c.in-Chain.op) c.as_slice.result.now (type_of_node c.args.t.now c.args.e.0) ≡ true = search rules in
    let tree : tree_of c.args.t.now c.args.e ≡ chain_of (place_of_node c.args.t.now c.args.e.0) (signs_of_node c.args.t.now c.args.e.0) (type_of_node c.args.t.now c.args.e.0) (operator_kind c.in-Chain.op) (map (tree_of c.args.t.now) c.as_slice.result.now) = search rules in
    let o = is-operator c.args.t.now (tree_of c.args.t.now) (place_of_node c.args.t.now c.args.e.0) (signs_of_node c.args.t.now c.args.e.0) (type_of_node c.args.t.now c.args.e.0) (operator_kind c.in-Chain.op) c.as_slice.result.now (both_of (is_expr c.args.t.now c.args.e) _ c.requires.node).1 fits in
    λ h. let k : true ≡ false = sym o ∙ ap (λ (t : ValueTree). is_operator (num_in t)) (sym tree) ∙ h in absurd (cc (k))

pub judge_chain-returns-in_err-r : goal.judge_chain-returns-in_err-r
judge_chain-returns-in_err-r t c =
    let r = err_from_is_err_and c.from_residual.result c.from_residual.ensures.1 in
    let a = is-arith c.args.t.now c.args.e.0 (type_of_node c.args.t.now c.args.e.0) (operator_kind c.args.op) c.args.parts.now (number-below c.args.t.now c.args.e c.requires.node) (both_of (is_expr c.args.t.now c.args.e) _ c.requires.node).1 c.requires.fits c.requires.below in
    let R = λ (t : ValueTree). Err c.in_err-r.field-0.0 ≡ ruled (claims_in c.args.t.now (told c.args.facts.now)) (num_in t) in
    rw (r.1, r.2) (record {
      answer = subst R (sym c.requires.tree) (first-refused (claims_in c.args.t.now (told c.args.facts.now)) c.args.t.now (place_of_node c.args.t.now c.args.e.0) (signs_of_node c.args.t.now c.args.e.0) (type_of_node c.args.t.now c.args.e.0) (operator_kind c.args.op) c.args.parts.now c.in_err-r.field-0.0 c.requires.arithmetic a.some (sym c.in_err-r.was ∙ c.judge.ensures.answer));
    })

pub judge_chain-loop-i-init : goal.judge_chain-loop-i-init
judge_chain-loop-i-init t c =
    let a = is-arith c.args.t.now c.args.e.0 (type_of_node c.args.t.now c.args.e.0) (operator_kind c.args.op) c.args.parts.now (number-below c.args.t.now c.args.e c.requires.node) (both_of (is_expr c.args.t.now c.args.e) _ c.requires.node).1 c.requires.fits c.requires.below in
    let ok : Ok c.in_ok-r.r ≡ judged (claims_in c.args.t.now (told c.args.facts.now)) (part_number c.args.t.now c.args.parts.now 0) = sym c.in_ok-r.was ∙ c.judge.ensures.answer in
    let b = chain-begins (claims_in c.args.t.now (told c.args.facts.now)) c.args.t.now (place_of_node c.args.t.now c.args.e.0) (signs_of_node c.args.t.now c.args.e.0) (type_of_node c.args.t.now c.args.e.0) (operator_kind c.args.op) c.args.parts.now c.in_ok-r.r c.requires.arithmetic a.some ok in
    record {
      from = omega arith;
      left = b ∙ ap (λ (t : ValueTree). ruled (claims_in c.args.t.now (told c.args.facts.now)) (num_in t)) (sym c.requires.tree);
      small = λ h. c.in_ok-r.ensures.small;
    }

pub judge_chain-judge_next-requires : goal.judge_chain-judge_next-requires
judge_chain-judge_next-requires t c =
    let within : c.loop-i.i < length c.args.parts.now = omega arith in
    let p = lt_from _ _ (item-true (λ (p : ExprId). nat_lt p.0 c.args.e.0) c.args.parts.now c.loop-i.i (record { 0 = 0 }) c.requires.below within) in
    let n = item-true (is_number_at c.args.t.now) c.args.parts.now c.loop-i.i (record { 0 = 0 }) c.requires.numbers within in
    let A : Op → Type 0 = λ op. is_arithmetic (operator_kind op) ≡ true in
    (search (rules, p), (c.requires.known, (n, (subst A (sym c.link_at.ensures.op) c.requires.arithmetic, (c.link_at.ensures.few, c.loop-i.invariant.small within)))))

pub judge_chain-returns-in_err-r-2 : goal.judge_chain-returns-in_err-r-2
judge_chain-returns-in_err-r-2 t c =
    let r = err_from_is_err_and c.from_residual-in_err-r-2.result c.from_residual-in_err-r-2.ensures.1 in
    let within : c.loop-i.i < length c.args.parts.now = omega arith in
    let link = c.link_at.ensures in
    let same : one_more (claims_in c.args.t.now (told c.args.facts.now)) (arith_of c.link_at.result.op) c.link_at.result.bits c.link_at.result.sign c.link_at.result.ordered c.link_at.result.last c.loop-i.r (part_number c.args.t.now c.args.parts.now c.loop-i.i)
    ≡ next_at (claims_in c.args.t.now (told c.args.facts.now)) c.args.t.now (place_of_node c.args.t.now c.args.e.0) (arith_of c.args.op) (num_type (type_of_node c.args.t.now c.args.e.0)).bits (part_number c.args.t.now c.args.parts.now 0) c.loop-i.i c.args.parts.now (signs_of_node c.args.t.now c.args.e.0) c.loop-i.r =
    (λ n. one_more (claims_in c.args.t.now (told c.args.facts.now)) (arith_of (link.op n)) (link.bits n) (link.sign n) (link.ordered n) (link.last n) c.loop-i.r (part_number c.args.t.now c.args.parts.now c.loop-i.i))
    ∙ more-unordered (claims_in c.args.t.now (told c.args.facts.now)) (arith_of c.args.op) (num_type (type_of_node c.args.t.now c.args.e.0)).bits (first_sign (place_of_node c.args.t.now c.args.e.0) (drop (c.loop-i.i - 1) (signs_of_node c.args.t.now c.args.e.0))) (is_ordered (claims_in c.args.t.now (told c.args.facts.now)) (nat_lt 1 c.loop-i.i) (part_number c.args.t.now c.args.parts.now 0) (part_number c.args.t.now c.args.parts.now c.loop-i.i)) (nat_eq (c.loop-i.i + 1) (length c.args.parts.now)) c.loop-i.r (part_number c.args.t.now c.args.parts.now c.loop-i.i) in
    rw (r.1, r.2) (record {
      answer = chain-stops (claims_in c.args.t.now (told c.args.facts.now)) c.args.t.now (place_of_node c.args.t.now c.args.e.0) (arith_of c.args.op) (num_type (type_of_node c.args.t.now c.args.e.0)).bits (part_number c.args.t.now c.args.parts.now 0) c.loop-i.i c.args.parts.now (signs_of_node c.args.t.now c.args.e.0) c.loop-i.r c.in_err-r-2.field-0.0 (ruled (claims_in c.args.t.now (told c.args.facts.now)) (node_number c.args.t.now c.args.e)) c.loop-i.invariant.from within (sym c.in_err-r-2.was ∙ c.judge_next.ensures.answer ∙ same) c.loop-i.invariant.left;
    })

pub judge_chain-loop-i-preserved : goal.judge_chain-loop-i-preserved
judge_chain-loop-i-preserved t c =
    let within : c.loop-i.i < length c.args.parts.now = omega arith in
    let link = c.link_at.ensures in
    let same : one_more (claims_in c.args.t.now (told c.args.facts.now)) (arith_of c.link_at.result.op) c.link_at.result.bits c.link_at.result.sign c.link_at.result.ordered c.link_at.result.last c.loop-i.r (part_number c.args.t.now c.args.parts.now c.loop-i.i)
    ≡ next_at (claims_in c.args.t.now (told c.args.facts.now)) c.args.t.now (place_of_node c.args.t.now c.args.e.0) (arith_of c.args.op) (num_type (type_of_node c.args.t.now c.args.e.0)).bits (part_number c.args.t.now c.args.parts.now 0) c.loop-i.i c.args.parts.now (signs_of_node c.args.t.now c.args.e.0) c.loop-i.r =
    (λ n. one_more (claims_in c.args.t.now (told c.args.facts.now)) (arith_of (link.op n)) (link.bits n) (link.sign n) (link.ordered n) (link.last n) c.loop-i.r (part_number c.args.t.now c.args.parts.now c.loop-i.i))
    ∙ more-unordered (claims_in c.args.t.now (told c.args.facts.now)) (arith_of c.args.op) (num_type (type_of_node c.args.t.now c.args.e.0)).bits (first_sign (place_of_node c.args.t.now c.args.e.0) (drop (c.loop-i.i - 1) (signs_of_node c.args.t.now c.args.e.0))) (is_ordered (claims_in c.args.t.now (told c.args.facts.now)) (nat_lt 1 c.loop-i.i) (part_number c.args.t.now c.args.parts.now 0) (part_number c.args.t.now c.args.parts.now c.loop-i.i)) (nat_eq (c.loop-i.i + 1) (length c.args.parts.now)) c.loop-i.r (part_number c.args.t.now c.args.parts.now c.loop-i.i) in
    record {
      from = omega arith;
      left = chain-goes-on (claims_in c.args.t.now (told c.args.facts.now)) c.args.t.now (place_of_node c.args.t.now c.args.e.0) (arith_of c.args.op) (num_type (type_of_node c.args.t.now c.args.e.0)).bits (part_number c.args.t.now c.args.parts.now 0) c.loop-i.i c.args.parts.now (signs_of_node c.args.t.now c.args.e.0) c.loop-i.r c.in_ok-r-2.r (ruled (claims_in c.args.t.now (told c.args.facts.now)) (node_number c.args.t.now c.args.e)) c.loop-i.invariant.from within (sym c.in_ok-r-2.was ∙ c.judge_next.ensures.answer ∙ same) c.loop-i.invariant.left;
      small = λ more. let e : nat_eq (c.loop-i.i + 1) (length c.args.parts.now) ≡ false = grind (arith, nat_tests, more) in c.in_ok-r-2.ensures.small (link.last ∙ e);
    }

pub judge_chain-returns : goal.judge_chain-returns
judge_chain-returns t c =
    let long : length c.args.parts.now ≤ c.loop-i.i = omega arith in
    record { answer = chain-ends (claims_in c.args.t.now (told c.args.facts.now)) c.args.t.now (place_of_node c.args.t.now c.args.e.0) (arith_of c.args.op) (num_type (type_of_node c.args.t.now c.args.e.0)).bits (part_number c.args.t.now c.args.parts.now 0) c.loop-i.i c.args.parts.now (signs_of_node c.args.t.now c.args.e.0) c.loop-i.r (ruled (claims_in c.args.t.now (told c.args.facts.now)) (node_number c.args.t.now c.args.e)) long c.loop-i.invariant.left }
