use Rattle.std.proofs.Common.{◌≡◌, ◌∙◌, ℕ, ◌-◌, ◌++◌, Some, length, drop, sym, ap, subst, arith}
use Rattle.std.proofs.lemmas.List.{drop_all}
use Rattle.wf_ast.specs.ParsedParts.{LinksBelow}
use Rattle.wf_ast.proofs.AboveLemmas.{exprs_above, links_above, expr_at_place, link_at_place, prefix_at_place}
use Rattle.wf_ast.proofs.TreeLemmas.{LinksBelow-more}
use Rattle.wf_named.specs.NamedTrees.{expr_trees, expr_at, part_at, links_at, args_at, type_at, all_prefixed}
use Rattle.wf_named.proofs.ShapeLemmas.{ArgsBelow-more, NamedTypeBelow-more}
use Rattle.wf_types_rules.specs.Judgements.{value_of}
use Rattle.wf_types_rules.specs.Parts.{expr_parts, end_parts, links_parts, args_parts}
use Rattle.wf_types_exprs.specs.Judged.{judged, operand_behind, TellsType}
use Rattle.wf_types_exprs.proofs.AboveLemmas.{type_above}
use Rattle.wf_types_exprs.proofs.JudgedLaws.{judged-append, judged-none}
use Rattle.wf_types_exprs.proofs.ListLemmas.{operands_begun, link_found, link_joined, arg_found, args_fit}
use Rattle.wf_types_exprs.proofs.ExprLemmas.{number_found, status_found, truth_found, path_found, index_found, slice_found, chain_judged, pair_judged, conversion_judged, negation_found, call_found, argument_behind, path_handed, argument_fits}
use Rattle.wf_types_exprs.proofs.TypeLemmas.{converted_found, refined_tells, slice_tells, array_tells, prefix_next}
use Rattle.wf_types_exprs.proofs.walk.+judge_exprs.Goals as goal

pub judge_expr-judge_call-requires : goal.judge_expr-judge_call-requires
judge_expr-judge_call-requires t c =
    let parts = rw c.in-Call.is at c.expr-node.ensures.parts in
    (omega (arith, exprs_above c.args.e.0 c.in-Call.call.args parts, c.decreases), ArgsBelow-more c.args.e.0 (length c.args.here.now.nodes.now.exprs) (omega (arith, c.requires)) c.in-Call.call.args parts)

pub judge_expr-judge_chain-requires : goal.judge_expr-judge_chain-requires
judge_expr-judge_chain-requires t c =
    let parts = rw c.in-Chain.is at c.expr-node.ensures.parts in
    let below : LinksBelow c.args.e.0 c.as_slice.result.now = rw c.as_slice.ensures parts.1 in
    (omega (arith, parts.0, links_above c.args.e.0 c.as_slice.result.now below, c.decreases), (omega (arith, parts.0, c.requires), LinksBelow-more c.args.e.0 (length c.args.here.now.nodes.now.exprs) (omega (arith, c.requires)) c.as_slice.result.now below))

pub judge_expr-judge_conversion-requires : goal.judge_expr-judge_conversion-requires
judge_expr-judge_conversion-requires t c =
    let parts = rw c.in-Convert.is at c.expr-node.ensures.parts in
    (omega (arith, parts.0, type_above c.args.e.0 c.in-Convert.to parts.1, c.decreases), (omega (arith, parts.0, c.requires), NamedTypeBelow-more c.args.e.0 (length c.args.here.now.nodes.now.exprs) (omega (arith, c.requires)) c.in-Convert.to parts.1))

pub judge_expr-returns-in-Number-clause-found : goal.judge_expr-returns-in-Number-clause-found
judge_expr-returns-in-Number-clause-found t c =
    rw (c.expr-node.ensures.made, c.in-Number.is) (number_found c.args.here.now.around.now c.args.found.now _ _)

pub judge_expr-returns-in-Status-clause-found : goal.judge_expr-returns-in-Status-clause-found
judge_expr-returns-in-Status-clause-found t c =
    rw (c.expr-node.ensures.made, c.in-Status.is) (status_found c.args.here.now.around.now c.args.found.now _ _)

pub judge_expr-returns-in-Truth-clause-found : goal.judge_expr-returns-in-Truth-clause-found
judge_expr-returns-in-Truth-clause-found t c =
    rw (c.expr-node.ensures.made, c.in-Truth.is) (truth_found c.args.here.now.around.now c.args.found.now _ _)

pub judge_expr-returns-in-Path-clause-found : goal.judge_expr-returns-in-Path-clause-found
judge_expr-returns-in-Path-clause-found t c =
    rw (c.expr-node.ensures.made, c.in-Path.is) (c.judged_path.ensures.found ∙ path_found c.args.here.now.around.now c.args.found.now c.in-Path.path)

pub judge_expr-returns-in_ok-v-in-Index-clause-found : goal.judge_expr-returns-in_ok-v-in-Index-clause-found
judge_expr-returns-in_ok-v-in-Index-clause-found t c =
    let i = expr_at (expr_trees c.args.here.now.nodes.now.exprs) c.in-Index.index in
    rw (c.expr-node.ensures.made, c.in-Index.is)
    (c.judged_index.ensures.found
    ∙ index_found c.args.here.now.around.now c.args.found.now c.judge_value.new.found c.in-Index.base i c.expr-node.result.now.at c.base_value-array.result c.in_ok-v-in-Index.v c.base_value-array.ensures c.in_ok-v-in-Index.ensures.value c.in_ok-v-in-Index.ensures.found)

pub judge_expr-returns-in_ok-ends-in-Slice-clause-found : goal.judge_expr-returns-in_ok-ends-in-Slice-clause-found
judge_expr-returns-in_ok-ends-in-Slice-clause-found t c =
    let es = expr_trees c.args.here.now.nodes.now.exprs in
    let ends = c.in_ok-ends-in-Slice.ends in
    rw (c.expr-node.ensures.made, c.in-Slice.is)
    (c.judged_slice.ensures.found
    ∙ slice_found c.args.here.now.around.now c.args.found.now c.judge_ends.new.found c.in-Slice.base (part_at es c.in-Slice.from) (part_at es c.in-Slice.to) c.expr-node.result.now.at c.base_value-whole.result ends.from ends.to
    c.base_value-whole.ensures c.in_ok-ends-in-Slice.ensures.from c.in_ok-ends-in-Slice.ensures.to c.in_ok-ends-in-Slice.ensures.found)

pub judge_chain-returns-in_ok-operands-in_default-clause-found : goal.judge_chain-returns-in_ok-operands-in_default-clause-found
judge_chain-returns-in_ok-operands-in_default-clause-found t c =
    let es = expr_trees c.args.here.now.nodes.now.exprs in
    let all = c.in_ok-operands-in_default in
    c.judged_chain.ensures.found
    ∙ chain_judged c.args.here.now.around.now c.args.found.now c.judge_operands.new.found c.args.op (expr_at es c.args.first) (links_at es c.args.links.now) c.args.at all.operands all.ensures.of all.ensures.found

pub judge_pair-returns-clause-found : goal.judge_pair-returns-clause-found
judge_pair-returns-clause-found t c =
    let es = expr_trees c.args.here.now.nodes.now.exprs in
    c.judged_pair.ensures.found
    ∙ pair_judged c.args.here.now.around.now c.args.found.now c.judge_value.new.found c.judge_value-2.new.found c.args.op (expr_at es c.args.first) (expr_at es c.args.link.operand) c.args.link.sign c.args.at
    c.in_ok-a.a c.in_ok-b.b c.in_ok-a.ensures.value c.in_ok-b.ensures.value c.in_ok-a.ensures.found c.in_ok-b.ensures.found

pub judge_expr-returns-in_ok-of-in-Convert-clause-found : goal.judge_expr-returns-in_ok-of-in-Convert-clause-found
judge_expr-returns-in_ok-of-in-Convert-clause-found t c =
    let es = expr_trees c.args.here.now.nodes.now.exprs in
    let j = c.in_ok-of-in-Convert.of in
    rw (c.expr-node.ensures.made, c.in-Convert.is)
    (c.judged_conversion.ensures.found
    ∙ conversion_judged c.args.here.now.around.now c.args.found.now c.judge_conversion.new.found (expr_at es c.in-Convert.of) (type_at es c.in-Convert.to) c.expr-node.result.now.at j.value j.plain
    c.in_ok-of-in-Convert.ensures.value c.in_ok-of-in-Convert.ensures.plain c.in_ok-of-in-Convert.ensures.found)

pub judge_expr-returns-in_ok-v-in-Not-clause-found : goal.judge_expr-returns-in_ok-v-in-Not-clause-found
judge_expr-returns-in_ok-v-in-Not-clause-found t c =
    let e = expr_at (expr_trees c.args.here.now.nodes.now.exprs) c.in-Not.of in
    let v = c.in_ok-v-in-Not.v in
    rw (c.expr-node.ensures.made, c.in-Not.is)
    (c.judged_negation.ensures.found ∙ negation_found c.args.here.now.around.now c.args.found.now c.judge_value-in-Not.new.found e c.expr-node.result.now.at v c.in_ok-v-in-Not.ensures.value c.in_ok-v-in-Not.ensures.found)

pub judge_end-returns-in-None-clause-found : goal.judge_end-returns-in-None-clause-found
judge_end-returns-in-None-clause-found t c = rw c.in-None.is (judged-none c.args.here.now.around.now c.args.found.now)

pub judge_low-returns-in-None-clause-found : goal.judge_low-returns-in-None-clause-found
judge_low-returns-in-None-clause-found t c = rw c.in-None.is (judged-none c.args.here.now.around.now c.args.found.now)

pub judge_ends-returns-clause-found : goal.judge_ends-returns-clause-found
judge_ends-returns-clause-found t c =
    let s = c.args.here.now.around.now in
    let es = expr_trees c.args.here.now.nodes.now.exprs in
    c.in_ok-to.ensures.found ∙ ap (λ f. judged s f (end_parts (part_at es c.args.to))) c.in_ok-from.ensures.found
    ∙ sym (judged-append s c.args.found.now (end_parts (part_at es c.args.from)) (end_parts (part_at es c.args.to)))

pub judge_links-judge_operand-requires : goal.judge_links-judge_operand-requires
judge_links-judge_operand-requires t c =
    let place = link_at_place (length c.args.here.now.nodes.now.exprs) c.args.links.now c.loop-link.link-index _ c.loop-link-test.true c.requires in
    (omega (arith, place.0, c.decreases), place.1)

pub judge_links-loop-link-preserved : goal.judge_links-loop-link-preserved
judge_links-loop-link-preserved t c =
    let s = c.args.here.now.around.now in
    let es = expr_trees c.args.here.now.nodes.now.exprs in
    let l = c.loop-link in (
      link_found s es c.args.links.now l.link-index _ c.loop-link-test.true l.found _ c.in_ok-all.ensures.found ∙ l.invariant.0,
      link_joined s es c.args.links.now l.link-index _ c.loop-link-test.true l.all _ c.in_ok-all.ensures.of ∙ l.invariant.1,
    )

pub judge_links-returns-clause-found : goal.judge_links-returns-clause-found
judge_links-returns-clause-found t c =
    let s = c.args.here.now.around.now in
    let es = expr_trees c.args.here.now.nodes.now.exprs in
    let l = c.loop-link in
    let over = drop_all l.link-index c.args.links.now (omega (arith, c.loop-link-test.false)) in
    judged-none s l.found ∙ sym (ap (λ ls. judged s l.found (links_parts (links_at es ls))) over) ∙ l.invariant.0

pub judge_operands-returns-clause-found : goal.judge_operands-returns-clause-found
judge_operands-returns-clause-found t c =
    let s = c.args.here.now.around.now in
    let es = expr_trees c.args.here.now.nodes.now.exprs in
    let front = expr_parts (expr_at es c.args.first) in
    c.in_ok-all.ensures.found ∙ ap (λ f. judged s f (links_parts (links_at es c.args.links.now))) c.in_ok-begun.ensures.found
    ∙ sym (judged-append s c.args.found.now front (links_parts (links_at es c.args.links.now)))

pub judge_operands-returns-clause-of : goal.judge_operands-returns-clause-of
judge_operands-returns-clause-of t c =
    let s = c.args.here.now.around.now in
    let es = expr_trees c.args.here.now.nodes.now.exprs in
    let first = expr_at es c.args.first in
    c.in_ok-all.ensures.of ∙ operands_begun s first (links_at es c.args.links.now) c.in_ok-begun.begun
    (c.in_ok-begun.ensures.of ∙ ap (λ os. operand_behind (Some os) (value_of s first)) c.new.ensures)

pub judge_argument-returns-in-Some-clause-found : goal.judge_argument-returns-in-Some-clause-found
judge_argument-returns-in-Some-clause-found t c =
    let e = expr_at (expr_trees c.args.here.now.nodes.now.exprs) c.args.e in
    c.judged_argument.ensures.found
    ∙ path_handed c.args.here.now.around.now c.args.found.now c.args.callee c.args.n e c.in-Some.path c.wanted-ty.result c.base_value.result (sym c.as_path.ensures ∙ c.in-Some.is) c.wanted-ty.ensures c.base_value.ensures

pub judge_argument-returns-in_ok-v-in-None-clause-found : goal.judge_argument-returns-in_ok-v-in-None-clause-found
judge_argument-returns-in_ok-v-in-None-clause-found t c =
    let e = expr_at (expr_trees c.args.here.now.nodes.now.exprs) c.args.e in
    let v = c.in_ok-v-in-None.v in
    c.judged_argument-in-None.ensures.found
    ∙ argument_behind c.args.here.now.around.now c.args.found.now c.judge_value.new.found c.args.callee c.args.n e c.wanted-ty.result v (sym c.as_path.ensures ∙ c.in-None.is) c.wanted-ty.ensures c.in_ok-v-in-None.ensures.value c.in_ok-v-in-None.ensures.found

pub judge_argument-returns-in_ok-v-in-None-clause-fit : goal.judge_argument-returns-in_ok-v-in-None-clause-fit
judge_argument-returns-in_ok-v-in-None-clause-fit t c =
    let e = expr_at (expr_trees c.args.here.now.nodes.now.exprs) c.args.e in
    c.judged_argument-in-None.ensures.fit ∙ argument_fits c.args.here.now.around.now c.args.callee c.args.n e c.wanted-ty.result c.in_ok-v-in-None.v (sym c.as_path.ensures ∙ c.in-None.is) c.wanted-ty.ensures c.in_ok-v-in-None.ensures.value

pub judge_args-judge_argument-requires : goal.judge_args-judge_argument-requires
judge_args-judge_argument-requires t c =
    let place = expr_at_place (length c.args.here.now.nodes.now.exprs) c.args.args.now c.loop-n.n _ c.loop-n-test.true c.requires in
    (omega (arith, place.0, c.decreases), place.1)

pub judge_args-loop-n-preserved : goal.judge_args-loop-n-preserved
judge_args-loop-n-preserved t c =
    let s = c.args.here.now.around.now in
    let es = expr_trees c.args.here.now.nodes.now.exprs in
    let l = c.loop-n in
    rw c.all_fit-all.ensures (
      arg_found s es c.args.callee c.args.args.now l.n _ c.loop-n-test.true l.found _ c.in_ok-next.ensures.found ∙ l.invariant.0,
      args_fit s es c.args.callee c.args.args.now l.n _ c.loop-n-test.true l.all c.in_ok-next.next c.in_ok-next.ensures.fit ∙ l.invariant.1,
    )

pub judge_args-returns-clause-found : goal.judge_args-returns-clause-found
judge_args-returns-clause-found t c =
    let s = c.args.here.now.around.now in
    let es = expr_trees c.args.here.now.nodes.now.exprs in
    let l = c.loop-n in
    let over = drop_all l.n c.args.args.now (omega (arith, c.loop-n-test.false)) in
    judged-none s l.found ∙ sym (ap (λ xs. judged s l.found (args_parts c.args.callee l.n (args_at es xs))) over) ∙ l.invariant.0

pub judge_call-returns-clause-found : goal.judge_call-returns-clause-found
judge_call-returns-clause-found t c =
    let es = expr_trees c.args.here.now.nodes.now.exprs in
    let args = args_at es c.args.call.now.args in
    let all = rw (c.as_slice.ensures, c.tell_calling.ensures es) at c.in_ok-all.ensures.found in
    call_found c.args.here.now.around.now c.args.found.now _ c.args.inside c.args.call.now.callee c.args.call.now.at c.args.call.now.mark args all

pub judge_conversion-returns-clause-found : goal.judge_conversion-returns-clause-found
judge_conversion-returns-clause-found t c =
    let es = expr_trees c.args.here.now.nodes.now.exprs in
    c.tell_place.ensures
    ∙ converted_found c.args.here.now.around.now c.args.found.now c.judge_value.new.found c.judge_written.new.found (expr_at es c.args.of) (type_at es c.args.to.now) c.in_ok-written.written c.in_ok-value.ensures.found c.in_ok-written.ensures

pub judge_refined-returns : goal.judge_refined-returns
judge_refined-returns t c =
    let s = c.args.here.now.around.now in
    let es = expr_trees c.args.here.now.nodes.now.exprs in
    let low = part_at es c.args.bounds.low in
    let high = expr_at es c.args.bounds.high in
    let mid : c.judge_bound.new.found ≡ judged s c.args.found.now (end_parts low ++ expr_parts high) =
    c.in_ok-high.ensures.found ∙ ap (λ f. judged s f (expr_parts high)) c.in_ok-low.ensures.found ∙ sym (judged-append s c.args.found.now (end_parts low) (expr_parts high)) in
    refined_tells s c.args.found.now c.judge_bound.new.found c.written_refined.new.found c.args.of c.args.at low high c.in_ok-low.low c.in_ok-high.high c.written_refined.result
    c.written_refined.ensures.found c.written_refined.ensures.written c.in_ok-low.ensures.low c.in_ok-high.ensures.bound mid

pub judge_core-returns-in-None : goal.judge_core-returns-in-None
judge_core-returns-in-None t c = rw (c.in-Base.is, c.in-None.is) (c.written_plain.ensures c.args.here.now.around.now)

pub judge_core-returns-in-Struct : goal.judge_core-returns-in-Struct
judge_core-returns-in-Struct t c = rw c.in-Struct.is (c.written_struct.ensures c.args.here.now.around.now c.args.found.now)

pub judge_prefix-returns-in-Slice : goal.judge_prefix-returns-in-Slice
judge_prefix-returns-in-Slice t c = λ before of h.
    rw c.in-Slice.is (slice_tells c.args.here.now.around.now before c.args.found.now c.written_slice.new.found of c.in-Slice.at c.args.element c.written_slice.result h c.written_slice.ensures.found c.written_slice.ensures.written)

pub judge_prefix-returns-in_ok-count-in-Array : goal.judge_prefix-returns-in_ok-count-in-Array
judge_prefix-returns-in_ok-count-in-Array t c = λ before of h.
    let n = expr_at (expr_trees c.args.here.now.nodes.now.exprs) c.in-Array.length in
    rw c.in-Array.is (array_tells c.args.here.now.around.now before c.args.found.now c.judge_bound.new.found c.written_array.new.found n of c.in-Array.at c.in_ok-count-in-Array.count c.args.element c.written_array.result h c.written_array.ensures.found c.written_array.ensures.written c.in_ok-count-in-Array.ensures.bound c.in_ok-count-in-Array.ensures.found)

pub judge_prefixes-judge_prefix-requires : goal.judge_prefixes-judge_prefix-requires
judge_prefixes-judge_prefix-requires t c =
    let place = prefix_at_place (length c.args.here.now.nodes.now.exprs) c.args.prefixes.now (c.loop-left.left - 1) _ (omega (arith, c.loop-left-test.true, c.loop-left.invariant.0)) c.requires in
    (omega (arith, place.0, c.decreases), place.1)

pub judge_prefixes-loop-left-preserved : goal.judge_prefixes-loop-left-preserved
judge_prefixes-loop-left-preserved t c =
    let es = expr_trees c.args.here.now.nodes.now.exprs in
    let l = c.loop-left in (
      omega (arith, l.invariant.0),
      λ before of h.
          prefix_next c.args.here.now.around.now es c.args.prefixes.now l.left _ before _ of _ c.loop-left-test.true l.invariant.0
          (c.in_ok-written.ensures before (all_prefixed es (drop l.left c.args.prefixes.now) of) (l.invariant.1 before of h)),
    )

pub judge_prefixes-returns : goal.judge_prefixes-returns
judge_prefixes-returns t c = λ before of h.
    let es = expr_trees c.args.here.now.nodes.now.exprs in
    let none : c.loop-left.left ≡ 0 = omega (arith, c.loop-left-test.false) in
    let T : ℕ → Type 0 = λ n. TellsType c.args.here.now.around.now before c.loop-left.found (all_prefixed es (drop n c.args.prefixes.now) of) c.loop-left.written in
    subst T none (c.loop-left.invariant.1 before of h)
