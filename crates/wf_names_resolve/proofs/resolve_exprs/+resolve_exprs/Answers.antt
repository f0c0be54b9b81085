use Rattle.std.proofs.Common.{◌∙◌, length, refl, ap, arith}
use Rattle.std.proofs.lemmas.List.{drop_all}
use Rattle.wf_ast.specs.ParsedTrees.{expr_trees}
use Rattle.wf_ast.specs.ParsedParts.{LinksBelow}
use Rattle.wf_ast.proofs.TreeLemmas.{IsBelow-more, GivenBelow-more, TypeBelow-more, LinksBelow-more}
use Rattle.wf_ast.proofs.AboveLemmas.{given_above, links_above, type_above, given_at_place, link_at_place, prefix_at_place}
use Rattle.wf_named.specs.NamedTree as tree
use Rattle.wf_named.specs.NamedTrees.{expr_at}
use Rattle.wf_named.specs.NamedParts.{exprs_of}
use Rattle.wf_names_resolve.specs.Standing.{standing_here}
use Rattle.wf_names_resolve.specs.Resolved.{resolved_type}
use Rattle.wf_names_resolve.proofs.Growth.{grows_self, grows_more, ok_grows, ok_is, expr_kept, part_kept}
use Rattle.wf_names_resolve.proofs.ResolveLemmas.{chain_made, conversion_made, links_start, given_start, prefixes_start, link_made, given_made, prefix_made, links_made, all_given_made, prefixes_made, type_made, prefixes_below}
use Rattle.wf_names_resolve.proofs.resolve_exprs.+resolve_exprs.Goals as goal

pub resolve_expr-returns-clause-grows : goal.resolve_expr-returns-clause-grows
resolve_expr-returns-clause-grows t c =
    ok_grows c.args.nodes.now c.resolve_node.new.nodes c.put.new.nodes c.put.result c.in_ok-node.ensures.grows c.put.ensures.grows

pub resolve_expr-returns-clause-made : goal.resolve_expr-returns-clause-made
resolve_expr-returns-clause-made t c =
    ok_is (λ r. expr_at (exprs_of c.put.new.nodes) r) _ _ c.put.result c.in_ok-node.ensures.made c.put.ensures.made

pub resolve_node-returns-in-Number-clause-grows : goal.resolve_node-returns-in-Number-clause-grows
resolve_node-returns-in-Number-clause-grows t c =
    grows_self c.args.nodes.now

pub resolve_node-returns-in-OwnStatus-clause-grows : goal.resolve_node-returns-in-OwnStatus-clause-grows
resolve_node-returns-in-OwnStatus-clause-grows t c =
    grows_self c.args.nodes.now

pub resolve_node-returns-in-BaseStatus-clause-grows : goal.resolve_node-returns-in-BaseStatus-clause-grows
resolve_node-returns-in-BaseStatus-clause-grows t c =
    grows_self c.args.nodes.now

pub resolve_node-returns-in-Fine-clause-grows : goal.resolve_node-returns-in-Fine-clause-grows
resolve_node-returns-in-Fine-clause-grows t c =
    grows_self c.args.nodes.now

pub resolve_node-returns-in-Truth-clause-grows : goal.resolve_node-returns-in-Truth-clause-grows
resolve_node-returns-in-Truth-clause-grows t c =
    grows_self c.args.nodes.now

pub resolve_node-returns-in-Path-clause-grows : goal.resolve_node-returns-in-Path-clause-grows
resolve_node-returns-in-Path-clause-grows t c =
    grows_self c.args.nodes.now

pub resolve_node-returns-in-Path-clause-made : goal.resolve_node-returns-in-Path-clause-made
resolve_node-returns-in-Path-clause-made t c =
    rw (c.expr-node.ensures.made, c.in-Path.is) (ap tree.path (c.path.ensures c.args.here.now.parsed.now.texts))

pub resolve_node-returns-in_ok-index-in-Index-clause-made : goal.resolve_node-returns-in_ok-index-in-Index-clause-made
resolve_node-returns-in_ok-index-in-Index-clause-made t c =
    let base = c.path-array.ensures c.args.here.now.parsed.now.texts in
    let place = c.in_ok-index-in-Index.ensures.made in
    rw (c.expr-node.ensures.made, c.in-Index.is) (cc (base, place))

pub resolve_node-returns-in_ok-from-in-Slice-clause-made : goal.resolve_node-returns-in_ok-from-in-Slice-clause-made
resolve_node-returns-in_ok-from-in-Slice-clause-made t c =
    let base = c.path-whole.ensures c.args.here.now.parsed.now.texts in
    let from = c.in_ok-from-in-Slice.ensures.from in
    let to = c.in_ok-from-in-Slice.ensures.to in
    rw (c.expr-node.ensures.made, c.in-Slice.is) (cc (base, from, to))

pub resolve_node-returns-in_ok-call-in-Call-clause-made : goal.resolve_node-returns-in_ok-call-in-Call-clause-made
resolve_node-returns-in_ok-call-in-Call-clause-made t c =
    rw (c.expr-node.ensures.made, c.in-Call.is) (ap tree.answer c.in_ok-call-in-Call.ensures.made)

pub resolve_node-returns-in_ok-first-in-Chain-clause-made : goal.resolve_node-returns-in_ok-first-in-Chain-clause-made
resolve_node-returns-in_ok-first-in-Chain-clause-made t c =
    let first = c.in_ok-first-in-Chain.ensures.first in
    let links = rw c.as_slice.ensures at c.in_ok-first-in-Chain.ensures.links in
    rw (c.expr-node.ensures.made, c.in-Chain.is) (chain_made _ _ _ _ _ _ first links)

pub resolve_node-returns-in_ok-of-in-Convert-clause-made : goal.resolve_node-returns-in_ok-of-in-Convert-clause-made
resolve_node-returns-in_ok-of-in-Convert-clause-made t c =
    let of = c.in_ok-of-in-Convert.ensures.of in
    let to = c.in_ok-of-in-Convert.ensures.to in
    rw (c.expr-node.ensures.made, c.in-Convert.is) (conversion_made _ _ _ _ _ of to)

pub resolve_node-returns-in_ok-of-in-Not-clause-made : goal.resolve_node-returns-in_ok-of-in-Not-clause-made
resolve_node-returns-in_ok-of-in-Not-clause-made t c =
    rw (c.expr-node.ensures.made, c.in-Not.is) (ap (λ e. tree.negation e c.expr-node.result.now.at) c.in_ok-of-in-Not.ensures.made)

pub resolve_node-resolve_call-requires : goal.resolve_node-resolve_call-requires
resolve_node-resolve_call-requires t c =
    let parts = rw c.in-Call.is at c.expr-node.ensures.parts in
    (omega (arith, given_above c.args.e.0 c.in-Call.call.args parts, c.decreases), GivenBelow-more c.args.e.0 (length c.args.here.now.parsed.now.exprs) (omega (arith, c.requires)) c.in-Call.call.args parts)

pub resolve_node-resolve_chain-requires : goal.resolve_node-resolve_chain-requires
resolve_node-resolve_chain-requires t c =
    let parts = rw c.in-Chain.is at c.expr-node.ensures.parts in
    let below : LinksBelow c.args.e.0 c.as_slice.result.now = rw c.as_slice.ensures parts.1 in
    (omega (arith, parts.0, links_above c.args.e.0 c.as_slice.result.now below, c.decreases), (omega (arith, parts.0, c.requires), LinksBelow-more c.args.e.0 (length c.args.here.now.parsed.now.exprs) (omega (arith, c.requires)) c.as_slice.result.now below))

pub resolve_node-resolve_convert-requires : goal.resolve_node-resolve_convert-requires
resolve_node-resolve_convert-requires t c =
    let parts = rw c.in-Convert.is at c.expr-node.ensures.parts in
    (omega (arith, parts.0, type_above c.args.e.0 c.in-Convert.to parts.1, c.decreases), (omega (arith, parts.0, c.requires), TypeBelow-more c.args.e.0 (length c.args.here.now.parsed.now.exprs) (omega (arith, c.requires)) c.in-Convert.to parts.1))

pub resolve_part-returns-in-None-clause-grows : goal.resolve_part-returns-in-None-clause-grows
resolve_part-returns-in-None-clause-grows t c =
    grows_self c.args.nodes.now

pub resolve_parts-returns-clause-grows : goal.resolve_parts-returns-clause-grows
resolve_parts-returns-clause-grows t c =
    grows_more c.args.nodes.now c.resolve_part.new.nodes c.resolve_part-2.new.nodes c.in_ok-from.ensures.grows c.in_ok-to.ensures.grows

pub resolve_parts-returns-clause-below : goal.resolve_parts-returns-clause-below
resolve_parts-returns-clause-below t c =
    (IsBelow-more (length c.resolve_part.new.nodes.exprs) (length c.resolve_part-2.new.nodes.exprs) c.in_ok-to.ensures.grows.exprs c.in_ok-from.from c.in_ok-from.ensures.below, c.in_ok-to.ensures.below)

pub resolve_parts-returns-clause-from : goal.resolve_parts-returns-clause-from
resolve_parts-returns-clause-from t c =
    part_kept c.resolve_part.new.nodes c.resolve_part-2.new.nodes c.in_ok-to.ensures.grows c.in_ok-from.from c.in_ok-from.ensures.below ∙ c.in_ok-from.ensures.made

pub resolve_chain-returns-clause-grows : goal.resolve_chain-returns-clause-grows
resolve_chain-returns-clause-grows t c =
    grows_more c.args.nodes.now c.resolve_expr.new.nodes c.resolve_links.new.nodes c.in_ok-first.ensures.grows c.in_ok-links.ensures.grows

pub resolve_chain-returns-clause-below : goal.resolve_chain-returns-clause-below
resolve_chain-returns-clause-below t c =
    (omega (arith, c.in_ok-first.ensures.below, c.in_ok-links.ensures.grows.exprs), c.in_ok-links.ensures.below)

pub resolve_chain-returns-clause-first : goal.resolve_chain-returns-clause-first
resolve_chain-returns-clause-first t c =
    expr_kept c.resolve_expr.new.nodes c.resolve_links.new.nodes c.in_ok-links.ensures.grows c.in_ok-first.first c.in_ok-first.ensures.below ∙ c.in_ok-first.ensures.made

pub resolve_convert-returns-clause-grows : goal.resolve_convert-returns-clause-grows
resolve_convert-returns-clause-grows t c =
    grows_more c.args.nodes.now c.resolve_expr.new.nodes c.resolve_type.new.nodes c.in_ok-of.ensures.grows c.in_ok-to.ensures.grows

pub resolve_convert-returns-clause-below : goal.resolve_convert-returns-clause-below
resolve_convert-returns-clause-below t c =
    (omega (arith, c.in_ok-of.ensures.below, c.in_ok-to.ensures.grows.exprs), c.in_ok-to.ensures.below)

pub resolve_convert-returns-clause-of : goal.resolve_convert-returns-clause-of
resolve_convert-returns-clause-of t c =
    expr_kept c.resolve_expr.new.nodes c.resolve_type.new.nodes c.in_ok-to.ensures.grows c.in_ok-of.of c.in_ok-of.ensures.below ∙ c.in_ok-of.ensures.made

pub resolve_links-loop-link-init : goal.resolve_links-loop-link-init
resolve_links-loop-link-init t c =
    let k = standing_here c.args.here.now in
    let es = expr_trees c.args.here.now.parsed.now.exprs in
    links_start k es c.args.nodes.now c.args.links.now c.new-made.result c.new-made.ensures

pub resolve_links-resolve_expr-requires : goal.resolve_links-resolve_expr-requires
resolve_links-resolve_expr-requires t c =
    let place = link_at_place (length c.args.here.now.parsed.now.exprs) c.args.links.now c.loop-link.link-index _ c.loop-link-test.true c.requires in
    (omega (arith, place.0, c.decreases), place.1)

pub resolve_links-loop-link-preserved : goal.resolve_links-loop-link-preserved
resolve_links-loop-link-preserved t c =
    let k = standing_here c.args.here.now in
    let es = expr_trees c.args.here.now.parsed.now.exprs in
    rw c.in_ok-push.ensures.ok (link_made k es c.args.nodes.now c.loop-link.nodes c.resolve_expr.new.nodes c.loop-link.link-index c.args.links.now c.loop-link.made _ c.in_ok-operand.operand c.loop-link-test.true c.loop-link.invariant c.in_ok-operand.ensures.grows c.in_ok-operand.ensures.below c.in_ok-operand.ensures.made)

pub resolve_links-returns-clause-grows : goal.resolve_links-returns-clause-grows
resolve_links-returns-clause-grows t c =
    c.loop-link.invariant.grows

pub resolve_links-returns-clause-below : goal.resolve_links-returns-clause-below
resolve_links-returns-clause-below t c =
    c.loop-link.invariant.below

pub resolve_links-returns-clause-made : goal.resolve_links-returns-clause-made
resolve_links-returns-clause-made t c =
    let k = standing_here c.args.here.now in
    let es = expr_trees c.args.here.now.parsed.now.exprs in
    links_made k es c.args.nodes.now c.loop-link.nodes c.loop-link.nodes c.loop-link.link-index c.args.links.now c.loop-link.made (drop_all c.loop-link.link-index c.args.links.now (omega (arith, c.loop-link-test.false))) c.loop-link.invariant

pub resolve_given-loop-one-init : goal.resolve_given-loop-one-init
resolve_given-loop-one-init t c =
    let k = standing_here c.args.here.now in
    let es = expr_trees c.args.here.now.parsed.now.exprs in
    given_start k es c.args.nodes.now c.args.given.now c.new-made.result c.new-made.ensures

pub resolve_given-resolve_expr-requires : goal.resolve_given-resolve_expr-requires
resolve_given-resolve_expr-requires t c =
    let place = given_at_place (length c.args.here.now.parsed.now.exprs) c.args.given.now c.loop-one.one-index _ c.loop-one-test.true c.requires in
    (omega (arith, place.0, c.decreases), place.1)

pub resolve_given-loop-one-preserved : goal.resolve_given-loop-one-preserved
resolve_given-loop-one-preserved t c =
    let k = standing_here c.args.here.now in
    let es = expr_trees c.args.here.now.parsed.now.exprs in
    rw c.in_ok-push.ensures.ok (given_made k es c.args.nodes.now c.loop-one.nodes c.resolve_expr.new.nodes c.loop-one.one-index c.args.given.now c.loop-one.made _ c.in_ok-value.value c.loop-one-test.true c.loop-one.invariant c.in_ok-value.ensures.grows c.in_ok-value.ensures.below c.in_ok-value.ensures.made)

pub resolve_given-returns-clause-grows : goal.resolve_given-returns-clause-grows
resolve_given-returns-clause-grows t c =
    c.loop-one.invariant.grows

pub resolve_given-returns-clause-below : goal.resolve_given-returns-clause-below
resolve_given-returns-clause-below t c =
    c.loop-one.invariant.below

pub resolve_given-returns-clause-made : goal.resolve_given-returns-clause-made
resolve_given-returns-clause-made t c =
    let k = standing_here c.args.here.now in
    let es = expr_trees c.args.here.now.parsed.now.exprs in
    all_given_made k es c.args.nodes.now c.loop-one.nodes c.loop-one.nodes c.loop-one.one-index c.args.given.now c.loop-one.made (drop_all c.loop-one.one-index c.args.given.now (omega (arith, c.loop-one-test.false))) c.loop-one.invariant

pub resolve_prefixes-loop-prefix-init : goal.resolve_prefixes-loop-prefix-init
resolve_prefixes-loop-prefix-init t c =
    let k = standing_here c.args.here.now in
    let es = expr_trees c.args.here.now.parsed.now.exprs in
    prefixes_start k es c.args.nodes.now c.args.prefixes.now c.new-made.result c.new-made.ensures

pub resolve_prefixes-resolve_prefix-requires : goal.resolve_prefixes-resolve_prefix-requires
resolve_prefixes-resolve_prefix-requires t c =
    let place = prefix_at_place (length c.args.here.now.parsed.now.exprs) c.args.prefixes.now c.loop-prefix.prefix-index _ c.loop-prefix-test.true c.requires in
    (omega (arith, place.0, c.decreases), place.1)

pub resolve_prefixes-loop-prefix-preserved : goal.resolve_prefixes-loop-prefix-preserved
resolve_prefixes-loop-prefix-preserved t c =
    let k = standing_here c.args.here.now in
    let es = expr_trees c.args.here.now.parsed.now.exprs in
    rw c.in_ok-push.ensures.ok (prefix_made k es c.args.nodes.now c.loop-prefix.nodes c.resolve_prefix.new.nodes c.loop-prefix.prefix-index c.args.prefixes.now c.loop-prefix.made _ c.in_ok-next.next c.loop-prefix-test.true c.loop-prefix.invariant c.in_ok-next.ensures.grows c.in_ok-next.ensures.below c.in_ok-next.ensures.made)

pub resolve_prefixes-returns-clause-grows : goal.resolve_prefixes-returns-clause-grows
resolve_prefixes-returns-clause-grows t c =
    c.loop-prefix.invariant.grows

pub resolve_prefixes-returns-clause-below : goal.resolve_prefixes-returns-clause-below
resolve_prefixes-returns-clause-below t c =
    c.loop-prefix.invariant.below

pub resolve_prefixes-returns-clause-made : goal.resolve_prefixes-returns-clause-made
resolve_prefixes-returns-clause-made t c =
    let k = standing_here c.args.here.now in
    let es = expr_trees c.args.here.now.parsed.now.exprs in
    prefixes_made k es c.args.nodes.now c.loop-prefix.nodes c.loop-prefix.nodes c.loop-prefix.prefix-index c.args.prefixes.now c.loop-prefix.made (drop_all c.loop-prefix.prefix-index c.args.prefixes.now (omega (arith, c.loop-prefix-test.false))) c.loop-prefix.invariant

pub resolve_call-returns-clause-below : goal.resolve_call-returns-clause-below
resolve_call-returns-clause-below t c =
    c.finish_call.ensures.below (length c.resolve_given.new.nodes.exprs) c.in_ok-given.ensures.below

pub resolve_call-returns-clause-made : goal.resolve_call-returns-clause-made
resolve_call-returns-clause-made t c =
    c.finish_call.ensures.made (exprs_of c.resolve_given.new.nodes) (expr_trees c.args.here.now.parsed.now.exprs) (rw c.as_slice.ensures at c.in_ok-given.ensures.made)

pub resolve_prefix-returns-in-Slice-clause-grows : goal.resolve_prefix-returns-in-Slice-clause-grows
resolve_prefix-returns-in-Slice-clause-grows t c =
    grows_self c.args.nodes.now

pub resolve_prefix-returns-in-Slice-clause-made : goal.resolve_prefix-returns-in-Slice-clause-made
resolve_prefix-returns-in-Slice-clause-made t c =
    rw c.in-Slice.is (λ of. refl)

pub resolve_prefix-returns-in_ok-length-in-Array-clause-made : goal.resolve_prefix-returns-in_ok-length-in-Array-clause-made
resolve_prefix-returns-in_ok-length-in-Array-clause-made t c =
    let k = standing_here c.args.here.now in
    rw c.in-Array.is (λ of. ap (λ e. tree.array_of e c.in-Array.at (resolved_type k of)) c.in_ok-length-in-Array.ensures.made)

pub resolve_bounds-returns-in-None-clause-grows : goal.resolve_bounds-returns-in-None-clause-grows
resolve_bounds-returns-in-None-clause-grows t c =
    grows_self c.args.nodes.now

pub resolve_bounds-returns-in_ok-high-in-Some-clause-grows : goal.resolve_bounds-returns-in_ok-high-in-Some-clause-grows
resolve_bounds-returns-in_ok-high-in-Some-clause-grows t c =
    grows_more c.args.nodes.now c.resolve_part.new.nodes c.resolve_expr.new.nodes c.in_ok-low-in-Some.ensures.grows c.in_ok-high-in-Some.ensures.grows

pub resolve_bounds-returns-in_ok-high-in-Some-clause-below : goal.resolve_bounds-returns-in_ok-high-in-Some-clause-below
resolve_bounds-returns-in_ok-high-in-Some-clause-below t c =
    (IsBelow-more (length c.resolve_part.new.nodes.exprs) (length c.resolve_expr.new.nodes.exprs) c.in_ok-high-in-Some.ensures.grows.exprs c.in_ok-low-in-Some.low c.in_ok-low-in-Some.ensures.below, c.in_ok-high-in-Some.ensures.below)

pub resolve_bounds-returns-in_ok-high-in-Some-clause-made : goal.resolve_bounds-returns-in_ok-high-in-Some-clause-made
resolve_bounds-returns-in_ok-high-in-Some-clause-made t c =
    let low = part_kept c.resolve_part.new.nodes c.resolve_expr.new.nodes c.in_ok-high-in-Some.ensures.grows c.in_ok-low-in-Some.low c.in_ok-low-in-Some.ensures.below ∙ c.in_ok-low-in-Some.ensures.made in
    let high = c.in_ok-high-in-Some.ensures.made in
    rw c.in-Some.is (cc (low, high))

pub resolve_type-returns-clause-grows : goal.resolve_type-returns-clause-grows
resolve_type-returns-clause-grows t c =
    grows_more c.args.nodes.now c.resolve_prefixes.new.nodes c.resolve_bounds.new.nodes c.in_ok-prefixes.ensures.grows c.in_ok-bounds.ensures.grows

pub resolve_type-returns-clause-below : goal.resolve_type-returns-clause-below
resolve_type-returns-clause-below t c =
    (prefixes_below (length c.resolve_prefixes.new.nodes.exprs) (length c.resolve_bounds.new.nodes.exprs) c.in_ok-bounds.ensures.grows.exprs c.in_ok-prefixes.prefixes c.in_ok-prefixes.ensures.below, c.in_ok-bounds.ensures.below)

pub resolve_type-returns-clause-made : goal.resolve_type-returns-clause-made
resolve_type-returns-clause-made t c =
    let k = standing_here c.args.here.now in
    let es = expr_trees c.args.here.now.parsed.now.exprs in
    let front = rw c.as_slice.ensures at c.in_ok-prefixes.ensures.made in
    type_made k es c.resolve_prefixes.new.nodes c.resolve_bounds.new.nodes c.in_ok-bounds.ensures.grows c.args.of.now.prefixes c.in_ok-prefixes.prefixes c.args.of.now.core c.core.result c.args.of.now.bounds c.in_ok-bounds.bounds c.in_ok-prefixes.ensures.below front c.core.ensures c.in_ok-bounds.ensures.made
