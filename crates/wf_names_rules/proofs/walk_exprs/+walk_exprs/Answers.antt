use Rattle.std.proofs.Common.{◌∙◌, Bool, true, length, refl, sym, ap, arith}
use Rattle.wf_ast.specs.ParsedTrees.{expr_trees, expr_at, part_at, links_at, given_at, core_at, type_at}
use Rattle.wf_ast.specs.ParsedParts.{LinksBelow}
use Rattle.wf_ast.proofs.TreeLemmas.{GivenBelow-more, TypeBelow-more, LinksBelow-more}
use Rattle.wf_ast.proofs.AboveLemmas.{given_above, links_above, type_above, given_at_place, link_at_place, prefix_at_place}
use Rattle.wf_names_rules.specs.declared.seen.Seen.{Seen}
use Rattle.wf_names_rules.specs.Here.{known_here}
use Rattle.wf_names_rules.specs.Uses.{uses_of, part_uses, link_uses, type_uses}
use Rattle.wf_names_rules.specs.Judged.{walked}
use Rattle.wf_names_rules.specs.Called.{with_calls}
use Rattle.wf_names_rules.proofs.CalledLemmas.{ok_row, row_append, row_call, row_given_step, row_link_step, row_prefix_step, type_calls}
use Rattle.wf_names_rules.proofs.WalkLemmas.{walked-append, ok_same, call_walked, given_step, link_step, prefix_step, type_walked}
use Rattle.wf_names_rules.proofs.walk_exprs.+walk_exprs.Goals as goal

pub walk_call-returns-clause-seen : goal.walk_call-returns-clause-seen
walk_call-returns-clause-seen t c =
    let k = known_here c.args.here.now in
    let gs = given_at (expr_trees c.args.here.now.parsed.now.exprs) c.args.call.now.args in
    let on = c.walk_receiver.new.seen in
    let all = c.finish_call.new.seen in
    let made : Bool → Seen = λ known. record { found = all.found; known = known } in
    call_walked k c.args.seen.now on (record { found = on.found; known = true }) c.walk_given.new.seen all (made c.both-seen.result) c.args.call.now.on c.args.call.now.method c.args.call.now.mark gs
    c.walk_receiver.ensures refl (rw c.as_slice.ensures at c.in_ok-walk_given.ensures.seen) c.in_ok-finish_call.ensures.seen (ap made c.both-seen.ensures)

pub walk_core-returns-in-Struct-clause-seen : goal.walk_core-returns-in-Struct-clause-seen
walk_core-returns-in-Struct-clause-seen t c = rw c.in-Struct.is (c.walk_struct.ensures c.args.here.now.parsed.now.texts c.args.here.now.scope.now)

pub walk_expr-returns-in-OwnStatus-clause-seen : goal.walk_expr-returns-in-OwnStatus-clause-seen
walk_expr-returns-in-OwnStatus-clause-seen t c = rw (c.expr-node.ensures.made, c.in-OwnStatus.is) (c.walk_own_status.ensures c.args.here.now.parsed.now.texts c.args.here.now.scope.now)

pub walk_expr-returns-in-BaseStatus-clause-seen : goal.walk_expr-returns-in-BaseStatus-clause-seen
walk_expr-returns-in-BaseStatus-clause-seen t c = rw (c.expr-node.ensures.made, c.in-BaseStatus.is) (c.walk_base_status.ensures c.args.here.now.tables.now c.args.here.now.scope.now)

pub walk_expr-walk_call-requires : goal.walk_expr-walk_call-requires
walk_expr-walk_call-requires t c =
    let parts = rw c.in-Call.is at c.expr-node.ensures.parts in
    (omega (arith, given_above c.args.e.0 c.in-Call.call.args parts, c.decreases), GivenBelow-more c.args.e.0 (length c.args.here.now.parsed.now.exprs) (omega (arith, c.requires)) c.in-Call.call.args parts)

pub walk_expr-walk_links-requires : goal.walk_expr-walk_links-requires
walk_expr-walk_links-requires t c =
    let parts = rw c.in-Chain.is at c.expr-node.ensures.parts in
    let below : LinksBelow c.args.e.0 c.as_slice.result.now = rw c.as_slice.ensures parts.1 in
    (omega (arith, links_above c.args.e.0 c.as_slice.result.now below, c.decreases), LinksBelow-more c.args.e.0 (length c.args.here.now.parsed.now.exprs) (omega (arith, c.requires)) c.as_slice.result.now below)

pub walk_expr-walk_type-requires : goal.walk_expr-walk_type-requires
walk_expr-walk_type-requires t c =
    let parts = rw c.in-Convert.is at c.expr-node.ensures.parts in
    (omega (arith, type_above c.args.e.0 c.in-Convert.to parts.1, c.decreases), TypeBelow-more c.args.e.0 (length c.args.here.now.parsed.now.exprs) (omega (arith, c.requires)) c.in-Convert.to parts.1)

pub walk_expr-returns-in_ok-walk_expr-in-Chain-clause-seen : goal.walk_expr-returns-in_ok-walk_expr-in-Chain-clause-seen
walk_expr-returns-in_ok-walk_expr-in-Chain-clause-seen t c =
    let k = known_here c.args.here.now in
    let ts = expr_trees c.args.here.now.parsed.now.exprs in
    let whole = walked-append k c.args.seen.now (uses_of (expr_at ts c.in-Chain.first)) (link_uses (links_at ts c.in-Chain.links)) in
    let way = ap (λ s. walked k s (link_uses (links_at ts c.in-Chain.links))) c.in_ok-walk_expr-in-Chain.ensures.seen ∙ sym whole in
    rw (c.expr-node.ensures.made, c.in-Chain.is) (ok_same c.walk_links.result c.walk_links.new.seen _ _ way (rw c.as_slice.ensures at c.walk_links.ensures.seen))

pub walk_expr-returns-in_ok-walk_expr-in-Convert-clause-seen : goal.walk_expr-returns-in_ok-walk_expr-in-Convert-clause-seen
walk_expr-returns-in_ok-walk_expr-in-Convert-clause-seen t c =
    let k = known_here c.args.here.now in
    let ts = expr_trees c.args.here.now.parsed.now.exprs in
    let whole = walked-append k c.args.seen.now (uses_of (expr_at ts c.in-Convert.of)) (type_uses (type_at ts c.in-Convert.to)) in
    let way = ap (λ s. walked k s (type_uses (type_at ts c.in-Convert.to))) c.in_ok-walk_expr-in-Convert.ensures.seen ∙ sym whole in
    rw (c.expr-node.ensures.made, c.in-Convert.is) (ok_same c.walk_type.result c.walk_type.new.seen _ _ way c.walk_type.ensures.seen)

pub walk_given-walk_expr-requires : goal.walk_given-walk_expr-requires
walk_given-walk_expr-requires t c =
    let place = given_at_place (length c.args.here.now.parsed.now.exprs) c.args.args.now c.loop-given.given-index _ c.loop-given-test.true c.requires in
    (omega (arith, place.0, c.decreases), place.1)

pub walk_given-loop-given-preserved : goal.walk_given-loop-given-preserved
walk_given-loop-given-preserved t c =
    let k = known_here c.args.here.now in
    let ts = expr_trees c.args.here.now.parsed.now.exprs in (
      given_step k ts c.loop-given.seen _ c.args.args.now c.loop-given.given-index _ c.loop-given-test.true c.in_ok-walk_expr.ensures.seen ∙ c.loop-given.invariant.0,
      row_given_step k c.loop-given.row c.walk_expr.new.row ts c.args.args.now c.loop-given.given-index _ c.loop-given-test.true c.in_ok-walk_expr.ensures.row ∙ c.loop-given.invariant.1,
    )

pub walk_links-walk_expr-requires : goal.walk_links-walk_expr-requires
walk_links-walk_expr-requires t c =
    let place = link_at_place (length c.args.here.now.parsed.now.exprs) c.args.links.now c.loop-link.link-index _ c.loop-link-test.true c.requires in
    (omega (arith, place.0, c.decreases), place.1)

pub walk_links-loop-link-preserved : goal.walk_links-loop-link-preserved
walk_links-loop-link-preserved t c =
    let k = known_here c.args.here.now in
    let ts = expr_trees c.args.here.now.parsed.now.exprs in (
      link_step k ts c.loop-link.seen _ c.args.links.now c.loop-link.link-index _ c.loop-link-test.true c.in_ok-walk_expr.ensures.seen ∙ c.loop-link.invariant.0,
      row_link_step k c.loop-link.row c.walk_expr.new.row ts c.args.links.now c.loop-link.link-index _ c.loop-link-test.true c.in_ok-walk_expr.ensures.row ∙ c.loop-link.invariant.1,
    )

pub walk_parts-returns-clause-seen : goal.walk_parts-returns-clause-seen
walk_parts-returns-clause-seen t c =
    let k = known_here c.args.here.now in
    let ts = expr_trees c.args.here.now.parsed.now.exprs in
    let whole = walked-append k c.args.seen.now (part_uses (part_at ts c.args.from)) (part_uses (part_at ts c.args.to)) in
    let way = ap (λ s. walked k s (part_uses (part_at ts c.args.to))) c.in_ok-walk_part.ensures.seen ∙ sym whole in
    ok_same c.walk_part-2.result c.walk_part-2.new.seen _ _ way c.walk_part-2.ensures.seen

pub walk_prefixes-walk_prefix-requires : goal.walk_prefixes-walk_prefix-requires
walk_prefixes-walk_prefix-requires t c =
    let place = prefix_at_place (length c.args.here.now.parsed.now.exprs) c.args.prefixes.now c.loop-prefix.prefix-index _ c.loop-prefix-test.true c.requires in
    (omega (arith, place.0, c.decreases), place.1)

pub walk_prefixes-loop-prefix-preserved : goal.walk_prefixes-loop-prefix-preserved
walk_prefixes-loop-prefix-preserved t c =
    let k = known_here c.args.here.now in
    let ts = expr_trees c.args.here.now.parsed.now.exprs in (
      prefix_step k ts c.loop-prefix.seen _ c.args.prefixes.now c.loop-prefix.prefix-index _ c.loop-prefix-test.true c.in_ok-walk_prefix.ensures.seen ∙ c.loop-prefix.invariant.0,
      row_prefix_step k c.loop-prefix.row c.walk_prefix.new.row ts c.args.prefixes.now c.loop-prefix.prefix-index _ c.loop-prefix-test.true c.in_ok-walk_prefix.ensures.row ∙ c.loop-prefix.invariant.1,
    )

pub walk_type-returns-clause-seen : goal.walk_type-returns-clause-seen
walk_type-returns-clause-seen t c =
    let k = known_here c.args.here.now in
    let ts = expr_trees c.args.here.now.parsed.now.exprs in
    let core = core_at ts c.args.of.now.core c.args.of.now.bounds in
    let front = rw c.as_slice.ensures at c.in_ok-walk_prefixes.ensures.seen in
    let way = ap (λ s. walked k s (type_uses core)) front ∙ type_walked k ts c.args.seen.now c.args.of.now.prefixes core in
    ok_same c.walk_core.result c.walk_core.new.seen _ _ way c.walk_core.ensures.seen

pub walk_call-returns-clause-row : goal.walk_call-returns-clause-row
walk_call-returns-clause-row t c =
    let k = known_here c.args.here.now in
    let gs = given_at (expr_trees c.args.here.now.parsed.now.exprs) c.args.call.now.args in
    row_call k c.args.row.now c.walk_given.new.row c.args.call.now.on c.args.call.now.method c.args.call.now.mark gs c.finish_call.new.row
    (rw c.as_slice.ensures at c.in_ok-walk_given.ensures.row) c.in_ok-finish_call.ensures.row

pub walk_expr-returns-in_ok-walk_expr-in-Chain-clause-row : goal.walk_expr-returns-in_ok-walk_expr-in-Chain-clause-row
walk_expr-returns-in_ok-walk_expr-in-Chain-clause-row t c =
    let k = known_here c.args.here.now in
    let ts = expr_trees c.args.here.now.parsed.now.exprs in
    rw (c.expr-node.ensures.made, c.in-Chain.is)
    (row_append k c.args.row.now c.walk_expr-in-Chain.new.row (uses_of (expr_at ts c.in-Chain.first)) (link_uses (links_at ts c.in-Chain.links)) c.walk_links.result c.walk_links.new.row c.in_ok-walk_expr-in-Chain.ensures.row (rw c.as_slice.ensures at c.walk_links.ensures.row))

pub walk_expr-returns-in_ok-walk_expr-in-Convert-clause-row : goal.walk_expr-returns-in_ok-walk_expr-in-Convert-clause-row
walk_expr-returns-in_ok-walk_expr-in-Convert-clause-row t c =
    let k = known_here c.args.here.now in
    let ts = expr_trees c.args.here.now.parsed.now.exprs in
    rw (c.expr-node.ensures.made, c.in-Convert.is)
    (row_append k c.args.row.now c.walk_expr-in-Convert.new.row (uses_of (expr_at ts c.in-Convert.of)) (type_uses (type_at ts c.in-Convert.to)) c.walk_type.result c.walk_type.new.row c.in_ok-walk_expr-in-Convert.ensures.row c.walk_type.ensures.row)

pub walk_parts-returns-clause-row : goal.walk_parts-returns-clause-row
walk_parts-returns-clause-row t c =
    let k = known_here c.args.here.now in
    let ts = expr_trees c.args.here.now.parsed.now.exprs in
    row_append k c.args.row.now c.walk_part.new.row (part_uses (part_at ts c.args.from)) (part_uses (part_at ts c.args.to)) c.walk_part-2.result c.walk_part-2.new.row c.in_ok-walk_part.ensures.row c.walk_part-2.ensures.row

pub walk_type-returns-clause-row : goal.walk_type-returns-clause-row
walk_type-returns-clause-row t c =
    let k = known_here c.args.here.now in
    let ts = expr_trees c.args.here.now.parsed.now.exprs in
    let core = core_at ts c.args.of.now.core c.args.of.now.bounds in
    let front = rw c.as_slice.ensures at c.in_ok-walk_prefixes.ensures.row in
    let way = ap (λ s. with_calls k s (type_uses core)) front ∙ type_calls k ts c.args.row.now c.args.of.now.prefixes core in
    ok_row c.walk_core.result c.walk_core.new.row _ _ way c.walk_core.ensures.row
