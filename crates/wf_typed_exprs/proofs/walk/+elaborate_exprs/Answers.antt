use Rattle.std.proofs.Common.{◌≡◌, ◌∙◌, ◌∷◌, ◌++◌, [], length, sym, ap, arith}
use Rattle.wf_ast.specs.ParsedParts.{LinksBelow}
use Rattle.wf_ast.proofs.AboveLemmas.{links_above, link_at_place}
use Rattle.wf_ast.proofs.TreeLemmas.{LinksBelow-more}
use Rattle.wf_named.specs.NamedTree.{index, slice, chain}
use Rattle.wf_named.specs.NamedTrees.{expr_trees, expr_at, part_at, links_at, args_at, type_at}
use Rattle.wf_types_rules.specs.declared.meanings.PlacedMeaning.{PlacedMeaning}
use Rattle.wf_types_rules.specs.Meanings.{variable}
use Rattle.wf_types_rules.specs.ExprTypes.{meaning}
use Rattle.wf_typed_tree.specs.ElaboratedExprs.{path_tree}
use Rattle.wf_typed_tree.specs.Entries.{path_entry, end_entries, expr_entries}
use Rattle.wf_typed_exprs.proofs.FormLaws.{value-makes, index-right, index-makes, slice-right, slice-makes, convert-right, convert-width, negation-right}
use Rattle.wf_typed_exprs.proofs.ChainLaws.{chain-right, chain-makes}
use Rattle.wf_typed_exprs.proofs.EntryLemmas.{adds_then, made_adds, entries_next}
use Rattle.wf_typed_exprs.proofs.GrowthLemmas.{grows_more, stands_kept}
use Rattle.wf_typed_exprs.proofs.WalkLemmas.{right_kept, end_right_kept, link_right, left_next, pair_makes, pair_adds}
use Rattle.wf_typed_exprs.proofs.walk.+elaborate_exprs.Goals as goal

pub elaborate_chain-elaborate_operands-requires : goal.elaborate_chain-elaborate_operands-requires
elaborate_chain-elaborate_operands-requires t c =
    let es = expr_trees c.args.here.now.nodes.now.exprs in
    let parts = chain-right c.args.here.now.around.now c.args.nodes.now (length c.args.nodes.now.statuses) c.args.op (expr_at es c.args.first) (links_at es c.args.links.now) c.args.at c.requires.right in
    (omega (arith, c.decreases), (c.requires.first, (c.requires.links, (parts.0, parts.1))))

pub elaborate_chain-elaborate_pair-requires : goal.elaborate_chain-elaborate_pair-requires
elaborate_chain-elaborate_pair-requires t c =
    let one = c.in-Some.ensures in
    let below = rw one at c.requires.links in
    (omega (arith, rw one at c.decreases), (c.requires.first, (below.0, rw one at c.requires.right)))

pub elaborate_chain-returns-in-Some-clause-entries : goal.elaborate_chain-returns-in-Some-clause-entries
elaborate_chain-returns-in-Some-clause-entries t c = rw c.in-Some.ensures c.elaborate_pair.ensures.entries

pub elaborate_chain-returns-in-Some-clause-made : goal.elaborate_chain-returns-in-Some-clause-made
elaborate_chain-returns-in-Some-clause-made t c = rw c.in-Some.ensures c.elaborate_pair.ensures.made

pub elaborate_chain-returns-in_ok-operands-in-None-clause-made : goal.elaborate_chain-returns-in_ok-operands-in-None-clause-made
elaborate_chain-returns-in_ok-operands-in-None-clause-made t c =
    let s = c.args.here.now.around.now in
    let es = expr_trees c.args.here.now.nodes.now.exprs in
    let nodes = c.elaborate_operands.new.nodes in
    let made = c.in_ok-operands-in-None in
    let whole = chain c.args.op (expr_at es c.args.first) (links_at es c.args.links.now) c.args.at in
    rw c.chain.ensures
    (chain-makes s nodes c.args.op (expr_at es c.args.first) (links_at es c.args.links.now) c.args.at made.operands (right_kept s c.args.nodes.now nodes made.ensures.grows whole c.requires.right) made.ensures.all)

pub elaborate_pair-elaborate_expr-requires : goal.elaborate_pair-elaborate_expr-requires
elaborate_pair-elaborate_expr-requires t c =
    let es = expr_trees c.args.here.now.nodes.now.exprs in
    let parts = chain-right c.args.here.now.around.now c.args.nodes.now (length c.args.nodes.now.statuses) c.args.op (expr_at es c.args.first) (links_at es (c.args.link ∷ [])) c.args.at c.requires.right in
    (omega (arith, c.decreases), (c.requires.first, parts.0))

pub elaborate_pair-elaborate_expr-requires-2 : goal.elaborate_pair-elaborate_expr-requires-2
elaborate_pair-elaborate_expr-requires-2 t c =
    let s = c.args.here.now.around.now in
    let es = expr_trees c.args.here.now.nodes.now.exprs in
    let parts = chain-right s c.args.nodes.now (length c.args.nodes.now.statuses) c.args.op (expr_at es c.args.first) (links_at es (c.args.link ∷ [])) c.args.at c.requires.right in
    (omega (arith, c.decreases), (c.requires.link, right_kept s c.args.nodes.now c.elaborate_expr.new.nodes c.in_ok-a.ensures.grows (expr_at es c.args.link.operand) parts.1.0))

pub elaborate_pair-returns-clause-entries : goal.elaborate_pair-returns-clause-entries
elaborate_pair-returns-clause-entries t c =
    let es = expr_trees c.args.here.now.nodes.now.exprs in
    pair_adds c.args.here.now.around.now c.args.nodes.now c.elaborate_expr.new.nodes c.elaborate_expr-2.new.nodes c.args.op (expr_at es c.args.first) (expr_at es c.args.link.operand) c.args.link.sign c.args.at
    c.in_ok-a.a c.in_ok-b.b c.in_ok-a.ensures.entries c.in_ok-b.ensures.entries

pub elaborate_pair-returns-clause-made : goal.elaborate_pair-returns-clause-made
elaborate_pair-returns-clause-made t c =
    let s = c.args.here.now.around.now in
    let es = expr_trees c.args.here.now.nodes.now.exprs in
    let mid = c.elaborate_expr.new.nodes in
    let after = c.elaborate_expr-2.new.nodes in
    let all = grows_more c.args.nodes.now mid after c.in_ok-a.ensures.grows c.in_ok-b.ensures.grows in
    let right = right_kept s c.args.nodes.now after all (chain c.args.op (expr_at es c.args.first) (links_at es (c.args.link ∷ [])) c.args.at) c.requires.right in
    rw c.in_ok-made.ensures
    (pair_makes s c.args.nodes.now mid after c.args.op (expr_at es c.args.first) (expr_at es c.args.link.operand) c.args.link.sign c.args.at c.in_ok-a.a c.in_ok-b.b
    c.in_ok-b.ensures.grows right c.in_ok-a.ensures.stands c.in_ok-b.ensures.stands c.in_ok-a.ensures.value c.in_ok-b.ensures.value)

pub elaborate_convert-elaborate_expr-requires : goal.elaborate_convert-elaborate_expr-requires
elaborate_convert-elaborate_expr-requires t c =
    let es = expr_trees c.args.here.now.nodes.now.exprs in
    (omega (arith, c.decreases), (c.requires.there, convert-right c.args.here.now.around.now c.args.nodes.now (length c.args.nodes.now.statuses) (expr_at es c.args.of) (type_at es c.args.to.now) c.args.at c.requires.right))

pub elaborate_convert-unreachable-requires : goal.elaborate_convert-unreachable-requires
elaborate_convert-unreachable-requires t c =
    let es = expr_trees c.args.here.now.nodes.now.exprs in
    convert-width c.args.here.now.around.now c.args.nodes.now (length c.args.nodes.now.statuses) (expr_at es c.args.of) (type_at es c.args.to.now) c.args.at c.requires.right (sym c.in-None.is ∙ c.plain_width.ensures es)

pub elaborate_index-elaborate_path-requires : goal.elaborate_index-elaborate_path-requires
elaborate_index-elaborate_path-requires t c =
    let es = expr_trees c.args.here.now.nodes.now.exprs in
    (index-right c.args.here.now.around.now c.args.nodes.now (length c.args.nodes.now.statuses) c.args.base (expr_at es c.args.index) c.args.at c.requires.right).0

pub elaborate_index-elaborate_expr-requires : goal.elaborate_index-elaborate_expr-requires
elaborate_index-elaborate_expr-requires t c =
    let s = c.args.here.now.around.now in
    let i = expr_at (expr_trees c.args.here.now.nodes.now.exprs) c.args.index in
    let right = (index-right s c.args.nodes.now (length c.args.nodes.now.statuses) c.args.base i c.args.at c.requires.right).1 in
    (omega (arith, c.decreases), (c.requires.there, right_kept s c.args.nodes.now c.elaborate_path.new.nodes c.in_ok-cells.ensures.grows i right))

pub elaborate_index-returns-clause-made : goal.elaborate_index-returns-clause-made
elaborate_index-returns-clause-made t c =
    let s = c.args.here.now.around.now in
    let p = c.args.base in
    let i = expr_at (expr_trees c.args.here.now.nodes.now.exprs) c.args.index in
    let mid = c.elaborate_path.new.nodes in
    let after = c.elaborate_expr.new.nodes in
    let all = grows_more c.args.nodes.now mid after c.in_ok-cells.ensures.grows c.in_ok-index.ensures.grows in
    let base = stands_kept (path_tree s p) (variable s p.of) mid after c.in_ok-cells.cells.node c.in_ok-index.ensures.grows c.in_ok-cells.ensures.stands in
    let cells : c.in_ok-cells.cells.value.of ≡ variable s p.of = ap (λ (v : PlacedMeaning). v.of) c.in_ok-cells.ensures.value in
    let place : c.in_ok-index.index.value.of ≡ meaning s i = ap (λ (v : PlacedMeaning). v.of) c.in_ok-index.ensures.value in
    rw (c.unsigned.ensures, c.index_meaning.ensures, place, cells)
    (index-makes s after p i c.args.at c.in_ok-cells.cells.node c.in_ok-index.index.node (right_kept s c.args.nodes.now after all (index p i c.args.at) c.requires.right) base c.in_ok-index.ensures.stands)

pub elaborate_links-elaborate_link-requires : goal.elaborate_links-elaborate_link-requires
elaborate_links-elaborate_link-requires t c =
    let s = c.args.here.now.around.now in
    let es = expr_trees c.args.here.now.nodes.now.exprs in
    let l = c.loop-link in
    let place = link_at_place (length c.args.here.now.nodes.now.exprs) c.args.links.now l.link-index _ c.loop-link-test.true c.requires.there in
    let right = link_right s (length c.args.nodes.now.statuses) es c.args.links.now l.link-index _ c.loop-link-test.true c.requires.right in
    (omega (arith, place.0, c.decreases), (place.1, right_kept s c.args.nodes.now l.nodes l.invariant.0 _ right))

pub elaborate_links-loop-link-preserved : goal.elaborate_links-loop-link-preserved
elaborate_links-loop-link-preserved t c =
    let s = c.args.here.now.around.now in
    let es = expr_trees c.args.here.now.nodes.now.exprs in
    let l = c.loop-link in
    let after = c.elaborate_link.new.nodes in (
      grows_more c.args.nodes.now l.nodes after l.invariant.0 c.in_ok-all.ensures.grows,
      (
        left_next s es c.args.links.now l.link-index _ l.nodes after c.args.before l.all _ c.loop-link-test.true l.invariant.1.0 c.in_ok-all.ensures.grows c.in_ok-all.ensures.adds,
        entries_next s es c.args.links.now l.link-index _ c.args.nodes.now l.nodes after c.loop-link-test.true l.invariant.1.1 c.in_ok-all.ensures.entries,
      ),
    )

pub elaborate_negation-elaborate_expr-requires : goal.elaborate_negation-elaborate_expr-requires
elaborate_negation-elaborate_expr-requires t c =
    let es = expr_trees c.args.here.now.nodes.now.exprs in
    (omega (arith, c.decreases), (c.requires.there, negation-right c.args.here.now.around.now c.args.nodes.now (length c.args.nodes.now.statuses) (expr_at es c.args.of) c.args.at c.requires.right))

pub elaborate_node-elaborate_answer-requires : goal.elaborate_node-elaborate_answer-requires
elaborate_node-elaborate_answer-requires t c =
    let es = expr_trees c.args.here.now.nodes.now.exprs in
    let right = rw (c.expr-node.ensures.made, c.in-Call.is) at c.requires.right in
    record { args = args_at es c.in-Call.call.args; right = right }

pub elaborate_node-elaborate_chain-requires : goal.elaborate_node-elaborate_chain-requires
elaborate_node-elaborate_chain-requires t c =
    let parts = rw c.in-Chain.is at c.expr-node.ensures.parts in
    let below : LinksBelow c.args.e.0 c.as_slice.result.now = rw c.as_slice.ensures parts.1 in
    let right = rw (c.expr-node.ensures.made, c.in-Chain.is, ← c.as_slice.ensures) at c.requires.right in (
      omega (arith, parts.0, links_above c.args.e.0 c.as_slice.result.now below, c.decreases),
      (omega (arith, parts.0, c.requires.there), (LinksBelow-more c.args.e.0 (length c.args.here.now.nodes.now.exprs) (omega (arith, c.requires.there)) c.as_slice.result.now below, right)),
    )

pub elaborate_node-returns-in-Path-clause-made : goal.elaborate_node-returns-in-Path-clause-made
elaborate_node-returns-in-Path-clause-made t c =
    let right = rw (c.expr-node.ensures.made, c.in-Path.is) at c.requires.right in
    rw (c.expr-node.ensures.made, c.in-Path.is, c.as_value.ensures, c.path_node-made.ensures) (value-makes c.args.here.now.around.now c.args.nodes.now c.in-Path.path right)

pub elaborate_slice-elaborate_path-requires : goal.elaborate_slice-elaborate_path-requires
elaborate_slice-elaborate_path-requires t c =
    let es = expr_trees c.args.here.now.nodes.now.exprs in
    (slice-right c.args.here.now.around.now c.args.nodes.now (length c.args.nodes.now.statuses) c.args.base (part_at es c.args.from) (part_at es c.args.to) c.args.at c.requires.right).0

pub elaborate_slice-elaborate_ends-requires : goal.elaborate_slice-elaborate_ends-requires
elaborate_slice-elaborate_ends-requires t c =
    let s = c.args.here.now.around.now in
    let es = expr_trees c.args.here.now.nodes.now.exprs in
    let right = (slice-right s c.args.nodes.now (length c.args.nodes.now.statuses) c.args.base (part_at es c.args.from) (part_at es c.args.to) c.args.at c.requires.right).1 in
    let kept = end_right_kept s c.args.nodes.now c.elaborate_path.new.nodes c.in_ok-cells.ensures.grows in
    (omega (arith, c.decreases), (c.requires.from, (c.requires.to, (kept (part_at es c.args.from) right.0, kept (part_at es c.args.to) right.1))))

pub elaborate_slice-returns-clause-made : goal.elaborate_slice-returns-clause-made
elaborate_slice-returns-clause-made t c =
    let s = c.args.here.now.around.now in
    let p = c.args.base in
    let es = expr_trees c.args.here.now.nodes.now.exprs in
    let mid = c.elaborate_path.new.nodes in
    let after = c.elaborate_ends.new.nodes in
    let ends = c.in_ok-from in
    let all = grows_more c.args.nodes.now mid after c.in_ok-cells.ensures.grows ends.ensures.grows in
    let base = stands_kept (path_tree s p) (variable s p.of) mid after c.in_ok-cells.cells.node ends.ensures.grows c.in_ok-cells.ensures.stands in
    let cells : c.in_ok-cells.cells.value.of ≡ variable s p.of = ap (λ (v : PlacedMeaning). v.of) c.in_ok-cells.ensures.value in
    rw (c.unsigned.ensures, c.slice_meaning.ensures, c.value_of.ensures, c.value_of-2.ensures, c.node_of.ensures, c.node_of-2.ensures, cells)
    (slice-makes s after p (part_at es c.args.from) (part_at es c.args.to) c.args.at c.in_ok-cells.cells.node ends.from ends.to
    (right_kept s c.args.nodes.now after all (slice p (part_at es c.args.from) (part_at es c.args.to) c.args.at) c.requires.right) base ends.ensures.from ends.ensures.to)

pub elaborate_expr-returns-clause-entries : goal.elaborate_expr-returns-clause-entries
elaborate_expr-returns-clause-entries t c =
    made_adds c.args.here.now.around.now (expr_at (expr_trees c.args.here.now.nodes.now.exprs) c.args.e) c.args.nodes.now c.elaborate_node.new.nodes c.put.new.nodes c.in_ok-made.made c.put.result c.in_ok-made.ensures.entries c.in_ok-made.ensures.made c.put.ensures.entries

pub elaborate_index-returns-clause-entries : goal.elaborate_index-returns-clause-entries
elaborate_index-returns-clause-entries t c =
    let s = c.args.here.now.around.now in
    let i = expr_at (expr_trees c.args.here.now.nodes.now.exprs) c.args.index in
    adds_then c.args.nodes.now c.elaborate_path.new.nodes c.elaborate_expr.new.nodes (path_entry s c.args.base ∷ []) (expr_entries s i) c.in_ok-cells.ensures.entries c.in_ok-index.ensures.entries

pub elaborate_slice-returns-clause-entries : goal.elaborate_slice-returns-clause-entries
elaborate_slice-returns-clause-entries t c =
    let s = c.args.here.now.around.now in
    let es = expr_trees c.args.here.now.nodes.now.exprs in
    adds_then c.args.nodes.now c.elaborate_path.new.nodes c.elaborate_ends.new.nodes (path_entry s c.args.base ∷ []) (end_entries s (part_at es c.args.from) ++ end_entries s (part_at es c.args.to))
    c.in_ok-cells.ensures.entries c.in_ok-from.ensures.entries
