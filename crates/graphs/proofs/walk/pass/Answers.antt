use Rattle.std.proofs.Common.{◌≤◌, ◌∙◌, true, false, slice_index_or, length, sym, arith}
use Rattle.graphs.proofs.NumberLemmas.{holds_index}
use Rattle.graphs.proofs.WalkLemmas.{take-whole, passed-flags, flags-begun, goes-row}
use Rattle.graphs.proofs.walk.pass.Goals as goal

pub first_left-i-requires-clause-from : goal.first_left-i-requires-clause-from
first_left-i-requires-clause-from c = λ b h.
    passed-flags c.args.rows.now c.args.walk.now c.args.a c.row-row.result.now c.requires.walks c.row-row.ensures c.requires.a c.index.result.now b c.index.ensures h

pub returns-then-i-row-clause-left : goal.returns-then-i-row-clause-left
returns-then-i-row-clause-left c =
    let row = c.row-row.result.now in
    let b = slice_index_or row c.first_left-i.result 0 in
    let goes = goes-row c.args.rows.now c.args.walk.now c.args.a row c.requires.walks c.row-row.ensures b ∙ holds_index row c.first_left-i.result 0 c.if-i-row.true in (
      goes,
      flags-begun c.args.rows.now c.args.walk.now c.args.a row c.requires.walks c.row-row.ensures c.requires.within b goes false (c.first_left-i.ensures.stops c.if-i-row.true),
    )

pub returns-else-i-row-clause-whole : goal.returns-else-i-row-clause-whole
returns-else-i-row-clause-whole c =
    let row = c.row-row.result.now in
    let over : length row ≤ c.first_left-i.result = omega (arith, c.if-i-row.false) in
    λ b g.
    let in_row = sym (goes-row c.args.rows.now c.args.walk.now c.args.a row c.requires.walks c.row-row.ensures b) ∙ g in
    flags-begun c.args.rows.now c.args.walk.now c.args.a row c.requires.walks c.row-row.ensures c.requires.within b g true (c.first_left-i.ensures.passed b (take-whole row c.first_left-i.result b over in_row))
