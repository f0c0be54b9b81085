use Rattle.std.proofs.Common.{◌≡◌, ◌<◌, ◌≤◌, ◌∙◌, true, slice_index_or, length, inl, inr, sym, ap, arith}
use Rattle.graphs.specs.Graphs.{holds, goes}
use Rattle.graphs.proofs.NumberLemmas.{holds_index}
use Rattle.graphs.specs.Labels.{label}
use Rattle.graphs.proofs.WalkLemmas.{take-more, take-whole}
use Rattle.graphs.proofs.LabelLemmas.{label-read, stays-sound, stays-complete}
use Rattle.graphs.proofs.cycles.stays.Goals as goal

pub index-requires : goal.index-requires
index-requires c =
    let here = slice_index_or c.row-row.result.now c.loop-b.b-index 0 in
    let goes_on : goes c.args.rows.now c.args.a here ≡ true = ap (λ l. holds l here) (sym c.row-row.ensures) ∙ holds_index c.row-row.result.now c.loop-b.b-index 0 c.loop-b-test.true in
    omega (arith, c.requires.within c.args.a here goes_on, c.requires.labels.len)

pub returns-then-index-own-clause-sound : goal.returns-then-index-own-clause-sound
returns-then-index-own-clause-sound c = λ _.
    let labels = c.args.labels.now.items in
    let here = slice_index_or c.row-row.result.now c.loop-b.b-index 0 in
    let goes_on : goes c.args.rows.now c.args.a here ≡ true = ap (λ l. holds l here) (sym c.row-row.ensures) ∙ holds_index c.row-row.result.now c.loop-b.b-index 0 c.loop-b-test.true in
    let inside : here < length c.args.rows.now = c.requires.within c.args.a here goes_on in
    let one = label-read labels here c.index.result.now (omega (arith, inside, c.requires.labels.len)) c.index.ensures in
    let own = label-read labels c.args.a c.index-own.result.now (omega (arith, c.requires.labels.len)) c.index-own.ensures in
    stays-sound c.args.rows.now labels c.requires.labels c.args.a here c.requires.a inside goes_on (one ∙ c.if-index-own.true ∙ sym own)

pub loop-b-preserved : goal.loop-b-preserved
loop-b-preserved c =
    let labels = c.args.labels.now.items in
    let here = slice_index_or c.row-row.result.now c.loop-b.b-index 0 in
    let goes_on : goes c.args.rows.now c.args.a here ≡ true = ap (λ l. holds l here) (sym c.row-row.ensures) ∙ holds_index c.row-row.result.now c.loop-b.b-index 0 c.loop-b-test.true in
    let one = label-read labels here c.index.result.now (omega (arith, c.requires.within c.args.a here goes_on, c.requires.labels.len)) c.index.ensures in
    λ b h e. elim (take-more c.row-row.result.now c.loop-b.b-index b 0 c.loop-b-test.true h) [
      | inl p ↦ c.loop-b.invariant b p e
      | inr same ↦ c.if-index-own.false (sym one ∙ ap (label labels) (sym same) ∙ e)
    ]

pub returns-clause-complete : goal.returns-clause-complete
returns-clause-complete c = λ path.
    let labels = c.args.labels.now.items in
    let r = stays-complete c.args.rows.now labels c.requires.labels c.args.a path in
    let over : length c.row-row.result.now ≤ c.loop-b.b-index = omega (arith, c.loop-b-test.false) in
    let held : holds c.row-row.result.now r.0 ≡ true = ap (λ l. holds l r.0) c.row-row.ensures ∙ r.1.0 in
    let own = label-read labels c.args.a c.index-own.result.now (omega (arith, c.requires.labels.len)) c.index-own.ensures in
    absurd (c.loop-b.invariant r.0 (take-whole c.row-row.result.now c.loop-b.b-index r.0 over held) (r.1.1 ∙ own))
