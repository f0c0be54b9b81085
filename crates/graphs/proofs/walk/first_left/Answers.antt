use Rattle.std.proofs.Common.{◌≡◌, ◌<◌, ◌∙◌, ℕ, true, false, slice_index_or, length, vec_len, inl, inr, sym, subst, arith}
use Rattle.std.proofs.lemmas.List.{get_or_default}
use Rattle.graphs.proofs.NumberLemmas.{holds_index}
use Rattle.graphs.proofs.WalkLemmas.{take-more}
use Rattle.graphs.proofs.walk.first_left.Goals as goal

pub index-requires : goal.index-requires
index-requires c = c.requires.within (slice_index_or c.args.row.now c.loop-i.i 0) (holds_index c.args.row.now c.loop-i.i 0 c.loop-i-test.true)

pub loop-i-preserved : goal.loop-i-preserved
loop-i-preserved c =
    let here = slice_index_or c.args.row.now c.loop-i.i 0 in
    let short : here < vec_len c.args.flags.now = c.requires.within here (holds_index c.args.row.now c.loop-i.i 0 c.loop-i-test.true) in
    let inside : here < length c.args.flags.now.items = omega (arith, short) in
    let flag : slice_index_or c.args.flags.now.items here false ≡ true = get_or_default c.args.flags.now.items here false c.index.result.now inside ∙ sym c.index.ensures ∙ c.if-index.true in
    let P : ℕ → Type 0 = λ b. slice_index_or c.args.flags.now.items b false ≡ true in
    λ b h. elim (take-more c.args.row.now c.loop-i.i b 0 c.loop-i-test.true h) [ inl p ↦ c.loop-i.invariant b p | inr e ↦ subst P (sym e) flag ]
