use Rattle.std.proofs.Common.{◌<◌, ◌∙◌, List, Option, None, ℕ, length, slice_index_or, sym, ap, subst, arith}
use Rattle.std.proofs.lemmas.List.{length-replicate}
use Rattle.graphs.proofs.NumberLemmas.{holds_at}
use Rattle.wf_names_sizes.specs.StructSizes.{AreSizes}
use Rattle.wf_names_sizes.proofs.SettleLemmas.{AreKnown, no-sizes, get-index, take-whole, set-length, settled-sound, settled-known, all-settled}
use Rattle.wf_names_sizes.proofs.struct_sizes.sizes.Goals as goal

pub loop-s-init : goal.loop-s-init
loop-s-init c = (
  ap length c.in_ok-sizes.ensures.none ∙ length-replicate (length c.args.rows.now) None,
  (
    (λ t h. absurd (cc h)),
    (λ d same holding. let P : List (Option ℕ) → Type 0 = AreSizes d in subst P (sym c.in_ok-sizes.ensures.none) (no-sizes d (length c.args.rows.now))),
  ),
)

pub row-requires : goal.row-requires
row-requires c =
    let order = c.args.order.now in
    let i = c.loop-s.s-index in
    c.requires.within (slice_index_or order i 0) (holds_at order i (slice_index_or order i 0) (get-index order i 0 c.loop-s-test.true))

pub settle-requires : goal.settle-requires
settle-requires c =
    let order = c.args.order.now in
    let i = c.loop-s.s-index in
    let below = c.requires.within (slice_index_or order i 0) (holds_at order i (slice_index_or order i 0) (get-index order i 0 c.loop-s-test.true)) in
    omega (arith, below, c.loop-s.invariant.0)

pub loop-s-preserved : goal.loop-s-preserved
loop-s-preserved c =
    let flags = c.args.flags.now in
    let rows = c.args.rows.now in
    let order = c.args.order.now in
    let old = c.loop-s.sizes.items in
    let i = c.loop-s.s-index in
    let s = slice_index_or order i 0 in
    let row = c.row.result.now in
    let at = get-index order i 0 c.loop-s-test.true in
    let below : s < length rows = c.requires.within s (holds_at order i s at) in
    let within : s < length old = omega (arith, below, c.loop-s.invariant.0) in
    let e = c.settle.ensures in (
      ap length e ∙ set-length old s _ ∙ c.loop-s.invariant.0,
      (
        (let P : List (Option ℕ) → Type 0 = AreKnown _ in subst P (sym e) (settled-known flags rows order old row i s c.requires within at c.row.ensures c.loop-s.invariant.1.0)),
        (
            λ d same holding.
            let P : List (Option ℕ) → Type 0 = AreSizes d in
            subst P (sym e) (settled-sound d flags rows old row s same holding (c.loop-s.invariant.1.1 d same holding) within c.row.ensures)
            ),
      ),
    )

pub returns-clause-settled : goal.returns-clause-settled
returns-clause-settled c =
    let order = c.args.order.now in
    let P : List ℕ → Type 0 = λ ks. AreKnown ks c.loop-s.sizes.items in
    all-settled c.args.flags.now c.args.rows.now order c.loop-s.sizes.items c.requires
    (subst P (take-whole order c.loop-s.s-index c.loop-s-test.false) c.loop-s.invariant.1.0)
