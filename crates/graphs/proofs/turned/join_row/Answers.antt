use Rattle.std.proofs.Common.{◌≤◌, ◌||◌, ◌&&◌, ◌∙◌, List, ℕ, nat_eq, slice_index_or, length, refl, ap, arith}
use Rattle.graphs.specs.Graphs.{holds, goes}
use Rattle.graphs.proofs.NumberLemmas.{holds_index}
use Rattle.graphs.proofs.TurnLemmas.{row-begins, row-more, take-over}
use Rattle.graphs.proofs.turned.join_row.Goals as goal

pub join-requires : goal.join-requires
join-requires c =
    let here = slice_index_or c.args.row.now c.loop-b.b-index 0 in
    omega (arith, c.requires here (holds_index c.args.row.now c.loop-b.b-index 0 c.loop-b-test.true), c.loop-b.invariant.0)

pub loop-b-init : goal.loop-b-init
loop-b-init c = (refl, λ b d. row-begins (goes c.args.rows.now.items b d) (nat_eq d c.args.a))

pub loop-b-preserved : goal.loop-b-preserved
loop-b-preserved c = (
  c.join.ensures.len ∙ c.loop-b.invariant.0,
  λ b d.
      c.in_ok-join.ensures.goes b d
      ∙ row-more c.args.row.now c.loop-b.b-index b 0 (goes c.loop-b.rows.items b d) (goes c.args.rows.now.items b d) (nat_eq d c.args.a) c.loop-b-test.true (c.loop-b.invariant.1 b d),
)

pub returns-clause-goes : goal.returns-clause-goes
returns-clause-goes c = λ b d.
    let over : length c.args.row.now ≤ c.loop-b.b-index = omega (arith, c.loop-b-test.false) in
    c.loop-b.invariant.1 b d ∙ ap (λ (l : List ℕ). goes c.args.rows.now.items b d || (holds l b && nat_eq d c.args.a)) (take-over c.args.row.now c.loop-b.b-index over)
