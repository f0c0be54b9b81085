-- The steps of the search for the greatest and the least `x | y` over two spans: what the top bit m of the numbers
-- decides, and what is left to find below it.
use Rattle.std.proofs.Common.{ℕ, ◌+◌, ◌-◌, ◌*◌, ◌^◌, ◌<◌, ◌≤◌, ◌≡◌, ◌⊎◌, refl, ◌∙◌, ap, inl, inr, arith, bit_or}
use Rattle.std.proofs.lemmas.Nat.{or_block, or_lt, or_comm, le_or_l, le_or_r, pow-add, pow_pos}
use Rattle.std.proofs.lemmas.Bool.{cases_lt}
use Rattle.wf_num.specs.declared.spans.Span.{Span}
use Rattle.wf_num.specs.Spans.{IsBit, In, IsGreatest, IsLeast, above, below}

-- ---- one step of `|`

pub or_top : (m x y : ℕ) → IsBit m → x < m → m ≤ y → y < m + m → bit_or x y ≡ m + bit_or x (y - m)
or_top m x y bit p q s =
    let e : 0 * 2 ^ bit.place + x ≡ x = omega arith in
    let f : 1 * 2 ^ bit.place + (y - m) ≡ y = omega (arith, bit.is) in
    let o : bit_or 0 1 ≡ 1 = refl in
    let g : 1 * 2 ^ bit.place + bit_or x (y - m) ≡ m + bit_or x (y - m) = omega (arith, bit.is) in
    cc (or_block bit.place 0 1 x (y - m) (omega (arith, bit.is)) (omega (arith, bit.is)))

pub or_tops : (m x y : ℕ) → IsBit m → m ≤ x → x < m + m → m ≤ y → y < m + m → bit_or x y ≡ m + bit_or (x - m) (y - m)
or_tops m x y bit p r q s =
    let e : 1 * 2 ^ bit.place + (x - m) ≡ x = omega (arith, bit.is) in
    let f : 1 * 2 ^ bit.place + (y - m) ≡ y = omega (arith, bit.is) in
    let o : bit_or 1 1 ≡ 1 = refl in
    let g : 1 * 2 ^ bit.place + bit_or (x - m) (y - m) ≡ m + bit_or (x - m) (y - m) = omega (arith, bit.is) in
    cc (or_block bit.place 1 1 (x - m) (y - m) (omega (arith, bit.is)) (omega (arith, bit.is)))

pub or_below : (m x y : ℕ) → IsBit m → x < m → y < m → bit_or x y < m
or_below m x y bit p q = omega (arith, bit.is, or_lt bit.place x y (omega (arith, bit.is)) (omega (arith, bit.is)))

pub or_within : (m x y : ℕ) → IsBit m → x < m + m → y < m + m → bit_or x y < m + m
or_within m x y bit p q =
    let e : 2 ^ (1 + bit.place) ≡ m + m = omega (arith, bit.is, pow-add 2 1 bit.place) in
    omega (arith, or_lt (1 + bit.place) x y (omega (arith, e)) (omega (arith, e)))

-- ---- spans

pub within : (xs : Span) (n : ℕ) → xs.lo ≤ n → n ≤ xs.hi → In xs n
within xs n l u = record { from = l; to = u }

greatest-turned : (xs ys : Span) (r : ℕ) → IsGreatest bit_or ys xs r → IsGreatest bit_or xs ys r
greatest-turned xs ys r h = record {
  x = h.y;
  y = h.x;
  x_in = h.y_in;
  y_in = h.x_in;
  reached = or_comm h.y h.x ∙ h.reached;
  over = λ p q i j. omega (arith, or_comm p q, h.over q p j i);
}

least-turned : (xs ys : Span) (r : ℕ) → IsLeast bit_or ys xs r → IsLeast bit_or xs ys r
least-turned xs ys r h = record {
  x = h.y;
  y = h.x;
  x_in = h.y_in;
  y_in = h.x_in;
  reached = or_comm h.y h.x ∙ h.reached;
  under = λ p q i j. omega (arith, or_comm p q, h.under q p j i);
}

-- x and y of two spans have `op x y` = r.
pub record Reaches (op : ℕ → ℕ → ℕ) (xs ys : Span) (x y r : ℕ) : Type 0 where
  pub x_in : In xs x
  pub y_in : In ys y
  pub reached : op x y ≡ r

-- Where all have the bit m, what two numbers reach above it, they reach with it on top.
both-reached : (m : ℕ) (xs ys : Span) (x y r : ℕ) → IsBit m → m ≤ xs.lo → xs.lo ≤ xs.hi → xs.hi < m + m → m ≤ ys.lo → ys.lo ≤ ys.hi → ys.hi < m + m → Reaches bit_or (above m xs) (above m ys) x y r → Reaches bit_or xs ys (m + x) (m + y) (m + r)
both-reached m xs ys x y r bit xm xsome xtop ym ysome ytop h = record {
  x_in = within xs _ (omega (arith, h.x_in.from)) (omega (arith, h.x_in.to));
  y_in = within ys _ (omega (arith, h.y_in.from)) (omega (arith, h.y_in.to));
  reached =
      let s : (m + x) - m ≡ x = omega arith in
      let t : (m + y) - m ≡ y = omega arith in
      cc (h.reached, or_tops m (m + x) (m + y) bit (omega arith) (omega (arith, h.x_in.to)) (omega arith) (omega (arith, h.y_in.to)));
}

-- ---- the greatest

-- No x has the bit m, and some y has it: the greatest is with such a y.
pub greatest-one : (m : ℕ) (xs ys : Span) (r : ℕ) → IsBit m → xs.hi < m → m ≤ ys.hi → ys.hi < m + m → IsGreatest bit_or xs (above m ys) r → IsGreatest bit_or xs ys (m + r)
greatest-one m xs ys r bit bm md dm h = record {
  x = h.x;
  y = m + h.y;
  x_in = h.x_in;
  y_in = within ys _ (omega (arith, h.y_in.from)) (omega (arith, h.y_in.to));
  reached =
      let s : (m + h.y) - m ≡ h.y = omega arith in
      cc (h.reached, or_top m h.x (m + h.y) bit (omega (arith, h.x_in.to)) (omega arith) (omega (arith, h.y_in.to)));
  over = λ p q i j. elim (cases_lt q m) [
    | inl l ↦ omega (arith, or_below m p q bit (omega (arith, i.to)) l)
    | inr g ↦ omega (
      arith,
      or_top m p q bit (omega (arith, i.to)) g (omega (arith, j.to)),
      h.over p (q - m) i (within (above m ys) _ (omega (arith, j.from)) (omega (arith, j.to))),
    )
  ];
}

pub greatest-other : (m : ℕ) (xs ys : Span) (r : ℕ) → IsBit m → ys.hi < m → m ≤ xs.hi → xs.hi < m + m → IsGreatest bit_or (above m xs) ys r → IsGreatest bit_or xs ys (m + r)
greatest-other m xs ys r bit bm md dm h =
    greatest-turned xs ys (m + r) (greatest-one m ys xs r bit bm md dm (greatest-turned ys (above m xs) r h))

-- Some x and some y have the bit m, and not all x have it: then x may be m - 1, and all bits are set.
greatest-full : (m : ℕ) (xs ys : Span) → IsBit m → xs.lo < m → m ≤ xs.hi → xs.hi < m + m → ys.lo ≤ ys.hi → m ≤ ys.hi → ys.hi < m + m → IsGreatest bit_or xs ys (m + (m - 1))
greatest-full m xs ys bit lo hi top some yhi ytop = record {
  x = m - 1;
  y = ys.hi;
  x_in = within xs _ (omega arith) (omega arith);
  y_in = within ys _ some (omega arith);
  reached = omega (arith, or_top m (m - 1) ys.hi bit (omega arith) yhi ytop, le_or_l (m - 1) (ys.hi - m), or_below m (m - 1) (ys.hi - m) bit (omega arith) (omega arith));
  over = λ p q i j. omega (arith, or_within m p q bit (omega (arith, i.to)) (omega (arith, j.to)));
}

pub greatest-either : (m : ℕ) (xs ys : Span) → IsBit m → ((xs.lo < m) ⊎ ((m ≤ xs.lo) × (ys.lo < m))) → xs.lo ≤ xs.hi → m ≤ xs.hi → xs.hi < m + m → ys.lo ≤ ys.hi → m ≤ ys.hi → ys.hi < m + m → IsGreatest bit_or xs ys (m + (m - 1))
greatest-either m xs ys bit either xsome xhi xtop ysome yhi ytop = elim either [
  | inl l ↦ greatest-full m xs ys bit l xhi xtop ysome yhi ytop
  | inr g ↦ greatest-turned xs ys (m + (m - 1)) (greatest-full m ys xs bit g.1 yhi ytop xsome xhi xtop)
]

-- All have the bit m.
pub greatest-both : (m : ℕ) (xs ys : Span) (r : ℕ) → IsBit m → m ≤ xs.lo → xs.lo ≤ xs.hi → xs.hi < m + m → m ≤ ys.lo → ys.lo ≤ ys.hi → ys.hi < m + m → IsGreatest bit_or (above m xs) (above m ys) r → IsGreatest bit_or xs ys (m + r)
greatest-both m xs ys r bit xm xsome xtop ym ysome ytop h =
    let n = both-reached m xs ys h.x h.y r bit xm xsome xtop ym ysome ytop (record { x_in = h.x_in; y_in = h.y_in; reached = h.reached }) in
    record {
      x = m + h.x;
      y = m + h.y;
      x_in = n.x_in;
      y_in = n.y_in;
      reached = n.reached;
      over = λ p q i j. omega (
        arith,
        or_tops m p q bit (omega (arith, i.from)) (omega (arith, i.to)) (omega (arith, j.from)) (omega (arith, j.to)),
        h.over (p - m) (q - m) (within (above m xs) _ (omega (arith, i.from)) (omega (arith, i.to)))
            (within (above m ys) _ (omega (arith, j.from)) (omega (arith, j.to))),
      );
    }

pub ruleset greatest_steps = (greatest-one, greatest-other, greatest-either, greatest-both)

-- ---- the least

-- Some x and some y lack the bit m: the least is with such.
pub least-low : (m : ℕ) (xs ys : Span) (r : ℕ) → IsBit m → xs.lo < m → ys.lo < m → IsLeast bit_or (below m xs) (below m ys) r → IsLeast bit_or xs ys r
least-low m xs ys r bit xl yl h = record {
  x = h.x;
  y = h.y;
  x_in = within xs _ h.x_in.from (omega (arith, h.x_in.to));
  y_in = within ys _ h.y_in.from (omega (arith, h.y_in.to));
  reached = h.reached;
  under = λ p q i j.
      let small : r < m = omega (arith, h.reached, or_below m h.x h.y bit (omega (arith, h.x_in.to)) (omega (arith, h.y_in.to))) in
      elim (cases_lt p m) [
        | inl l ↦ elim (cases_lt q m) [
          | inl k ↦ h.under p q (within (below m xs) _ i.from (omega (arith, i.to))) (within (below m ys) _ j.from (omega (arith, j.to)))
          | inr g ↦ omega (arith, le_or_r p q)
        ]
        | inr g ↦ omega (arith, le_or_l p q)
      ];
}

-- Each y has the bit m, and some x lack it while another has it: x may be m alone, and y the least.
pub least-bit : (m : ℕ) (xs ys : Span) → IsBit m → xs.lo < m → m ≤ xs.hi → m ≤ ys.lo → ys.lo ≤ ys.hi → ys.hi < m + m → IsLeast bit_or xs ys ys.lo
least-bit m xs ys bit xl xh yl ysome ytop = record {
  x = m;
  y = ys.lo;
  x_in = within xs _ (omega arith) xh;
  y_in = within ys _ (omega arith) ysome;
  reached =
      let z : m - m ≡ 0 = omega arith in
      let e : bit_or (m - m) (ys.lo - m) ≡ ys.lo - m = ap (λ n. bit_or n (ys.lo - m)) z in
      omega (arith, e, or_tops m m ys.lo bit (omega arith) (omega (arith, pow_pos bit.place, bit.is)) yl (omega arith));
  under = λ p q i j. omega (arith, le_or_r p q, j.from);
}

pub least-bit_other : (m : ℕ) (xs ys : Span) → IsBit m → ys.lo < m → m ≤ ys.hi → m ≤ xs.lo → xs.lo ≤ xs.hi → xs.hi < m + m → IsLeast bit_or xs ys xs.lo
least-bit_other m xs ys bit yl yh xl xsome xtop = least-turned xs ys xs.lo (least-bit m ys xs bit yl yh xl xsome xtop)

-- No x has the bit m, and each y has it.
pub least-one : (m : ℕ) (xs ys : Span) (r : ℕ) → IsBit m → xs.hi < m → m ≤ ys.lo → ys.lo ≤ ys.hi → ys.hi < m + m → IsLeast bit_or xs (above m ys) r → IsLeast bit_or xs ys (m + r)
least-one m xs ys r bit xh yl ysome ytop h = record {
  x = h.x;
  y = m + h.y;
  x_in = h.x_in;
  y_in = within ys _ (omega (arith, h.y_in.from)) (omega (arith, h.y_in.to));
  reached =
      let s : (m + h.y) - m ≡ h.y = omega arith in
      cc (h.reached, or_top m h.x (m + h.y) bit (omega (arith, h.x_in.to)) (omega arith) (omega (arith, h.y_in.to)));
  under = λ p q i j. omega (
    arith,
    or_top m p q bit (omega (arith, i.to)) (omega (arith, j.from)) (omega (arith, j.to)),
    h.under p (q - m) i (within (above m ys) _ (omega (arith, j.from)) (omega (arith, j.to))),
  );
}

pub least-other : (m : ℕ) (xs ys : Span) (r : ℕ) → IsBit m → ys.hi < m → m ≤ xs.lo → xs.lo ≤ xs.hi → xs.hi < m + m → IsLeast bit_or (above m xs) ys r → IsLeast bit_or xs ys (m + r)
least-other m xs ys r bit yh xl xsome xtop h =
    least-turned xs ys (m + r) (least-one m ys xs r bit yh xl xsome xtop (least-turned ys (above m xs) r h))

-- All have the bit m.
pub least-both : (m : ℕ) (xs ys : Span) (r : ℕ) → IsBit m → m ≤ xs.lo → xs.lo ≤ xs.hi → xs.hi < m + m → m ≤ ys.lo → ys.lo ≤ ys.hi → ys.hi < m + m → IsLeast bit_or (above m xs) (above m ys) r → IsLeast bit_or xs ys (m + r)
least-both m xs ys r bit xm xsome xtop ym ysome ytop h =
    let n = both-reached m xs ys h.x h.y r bit xm xsome xtop ym ysome ytop (record { x_in = h.x_in; y_in = h.y_in; reached = h.reached }) in
    record {
      x = m + h.x;
      y = m + h.y;
      x_in = n.x_in;
      y_in = n.y_in;
      reached = n.reached;
      under = λ p q i j. omega (
        arith,
        or_tops m p q bit (omega (arith, i.from)) (omega (arith, i.to)) (omega (arith, j.from)) (omega (arith, j.to)),
        h.under (p - m) (q - m) (within (above m xs) _ (omega (arith, i.from)) (omega (arith, i.to)))
            (within (above m ys) _ (omega (arith, j.from)) (omega (arith, j.to))),
      );
    }

pub ruleset least_steps = (least-one, least-other, least-both)
