-- De Morgan's law for numbers of k bits, and what it says of the ends of `&` over two spans.
use Rattle.std.proofs.Common.{ℕ, zero, suc, ◌+◌, ◌-◌, ◌*◌, ◌/◌, ◌^◌, ◌<◌, ◌≤◌, ◌≡◌, arith, ◌∙◌, ap, sym, bit_and, bit_or}
use Rattle.std.specs.Int.{bit_at}
use Rattle.std.proofs.lemmas.Nat.{or_lt, and_le_l, pow-add, pow_pos}
use Rattle.std.proofs.lemmas.Nat.Bits.{bit_at_and, bit_at_or, bit_at_lowest, bit_at-suc, bit_at-lt, same_from_bits_below}
use Rattle.wf_num.specs.declared.spans.Span.{Span}
use Rattle.wf_num.specs.Extremes.{greatest, least}
use Rattle.wf_num.specs.Spans.{In, IsGreatest, IsLeast, complement}
use Rattle.wf_num.proofs.Bits.{Reaches, within}
use Rattle.wf_num.proofs.ExtremeLaws.{greatest-same, least-same}

twice : (k : ℕ) → 2 ^ suc k ≡ 2 * 2 ^ k
twice k = let e : suc k ≡ 1 + k = omega arith in ap (λ j. 2 ^ j) e ∙ pow-add 2 1 k

bit-flipped : (k n i : ℕ) → n < 2 ^ k → i < k → bit_at (2 ^ k - 1 - n) i ≡ 1 - bit_at n i
bit-flipped zero n i fits low = absurd (omega (arith, low))
bit-flipped (suc k) n zero fits low = omega (arith, bit_at_lowest (2 ^ suc k - 1 - n), bit_at_lowest n, twice k, fits)
bit-flipped (suc k) n (suc i) fits low =
    let half : (2 ^ suc k - 1 - n) / 2 ≡ 2 ^ k - 1 - n / 2 = omega (arith, twice k, fits) in
    bit_at-suc _ i ∙ ap (λ x. bit_at x i) half ∙ bit-flipped k (n / 2) i (omega (arith, twice k, fits)) (omega (arith, low)) ∙ ap (λ d. 1 - d) (sym (bit_at-suc n i))

flipped : (k ones n i : ℕ) → ones ≡ 2 ^ k - 1 → n < 2 ^ k → i < k → bit_at (ones - n) i ≡ 1 - bit_at n i
flipped k ones n i one fits low = ap (λ x. bit_at (x - n) i) one ∙ bit-flipped k n i fits low

and-not : (k ones x y : ℕ) → ones ≡ 2 ^ k - 1 → x < 2 ^ k → y < 2 ^ k → bit_and x y ≡ ones - bit_or (ones - x) (ones - y)
and-not k ones x y one p q =
    let some = pow_pos k in
    let o : bit_or (ones - x) (ones - y) < 2 ^ k = or_lt k (ones - x) (ones - y) (omega (arith, one, some)) (omega (arith, one, some)) in
    same_from_bits_below k _ _ (omega (arith, and_le_l x y, p)) (omega (arith, one, some))
    (λ i h. omega (
      arith,
      bit_at_and x y i,
      bit_at_or (ones - x) (ones - y) i,
      flipped k ones (bit_or (ones - x) (ones - y)) i one o h,
      flipped k ones x i one p h,
      flipped k ones y i one q h,
      bit_at-lt x i,
      bit_at-lt y i,
    ))

module _ (k ones : ℕ) (one : ones ≡ 2 ^ k - 1) where
  -- A number of a span, and its complement in the span of complements.
  complemented : (xs : Span) (n : ℕ) → xs.hi < 2 ^ k → In xs n → In (complement ones xs) (ones - n)
  complemented xs n top i = within (complement ones xs) _ (omega (arith, one, top, pow_pos k, i.to)) (omega (arith, one, top, pow_pos k, i.from))

  restored : (xs : Span) (n : ℕ) → xs.lo ≤ xs.hi → xs.hi < 2 ^ k → In (complement ones xs) n → In xs (ones - n)
  restored xs n some top i = within xs _ (omega (arith, one, some, top, pow_pos k, i.to)) (omega (arith, one, top, pow_pos k, i.from))

  and-within : (xs ys : Span) (p q : ℕ) → xs.hi < 2 ^ k → ys.hi < 2 ^ k → In xs p → In ys q → bit_and p q ≡ ones - bit_or (ones - p) (ones - q)
  and-within xs ys p q xt yt i j = and-not k ones p q one (omega (arith, xt, i.to)) (omega (arith, yt, j.to))

  -- What complements reach by `|`, the numbers reach by `&`.
  and-reached : (xs ys : Span) (x y r : ℕ) → xs.lo ≤ xs.hi → ys.lo ≤ ys.hi → xs.hi < 2 ^ k → ys.hi < 2 ^ k → Reaches bit_or (complement ones xs) (complement ones ys) x y r → Reaches bit_and xs ys (ones - x) (ones - y) (ones - r)
  and-reached xs ys x y r xs_some ys_some xt yt h =
      let p = restored xs x xs_some xt h.x_in in
      let q = restored ys y ys_some yt h.y_in in
      let e : ones - (ones - x) ≡ x = omega (arith, one, xt, pow_pos k, h.x_in.to) in
      let f : ones - (ones - y) ≡ y = omega (arith, one, yt, pow_pos k, h.y_in.to) in
      record { x_in = p; y_in = q; reached = cc (e, f, h.reached, and-within xs ys (ones - x) (ones - y) xt yt p q) }

pub and-greatest : (k ones : ℕ) (xs ys : Span) (r : ℕ) → ones ≡ 2 ^ k - 1 → xs.lo ≤ xs.hi → ys.lo ≤ ys.hi → xs.hi < 2 ^ k → ys.hi < 2 ^ k → IsLeast bit_or (complement ones xs) (complement ones ys) r → ones - r ≡ greatest bit_and xs.lo xs.hi ys.lo ys.hi
and-greatest k ones xs ys r one a b xt yt h =
    let n = and-reached k ones one xs ys h.x h.y r a b xt yt (record { x_in = h.x_in; y_in = h.y_in; reached = h.reached }) in
    greatest-same bit_and xs ys (ones - r) a b record {
      x = ones - h.x;
      y = ones - h.y;
      x_in = n.x_in;
      y_in = n.y_in;
      reached = n.reached;
      over = λ p q i j. omega (
        arith,
        and-within k ones one xs ys p q xt yt i j,
        h.under (ones - p) (ones - q) (complemented k ones one xs p xt i) (complemented k ones one ys q yt j),
      );
    }

pub and-least : (k ones : ℕ) (xs ys : Span) (r : ℕ) → ones ≡ 2 ^ k - 1 → xs.lo ≤ xs.hi → ys.lo ≤ ys.hi → xs.hi < 2 ^ k → ys.hi < 2 ^ k → IsGreatest bit_or (complement ones xs) (complement ones ys) r → ones - r ≡ least bit_and xs.lo xs.hi ys.lo ys.hi
and-least k ones xs ys r one a b xt yt h =
    let n = and-reached k ones one xs ys h.x h.y r a b xt yt (record { x_in = h.x_in; y_in = h.y_in; reached = h.reached }) in
    least-same bit_and xs ys (ones - r) a b record {
      x = ones - h.x;
      y = ones - h.y;
      x_in = n.x_in;
      y_in = n.y_in;
      reached = n.reached;
      under = λ p q i j. omega (
        arith,
        and-within k ones one xs ys p q xt yt i j,
        h.over (ones - p) (ones - q) (complemented k ones one xs p xt i) (complemented k ones one ys q yt j),
      );
    }

pub ruleset ends = (and-greatest, and-least)
