-- The range of each operator holds every value of the operator, for operands in the operands' ranges.
use Rattle.std.proofs.Common.{ℕ, ℤ, pos, negsuc, suc, zero, ◌+◌, ◌-◌, ◌*◌, ◌/◌, ◌%◌, ◌^◌, ◌<◌, ◌≤◌, ◌≡◌, refl, ◌≤ℤ◌, ◌-ℤ◌, min, max, true, false, nat_lt, sym, ap, subst, inl, inr, arith, bit_xor}
use Rattle.std.specs.Int.{IsPowerOfTwo, int_max}
use Rattle.std.proofs.Math.Nat.{pow-le-pow_right, div-mul-le_self, mod-le}
use Rattle.std.proofs.lemmas.Int.{ints, clamps}
use Rattle.std.proofs.lemmas.Bool.{cases_lt}
use Rattle.std.proofs.lemmas.Bool.Decides.{nat_tests}
use Rattle.std.proofs.lemmas.Nat.{mul-le, le-div, mod_below, pow_pos, xor_lt}
use Rattle.wf_num.specs.declared.ranges.Range.{Range}
use Rattle.wf_num.specs.declared.spans.Span.{Span}
use Rattle.wf_num.specs.Extremes.{greatest, least}
use Rattle.wf_num.specs.Spans.{In, IsGreatest, IsLeast}
use Rattle.wf_num.specs.Ranges.{range, is_empty, Holds, HoldsInt, IsSmall, IsLeastOnes, IsNoWider, low, unless_empty, tight, exact_range, width_range, fits_width, meet_ranges, add_ranges, sub_ranges, mul_ranges, div_ranges, rem_ranges, shl_ranges, shr_ranges, xor_ranges, least_ones, shift_left, shift_right}
use Rattle.wf_num.proofs.Bits.{within}
use Rattle.wf_num.proofs.ExtremeLaws.{greatest-is, least-is}

-- ---- what holding says

pub some : (r : Range) (n : ℕ) → Holds r n → is_empty r ≡ false
some r n h = grind (arith, ints, nat_tests, h.above, h.below)

pub small-hi : (r : Range) (n : ℕ) → IsSmall r → Holds r n → r.hi < 2 ^ 64
small-hi r n small h = elim small [ inl e ↦ absurd (cc (e, some r n h)) | inr s ↦ s.1 ]

-- A small range's lower end is a natural number.
pub small-lo : (r : Range) (n : ℕ) → IsSmall r → Holds r n → pos (low r.lo) ≡ r.lo
small-lo r n small h = elim small [ inl e ↦ absurd (cc (e, some r n h)) | inr s ↦ natural r.lo s.0 ] where
  natural : (z : ℤ) → pos 0 ≤ℤ z → pos (low z) ≡ z
  natural (pos m) h = refl
  natural (negsuc m) h = absurd (omega (arith, ints))

pub low-le : (r : Range) (n : ℕ) → Holds r n → low r.lo ≤ n
low-le r n h = below r.lo n h.above where
  below : (z : ℤ) (n : ℕ) → z ≤ℤ pos n → low z ≤ n
  below (pos m) n h = omega (arith, ints)
  below (negsuc m) n h = omega arith

between : (lo hi n : ℕ) → lo ≤ n → n ≤ hi → Holds (range (pos lo) hi) n
between lo hi n l u = record { above = omega (arith, ints); below = u }

unless-holds : (a b r : Range) (x y n : ℕ) → Holds a x → Holds b y → Holds r n → Holds (unless_empty a b r) n
unless-holds a b r x y n h k t = rw (some a x h, some b y k) t

-- ---- the operators

pub Holds-add : (a b : Range) (x y : ℕ) → Holds a x → Holds b y → Holds (add_ranges a b) (x + y)
Holds-add a b x y h k = unless-holds a b _ x y _ h k (record {
  above = omega (arith, ints, h.above, k.above);
  below = omega (arith, h.below, k.below);
})

pub HoldsInt-sub : (a b : Range) (x y : ℕ) → Holds a x → Holds b y → HoldsInt (sub_ranges a b) (pos x -ℤ pos y)
HoldsInt-sub a b x y h k = rw (some a x h, some b y k) (record {
  above = omega (arith, ints, h.above, k.below);
  below = omega (arith, ints, h.below, low-le b y k);
})

pub Holds-mul : (a b : Range) (x y : ℕ) → Holds a x → Holds b y → Holds (mul_ranges a b) (x * y)
Holds-mul a b x y h k =
    unless-holds a b _ x y _ h k (between _ _ _ (omega (arith, mul-le (low a.lo) (low b.lo) x y (low-le a x h) (low-le b y k))) (mul-le x y a.hi b.hi h.below k.below))

-- A greater dividend and a lesser divisor give no lesser quotient.
quotients : (m n a b : ℕ) → m ≤ n → b ≤ a → 0 < b → m / a ≤ n / b
quotients m n a b p q r =
    le-div (m / a) n b r (omega (arith, mul-le (m / a) b (m / a) a (omega arith) q, div-mul-le_self m a))

pub powers : (i j : ℕ) → i ≤ j → 2 ^ i ≤ 2 ^ j
powers i j le = pow-le-pow_right {n = 2} (omega arith) le

low-pos : (z : ℤ) → pos 1 ≤ℤ z → 0 < low z
low-pos (pos n) h = omega (arith, ints)
low-pos (negsuc n) h = absurd (omega (arith, ints))

pub Holds-div : (a b : Range) (x y : ℕ) → pos 1 ≤ℤ b.lo → Holds a x → Holds b y → Holds (div_ranges a b) (x / y)
Holds-div a b x y d h k =
    let p : 0 < low b.lo = low-pos b.lo d in
    let q : low b.lo ≤ y = low-le b y k in
    unless-holds a b _ x y _ h k (between _ _ _
    (quotients (low a.lo) x b.hi y (low-le a x h) k.below (omega arith))
    (quotients x a.hi y (low b.lo) h.below q p))

pub Holds-rem : (a b : Range) (x y : ℕ) → pos 1 ≤ℤ b.lo → Holds a x → Holds b y → Holds (rem_ranges a b) (x % y)
Holds-rem a b x y d h k =
    let p : 0 < low b.lo = low-pos b.lo d in
    let q : low b.lo ≤ y = low-le b y k in
    let below : x % y < y = mod_below x y (omega arith) in
    let most : x % y ≤ x = mod-le x y in
    unless-holds a b _ x y _ h k (between _ _ _ (omega arith) (omega (arith, h.below, k.below)))

pub Holds-shl : (a b : Range) (x y : ℕ) → Holds a x → Holds b y → Holds (shl_ranges a b) (shift_left x y)
Holds-shl a b x y h k =
    unless-holds a b _ x y _ h k (between _ _ _
    (mul-le (low a.lo) (2 ^ low b.lo) x (2 ^ y) (low-le a x h) (powers (low b.lo) y (low-le b y k)))
    (mul-le x (2 ^ y) a.hi (2 ^ b.hi) h.below (powers y b.hi k.below)))

pub Holds-shr : (a b : Range) (x y : ℕ) → Holds a x → Holds b y → Holds (shr_ranges a b) (shift_right x y)
Holds-shr a b x y h k =
    unless-holds a b _ x y _ h k (between _ _ _
    (quotients (low a.lo) x (2 ^ b.hi) (2 ^ y) (low-le a x h) (powers y b.hi k.below) (pow_pos y))
    (quotients x a.hi (2 ^ y) (2 ^ low b.lo) h.below (powers (low b.lo) y (low-le b y k)) (pow_pos (low b.lo))))

-- ---- the least 2^k - 1

-- The lesser power has the lesser exponent.
exponents : (i j : ℕ) → 2 ^ i < 2 ^ j → i < j
exponents i j h = elim (cases_lt i j) [ inl l ↦ l | inr g ↦ absurd (omega (arith, powers j i g)) ]

-- The power above 2^most is at least the next one.
next-power : (most j : ℕ) → 2 ^ most < 2 ^ j → 2 ^ suc most ≤ 2 ^ j
next-power most j h = powers (suc most) j (omega (arith, exponents most j h))

least_ones-is : (most n : ℕ) → n < 2 ^ most → IsLeastOnes n (least_ones most n)
unfolding least_ones
least_ones-is zero n h = record { k = 0; is = omega arith; over = omega arith; least = λ j l. omega arith }
least_ones-is (suc most) n h = elim (cases_lt n (2 ^ most)) [
  | inl l ↦ let e : nat_lt n (2 ^ most) ≡ true = grind (arith, nat_tests) in rw e (least_ones-is most n l)
  | inr g ↦ let e : nat_lt n (2 ^ most) ≡ false = grind (arith, nat_tests) in rw e (record {
    k = suc most;
    is = omega arith;
    over = omega arith;
    least = λ j l. omega (arith, next-power most j (omega (arith, pow_pos j)));
  })
]

-- One number is so.
pub IsLeastOnes-same : (n r s : ℕ) → IsLeastOnes n r → IsLeastOnes n s → r ≡ s
IsLeastOnes-same n r s h k =
    omega (arith, h.is, k.is, h.over, k.over, h.least k.k (omega (arith, k.is, k.over)), k.least h.k (omega (arith, h.is, h.over)))

-- The power of two that is next to n + 1, less one.
pub ones-next : (n p : ℕ) → IsPowerOfTwo p → n + 1 ≤ p → p / 2 < max 1 (n + 1) → IsLeastOnes n (p - 1)
ones-next n p power over half = record {
  k = power.0;
  is = omega (arith, power.1);
  over = omega arith;
  least = λ j l. elim (cases_lt (2 ^ j) (2 ^ power.0)) [
    | inl less ↦ absurd (omega (arith, power.1, pow_pos j, next-power j power.0 less))
    | inr more ↦ omega (arith, power.1)
  ];
}

pub ones-same : (n p : ℕ) → n < 2 ^ 64 → IsPowerOfTwo p → n + 1 ≤ p → p / 2 < max 1 (n + 1) → p - 1 ≡ least_ones 64 n
ones-same n p small power over half = IsLeastOnes-same n (p - 1) (least_ones 64 n) (ones-next n p power over half) (least_ones-is 64 n small)

pub ones-small : (n r : ℕ) → n < 2 ^ 64 → IsLeastOnes n r → r < 2 ^ 64
ones-small n r small h = omega (arith, h.least 64 (omega arith))

pub ruleset ones = (ones-next, ones-same, ones-small)

pub Holds-xor : (a b : Range) (x y : ℕ) → a.hi < 2 ^ 64 → b.hi < 2 ^ 64 → Holds a x → Holds b y → Holds (xor_ranges a b) (bit_xor x y)
Holds-xor a b x y small other h k =
    let ones : IsLeastOnes (max a.hi b.hi) (least_ones 64 (max a.hi b.hi)) = least_ones-is 64 (max a.hi b.hi) (omega arith) in
    unless-holds a b _ x y _ h k (between _ _ _ (omega arith)
    (omega (arith, ones.is, pow_pos ones.k, xor_lt ones.k x y (omega (arith, ones.is, ones.over, pow_pos ones.k, h.below)) (omega (arith, ones.is, ones.over, pow_pos ones.k, k.below)))))

-- ---- from the least to the greatest value, of any operation

-- The natural numbers that a range holds, as a span.
abbrev numbers : Range → Span
numbers r = record { lo = low r.lo; hi = r.hi }

-- They are the same numbers.
held : (r : Range) (n : ℕ) → Holds r n → In (numbers r) n
held r n h = within (numbers r) n (low-le r n h) h.below

holds-low : (z : ℤ) (n : ℕ) → low z ≤ n → z ≤ℤ pos n
holds-low (pos m) n h = omega (arith, ints)
holds-low (negsuc m) n h = omega (arith, ints)

holds : (r : Range) (n : ℕ) → In (numbers r) n → Holds r n
holds r n i = record { above = holds-low r.lo n i.from; below = i.to }

spans : (r : Range) (n : ℕ) → Holds r n → low r.lo ≤ r.hi
spans r n h = omega (arith, low-le r n h, h.below)

least-at : (op : ℕ → ℕ → ℕ) (a b : Range) (x y : ℕ) → Holds a x → Holds b y → IsLeast op (numbers a) (numbers b) (least op (low a.lo) a.hi (low b.lo) b.hi)
least-at op a b x y h k = least-is op (numbers a) (numbers b) (spans a x h) (spans b y k)

greatest-at : (op : ℕ → ℕ → ℕ) (a b : Range) (x y : ℕ) → Holds a x → Holds b y → IsGreatest op (numbers a) (numbers b) (greatest op (low a.lo) a.hi (low b.lo) b.hi)
greatest-at op a b x y h k = greatest-is op (numbers a) (numbers b) (spans a x h) (spans b y k)

pub Holds-tight : (op : ℕ → ℕ → ℕ) (a b : Range) (x y : ℕ) → Holds a x → Holds b y → Holds (tight op a b) (op x y)
Holds-tight op a b x y h k =
    unless-holds a b _ x y _ h k (between _ _ _
    ((least-at op a b x y h k).under x y (held a x h) (held b y k))
    ((greatest-at op a b x y h k).over x y (held a x h) (held b y k)))

pub IsNoWider-tight : (op : ℕ → ℕ → ℕ) (a b : Range) → IsNoWider op a b (tight op a b)
IsNoWider-tight op a b = record {
  least = λ x y h k.
      let l : IsLeast op (numbers a) (numbers b) (least op (low a.lo) a.hi (low b.lo) b.hi) = least-at op a b x y h k in
      rw (some a x h, some b y k) (record { x = l.x; y = l.y; x_in = holds a l.x l.x_in; y_in = holds b l.y l.y_in; is = ap pos l.reached });
  greatest = λ x y h k.
      let g : IsGreatest op (numbers a) (numbers b) (greatest op (low a.lo) a.hi (low b.lo) b.hi) = greatest-at op a b x y h k in
      rw (some a x h, some b y k) (record { x = g.x; y = g.y; x_in = holds a g.x g.x_in; y_in = holds b g.y g.y_in; is = ap pos g.reached });
}

-- ---- the ends of the other operators are values too

holds-lo : (r : Range) (n : ℕ) → Holds r n → Holds r (low r.lo)
holds-lo r n h = holds r (low r.lo) (within (numbers r) (low r.lo) (omega arith) (spans r n h))

holds-hi : (r : Range) (n : ℕ) → Holds r n → Holds r r.hi
holds-hi r n h = record { above = omega (arith, ints, h.above, h.below); below = omega arith }

pub IsNoWider-add : (a b : Range) → IsSmall a → IsSmall b → IsNoWider (λ x y. x + y) a b (add_ranges a b)
IsNoWider-add a b p q = record {
  least = λ x y h k. rw (some a x h, some b y k) (record { x = low a.lo; y = low b.lo; x_in = holds-lo a x h; y_in = holds-lo b y k; is = omega (arith, ints, small-lo a x p h, small-lo b y q k) });
  greatest = λ x y h k. rw (some a x h, some b y k) (record { x = a.hi; y = b.hi; x_in = holds-hi a x h; y_in = holds-hi b y k; is = refl });
}

pub IsNoWider-mul : (a b : Range) → low a.lo * low b.lo < 2 ^ 127 → IsNoWider (λ x y. x * y) a b (mul_ranges a b)
IsNoWider-mul a b fits = record {
  least = λ x y h k. rw (some a x h, some b y k) (record { x = low a.lo; y = low b.lo; x_in = holds-lo a x h; y_in = holds-lo b y k; is = ap pos (omega arith) });
  greatest = λ x y h k. rw (some a x h, some b y k) (record { x = a.hi; y = b.hi; x_in = holds-hi a x h; y_in = holds-hi b y k; is = refl });
}

pub IsNoWider-shl : (a b : Range) → IsNoWider (λ x y. shift_left x y) a b (shl_ranges a b)
IsNoWider-shl a b = record {
  least = λ x y h k. rw (some a x h, some b y k) (record { x = low a.lo; y = low b.lo; x_in = holds-lo a x h; y_in = holds-lo b y k; is = refl });
  greatest = λ x y h k. rw (some a x h, some b y k) (record { x = a.hi; y = b.hi; x_in = holds-hi a x h; y_in = holds-hi b y k; is = refl });
}

pub IsNoWider-shr : (a b : Range) → IsNoWider (λ x y. shift_right x y) a b (shr_ranges a b)
IsNoWider-shr a b = record {
  least = λ x y h k. rw (some a x h, some b y k) (record { x = low a.lo; y = b.hi; x_in = holds-lo a x h; y_in = holds-hi b y k; is = refl });
  greatest = λ x y h k. rw (some a x h, some b y k) (record { x = a.hi; y = low b.lo; x_in = holds-hi a x h; y_in = holds-lo b y k; is = refl });
}

-- ---- along an equation of ranges

pub holds-by : (r s : Range) (n : ℕ) → r ≡ s → Holds s n → Holds r n
holds-by r s n e h = let P : Range → Type 0 = λ q. Holds q n in subst P (sym e) h

pub no_wider-by : (op : ℕ → ℕ → ℕ) (a b r s : Range) → r ≡ s → IsNoWider op a b s → IsNoWider op a b r
no_wider-by op a b r s e h = let P : Range → Type 0 = λ q. IsNoWider op a b q in subst P (sym e) h

-- ---- ranges of one number, of a width, of both of two ranges

pub Holds-exact : (n : ℕ) → Holds (exact_range n) n
Holds-exact n = between n n n (omega arith) (omega arith)

pub Holds-width : (bits n : ℕ) → n < 2 ^ bits → Holds (width_range bits) n
Holds-width bits n h = between 0 _ n (omega arith) (omega arith)

pub fits-Holds : (r : Range) (bits n : ℕ) → fits_width r bits ≡ true → Holds r n → n < 2 ^ bits
fits-Holds r bits n fits h = let e : is_empty r ≡ false = some r n h in grind (arith, ints, nat_tests, h.below)

pub Holds-meet : (a b : Range) (n : ℕ) → Holds a n → Holds b n → Holds (meet_ranges a b) n
Holds-meet a b n h k =
    let both : Holds (range (int_max a.lo b.lo) (min a.hi b.hi)) n = record {
      above = omega (arith, ints, clamps, h.above, k.above);
      below = omega (arith, h.below, k.below);
    } in
    let e : is_empty (range (int_max a.lo b.lo) (min a.hi b.hi)) ≡ false = some _ n both in rw e both

-- ---- which ranges are small

pub small-fits : (r : Range) (bits : ℕ) → bits ≤ 64 → fits_width r bits ≡ true → IsSmall r
small-fits r bits le fits = grind (arith, ints, nat_tests, powers bits 64 le)
