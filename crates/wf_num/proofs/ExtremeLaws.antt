-- `greatest` and `least` are what they say: a value that some pair has, and that no pair passes. Only one number is so.
use Rattle.std.proofs.Common.{ℕ, zero, suc, ◌+◌, ◌-◌, ◌≤◌, ◌≡◌, max, min, refl, ap, ◌∙◌, inl, inr, arith}
use Rattle.std.proofs.lemmas.Bool.{cases_lt}
use Rattle.wf_num.specs.declared.spans.Span.{Span}
use Rattle.wf_num.specs.Extremes.{greatest_of, least_of, greatest, least}
use Rattle.wf_num.specs.Spans.{IsGreatest, IsLeast}
use Rattle.wf_num.proofs.Bits.{within}

-- ---- one operand

greatest_of-above : (f : ℕ → ℕ) (from more n : ℕ) → from ≤ n → n ≤ from + more → f n ≤ greatest_of f from more
unfolding greatest_of
greatest_of-above f from zero n l u = let e : n ≡ from = omega arith in omega (arith, ap f e)
greatest_of-above f from (suc more) n l u = elim (cases_lt (from + more) n) [
  | inl g ↦ let e : n ≡ from + suc more = omega arith in omega (arith, ap f e)
  | inr g ↦ omega (arith, greatest_of-above f from more n l g)
]

greatest_of-reached : (f : ℕ → ℕ) (from more : ℕ) → (n : ℕ) × (from ≤ n) × (n ≤ from + more) × (f n ≡ greatest_of f from more)
unfolding greatest_of
greatest_of-reached f from zero = (from, omega arith, omega arith, omega arith)
greatest_of-reached f from (suc more) =
    let h = greatest_of-reached f from more in
    elim (cases_lt (f (from + suc more)) (greatest_of f from more)) [
      | inl l ↦ (h.0, h.1, omega (arith, h.2), omega (arith, h.3))
      | inr g ↦ (from + suc more, omega arith, omega arith, omega arith)
    ]

least_of-below : (f : ℕ → ℕ) (from more n : ℕ) → from ≤ n → n ≤ from + more → least_of f from more ≤ f n
unfolding least_of
least_of-below f from zero n l u = let e : n ≡ from = omega arith in omega (arith, ap f e)
least_of-below f from (suc more) n l u = elim (cases_lt (from + more) n) [
  | inl g ↦ let e : n ≡ from + suc more = omega arith in omega (arith, ap f e)
  | inr g ↦ omega (arith, least_of-below f from more n l g)
]

least_of-reached : (f : ℕ → ℕ) (from more : ℕ) → (n : ℕ) × (from ≤ n) × (n ≤ from + more) × (f n ≡ least_of f from more)
unfolding least_of
least_of-reached f from zero = (from, omega arith, omega arith, omega arith)
least_of-reached f from (suc more) =
    let h = least_of-reached f from more in
    elim (cases_lt (least_of f from more) (f (from + suc more))) [
      | inl l ↦ (h.0, h.1, omega (arith, h.2), omega (arith, h.3))
      | inr g ↦ (from + suc more, omega arith, omega arith, omega arith)
    ]

-- One number, and one more.
pub greatest_of-none : (f : ℕ → ℕ) (from : ℕ) → greatest_of f from 0 ≡ f from
unfolding greatest_of
greatest_of-none f from = refl

pub least_of-none : (f : ℕ → ℕ) (from : ℕ) → least_of f from 0 ≡ f from
unfolding least_of
least_of-none f from = refl

pub greatest_of-more : (f : ℕ → ℕ) (from n : ℕ) → greatest_of f from (n + 1) ≡ max (f (from + n + 1)) (greatest_of f from n)
unfolding greatest_of
greatest_of-more f from n =
    let e : n + 1 ≡ suc n = omega arith in
    let s : from + suc n ≡ from + n + 1 = omega arith in
    omega (arith, ap (greatest_of f from) e, ap f s)

pub least_of-more : (f : ℕ → ℕ) (from n : ℕ) → least_of f from (n + 1) ≡ min (f (from + n + 1)) (least_of f from n)
unfolding least_of
least_of-more f from n =
    let e : n + 1 ≡ suc n = omega arith in
    let s : from + suc n ≡ from + n + 1 = omega arith in
    omega (arith, ap (least_of f from) e, ap f s)

-- ---- two operands

pub greatest-is : (op : ℕ → ℕ → ℕ) (xs ys : Span) → xs.lo ≤ xs.hi → ys.lo ≤ ys.hi → IsGreatest op xs ys (greatest op xs.lo xs.hi ys.lo ys.hi)
unfolding greatest
greatest-is op xs ys a b =
    let row = λ (x : ℕ). greatest_of (op x) ys.lo (ys.hi - ys.lo) in
    let h = greatest_of-reached row xs.lo (xs.hi - xs.lo) in
    let k = greatest_of-reached (op h.0) ys.lo (ys.hi - ys.lo) in
    record {
      x = h.0;
      y = k.0;
      x_in = within xs _ h.1 (omega (arith, h.2));
      y_in = within ys _ k.1 (omega (arith, k.2));
      reached = k.3 ∙ h.3;
      over = λ p q i j. omega (
        arith,
        greatest_of-above row xs.lo (xs.hi - xs.lo) p i.from (omega (arith, i.to)),
        greatest_of-above (op p) ys.lo (ys.hi - ys.lo) q j.from (omega (arith, j.to)),
      );
    }

pub least-is : (op : ℕ → ℕ → ℕ) (xs ys : Span) → xs.lo ≤ xs.hi → ys.lo ≤ ys.hi → IsLeast op xs ys (least op xs.lo xs.hi ys.lo ys.hi)
unfolding least
least-is op xs ys a b =
    let row = λ (x : ℕ). least_of (op x) ys.lo (ys.hi - ys.lo) in
    let h = least_of-reached row xs.lo (xs.hi - xs.lo) in
    let k = least_of-reached (op h.0) ys.lo (ys.hi - ys.lo) in
    record {
      x = h.0;
      y = k.0;
      x_in = within xs _ h.1 (omega (arith, h.2));
      y_in = within ys _ k.1 (omega (arith, k.2));
      reached = k.3 ∙ h.3;
      under = λ p q i j. omega (
        arith,
        least_of-below row xs.lo (xs.hi - xs.lo) p i.from (omega (arith, i.to)),
        least_of-below (op p) ys.lo (ys.hi - ys.lo) q j.from (omega (arith, j.to)),
      );
    }

pub greatest-same : (op : ℕ → ℕ → ℕ) (xs ys : Span) (r : ℕ) → xs.lo ≤ xs.hi → ys.lo ≤ ys.hi → IsGreatest op xs ys r → r ≡ greatest op xs.lo xs.hi ys.lo ys.hi
greatest-same op xs ys r a b h =
    let k : IsGreatest op xs ys (greatest op xs.lo xs.hi ys.lo ys.hi) = greatest-is op xs ys a b in
    omega (arith, h.reached, k.reached, h.over k.x k.y k.x_in k.y_in, k.over h.x h.y h.x_in h.y_in)

pub least-same : (op : ℕ → ℕ → ℕ) (xs ys : Span) (r : ℕ) → xs.lo ≤ xs.hi → ys.lo ≤ ys.hi → IsLeast op xs ys r → r ≡ least op xs.lo xs.hi ys.lo ys.hi
least-same op xs ys r a b h =
    let k : IsLeast op xs ys (least op xs.lo xs.hi ys.lo ys.hi) = least-is op xs ys a b in
    omega (arith, h.reached, k.reached, h.under k.x k.y k.x_in k.y_in, k.under h.x h.y h.x_in h.y_in)

-- ---- by one operand at a time

pub greatest-rows : (op : ℕ → ℕ → ℕ) (a b c d : ℕ) → greatest op a b c d ≡ greatest_of (λ x. greatest_of (op x) c (d - c)) a (b - a)
unfolding greatest
greatest-rows op a b c d = refl

pub least-rows : (op : ℕ → ℕ → ℕ) (a b c d : ℕ) → least op a b c d ≡ least_of (λ x. least_of (op x) c (d - c)) a (b - a)
unfolding least
least-rows op a b c d = refl
