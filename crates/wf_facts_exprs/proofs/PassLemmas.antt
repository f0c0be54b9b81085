-- What a range holds, it holds still once it was met with what is true of the number.
use Rattle.std.proofs.Common.{◌≡◌, ℕ, pos, Option, Some, None, ◌+◌, ◌-◌, ◌<◌, ◌≤◌, ◌⊎◌, inl, inr, min, Bool, true, false, not, ◌&&◌, ◌||◌, nat_lt, nat_eq, refl, sym, ◌∙◌, subst, arith}
use Rattle.std.specs.Prelude.{if◌then◌else◌, int_lt, int_le}
use Rattle.std.specs.Int.{int_max}
use Rattle.std.proofs.lemmas.Int.{ints, clamps}
use Rattle.std.proofs.lemmas.Bool.{cases_lt}
use Rattle.std.proofs.lemmas.Bool.Decides.{nat_tests}
use Rattle.wf_num.specs.declared.ranges.Range.{Range}
use Rattle.wf_num.specs.Ranges.{range, nothing, is_empty, Holds, HoldsInt, exact_range}
use Rattle.wf_num.proofs.RangeLaws.{some, Holds-meet, Holds-exact}
use Rattle.wf_ast.specs.TypedTree.{Order, less, at_most, equal, differs, at_least, greater}
use Rattle.wf_ast.specs.Value.{compares}
use Rattle.wf_facts_exprs.specs.Claims.{flip, complement}
use Rattle.wf_facts_exprs.specs.RangeOf.{non_empty, up_to, from_on, below, narrowed, is_low_end, without, thinned, met_with, allows_less, allows_equal, allows_greater, implies, allows_no_more}
use Rattle.wf_facts_exprs.specs.Given.{decided, second_rule}

-- ---- tests

pub equal_numbers : (m n : ℕ) → nat_eq m n ≡ true → m ≡ n
equal_numbers m n h = grind (arith, nat_tests, h)

pub lt_from : (m n : ℕ) → nat_lt m n ≡ true → m < n
lt_from m n h = grind (arith, nat_tests, h)

pub to_lt : (m n : ℕ) → m < n → nat_lt m n ≡ true
to_lt m n h = grind (arith, nat_tests, h)

pub or_cases : (a b : Bool) → (a || b) ≡ true → (a ≡ true) ⊎ (b ≡ true)
or_cases true b h = inl refl
or_cases false b h = inr h

pub both_of : (a b : Bool) → (a && b) ≡ true → (a ≡ true) × (b ≡ true)
both_of true b h = (refl, h)
both_of false b h = absurd (cc (h))

-- A claim whose operator a pass leaves out makes nothing of a range.
pub met_with_passed : (pass : Order → ℕ → Range → Range) (about : Bool) (op : Order) (n : Option ℕ) (r : Range) → ((m : ℕ) (q : Range) → pass op m q ≡ q) → r ≡ met_with pass about op n r
met_with_passed pass true op (Some n) r h = sym (h n r)
met_with_passed pass true op None r h = refl
met_with_passed pass false op n r h = refl

-- ---- comparisons

pub compares-less : (op : Order) (m n : ℕ) → m < n → compares op m n ≡ allows_less op
compares-less less m n h = grind (arith, nat_tests, h)
compares-less at_most m n h = grind (arith, nat_tests, h)
compares-less equal m n h = grind (arith, nat_tests, h)
compares-less differs m n h = grind (arith, nat_tests, h)
compares-less at_least m n h = grind (arith, nat_tests, h)
compares-less greater m n h = grind (arith, nat_tests, h)

pub compares-equal : (op : Order) (m : ℕ) → compares op m m ≡ allows_equal op
compares-equal less m = grind (arith, nat_tests)
compares-equal at_most m = grind (arith, nat_tests)
compares-equal equal m = grind (arith, nat_tests)
compares-equal differs m = grind (arith, nat_tests)
compares-equal at_least m = grind (arith, nat_tests)
compares-equal greater m = grind (arith, nat_tests)

pub compares-greater : (op : Order) (m n : ℕ) → n < m → compares op m n ≡ allows_greater op
compares-greater less m n h = grind (arith, nat_tests, h)
compares-greater at_most m n h = grind (arith, nat_tests, h)
compares-greater equal m n h = grind (arith, nat_tests, h)
compares-greater differs m n h = grind (arith, nat_tests, h)
compares-greater at_least m n h = grind (arith, nat_tests, h)
compares-greater greater m n h = grind (arith, nat_tests, h)

pub compares-flip : (op : Order) (m n : ℕ) → compares (flip op) n m ≡ compares op m n
compares-flip less m n = refl
compares-flip at_most m n = refl
compares-flip equal m n = grind (arith, nat_tests)
compares-flip differs m n = grind (arith, nat_tests)
compares-flip at_least m n = refl
compares-flip greater m n = refl

pub compares-complement : (op : Order) (m n : ℕ) → compares (complement op) m n ≡ not (compares op m n)
compares-complement less m n = grind (arith, nat_tests)
compares-complement at_most m n = grind (arith, nat_tests)
compares-complement equal m n = refl
compares-complement differs m n = grind (arith, nat_tests)
compares-complement at_least m n = grind (arith, nat_tests)
compares-complement greater m n = grind (arith, nat_tests)

implied : (p q : Bool) → implies p q ≡ true → p ≡ true → q ≡ true
implied true q h k = h
implied false q h k = absurd (cc (k))

-- What allows no more outcomes than what is known to hold holds.
pub allowed : (known wanted : Order) (m n : ℕ) → allows_no_more known wanted ≡ true → compares known m n ≡ true → compares wanted m n ≡ true
allowed known wanted m n h k = elim (cases_lt m n) [
  | inl l ↦ compares-less wanted m n l ∙ implied _ _ parts.0 (sym (compares-less known m n l) ∙ k)
  | inr g ↦ elim (cases_lt n m) [
    | inl l ↦ compares-greater wanted m n l ∙ implied _ _ rest.1 (sym (compares-greater known m n l) ∙ k)
    | inr e ↦ let same : m ≡ n = omega arith in at_equal n same
  ]
] where
  parts : (implies (allows_less known) (allows_less wanted) ≡ true) × ((implies (allows_equal known) (allows_equal wanted) && implies (allows_greater known) (allows_greater wanted)) ≡ true)
  parts = both_of (implies (allows_less known) (allows_less wanted)) _ h

  rest : (implies (allows_equal known) (allows_equal wanted) ≡ true) × (implies (allows_greater known) (allows_greater wanted) ≡ true)
  rest = both_of (implies (allows_equal known) (allows_equal wanted)) _ parts.1

  at_equal : (j : ℕ) → m ≡ n → compares wanted m n ≡ true
  at_equal j same =
      let P : ℕ → Type 0 = λ j. compares known m j ≡ true in
      let Q : ℕ → Type 0 = λ j. compares wanted m j ≡ true in
      subst Q same (compares-equal wanted m ∙ implied _ _ rest.0 (sym (compares-equal known m) ∙ subst P (sym same) k))

-- ---- meeting with one number

pub natural : (r : Range) (n : ℕ) → HoldsInt r (pos n) → Holds r n
natural r n h = record { above = h.above; below = omega (arith, ints, h.below) }

pub whole : (r : Range) (n : ℕ) → Holds r n → HoldsInt r (pos n)
whole r n h = record { above = h.above; below = omega (arith, ints, h.below) }

kept : (r : Range) (v : ℕ) → Holds r v → Holds (non_empty r) v
kept r v h = rw (some r v h) h

up_to-holds : (n v : ℕ) (r : Range) → v ≤ n → Holds r v → Holds (up_to n r) v
up_to-holds n v r le h = kept (range r.lo (min r.hi n)) v (record { above = h.above; below = omega (arith, h.below) })

from_on-holds : (n v : ℕ) (r : Range) → n ≤ v → Holds r v → Holds (from_on n r) v
from_on-holds n v r le h = kept (range (int_max r.lo (pos n)) r.hi) v (record { above = omega (arith, ints, clamps, h.above); below = h.below })

below-holds : (n v : ℕ) (r : Range) → v < n → Holds r v → Holds (below n r) v
below-holds n v r lt h =
    let e : nat_eq n 0 ≡ false = grind (arith, nat_tests, lt) in
    rw e (up_to-holds (n - 1) v r (omega arith) h)

pub narrowed-holds : (op : Order) (n v : ℕ) (r : Range) → compares op v n ≡ true → Holds r v → Holds (narrowed op n r) v
narrowed-holds less n v r k h = below-holds n v r (grind (arith, nat_tests, k)) h
narrowed-holds at_most n v r k h = up_to-holds n v r (grind (arith, nat_tests, k)) h
narrowed-holds equal n v r k h =
    let same : v ≡ n = grind (arith, nat_tests, k) in
    let P : ℕ → Type 0 = λ m. Holds (exact_range m) v in
    Holds-meet r (exact_range n) v h (subst P same (Holds-exact v))
narrowed-holds differs n v r k h = h
narrowed-holds at_least n v r k h = from_on-holds n v r (grind (arith, nat_tests, k)) h
narrowed-holds greater n v r k h = let lt : n < v = grind (arith, nat_tests, k) in from_on-holds (n + 1) v r (omega arith) h

without-holds : (n v : ℕ) (r : Range) → (v ≡ n → ⊥) → Holds r v → Holds (without n r) v
without-holds n v r other h = by_low (is_low_end n r) refl
  where
    by_high : (b : Bool) → nat_eq r.hi n ≡ b → Holds (if b then below n r else r) v
    by_high true e = let same : r.hi ≡ n = grind (arith, nat_tests, e) in below-holds n v r (omega (arith, h.below)) h
    by_high false e = h

    by_low : (b : Bool) → is_low_end n r ≡ b → Holds (if b then from_on (n + 1) r else if nat_eq r.hi n then below n r else r) v
    by_low true e =
        let p = both_of (int_le r.lo (pos n)) _ e in
        let le : n ≤ v = grind (arith, ints, nat_tests, h.above, p.1) in
        from_on-holds (n + 1) v r (omega arith) h
    by_low false e = by_high (nat_eq r.hi n) refl

pub thinned-holds : (op : Order) (n v : ℕ) (r : Range) → compares op v n ≡ true → Holds r v → Holds (thinned op n r) v
thinned-holds less n v r k h = h
thinned-holds at_most n v r k h = h
thinned-holds equal n v r k h = h
thinned-holds differs n v r k h = without-holds n v r (grind (arith, nat_tests, k)) h
thinned-holds at_least n v r k h = h
thinned-holds greater n v r k h = h

-- ---- no number is added

empty-small : (r : Range) (k : ℕ) → r.hi < k → (non_empty r).hi < k
empty-small r k h = by_test (is_empty r) where
  by_test : (b : Bool) → (if b then nothing else r).hi < k
  by_test true = omega (arith, h)
  by_test false = h

pub narrowed-small : (op : Order) (n k : ℕ) (r : Range) → r.hi < k → (narrowed op n r).hi < k
narrowed-small less n k r h = by_test (nat_eq n 0) where
  by_test : (b : Bool) → (if b then nothing else up_to (n - 1) r).hi < k
  by_test true = omega (arith, h)
  by_test false = empty-small (range r.lo (min r.hi (n - 1))) k (omega (arith, h))
narrowed-small at_most n k r h = empty-small (range r.lo (min r.hi n)) k (omega (arith, h))
narrowed-small equal n k r h = empty-small (range (int_max r.lo (pos n)) (min r.hi n)) k (omega (arith, h))
narrowed-small differs n k r h = h
narrowed-small at_least n k r h = empty-small (range (int_max r.lo (pos n)) r.hi) k h
narrowed-small greater n k r h = empty-small (range (int_max r.lo (pos (n + 1))) r.hi) k h

pub thinned-small : (op : Order) (n k : ℕ) (r : Range) → r.hi < k → (thinned op n r).hi < k
thinned-small less n k r h = h
thinned-small at_most n k r h = h
thinned-small equal n k r h = h
thinned-small differs n k r h = by_low (is_low_end n r) where
  by_high : (b : Bool) → (if b then below n r else r).hi < k
  by_high true = narrowed-small less n k r h
  by_high false = h

  by_low : (b : Bool) → (if b then from_on (n + 1) r else if nat_eq r.hi n then below n r else r).hi < k
  by_low true = narrowed-small greater n k r h
  by_low false = by_high (nat_eq r.hi n)
thinned-small at_least n k r h = h
thinned-small greater n k r h = h

-- ---- the second rule

pub second-true : (op : Order) (a b : Range) (m n : ℕ) → Holds a m → Holds b n → second_rule op a b ≡ true → compares op m n ≡ true
second-true op a b m n h k t = deciding op (elim (or_cases (is_empty a) _ t) [
  | inl e ↦ absurd (cc (e, some a m h))
  | inr u ↦ elim (or_cases (is_empty b) _ u) [ inl e ↦ absurd (cc (e, some b n k)) | inr d ↦ d ]
]) where
  deciding : (op : Order) → decided op a b ≡ true → compares op m n ≡ true
  deciding less d = grind (arith, ints, nat_tests, h.above, h.below, k.above, k.below, d)
  deciding at_most d = grind (arith, ints, nat_tests, h.above, h.below, k.above, k.below, d)
  deciding equal d =
      let p = both_of (int_le (pos a.hi) b.lo) _ d in
      let same : m ≡ n = grind (arith, ints, nat_tests, h.above, h.below, k.above, k.below, p.0, p.1) in
      grind (arith, nat_tests, same)
  deciding differs d = elim (or_cases (int_lt (pos a.hi) b.lo) _ d) [
    | inl e ↦ let lt : m < n = grind (arith, ints, nat_tests, h.above, h.below, k.above, k.below, e) in grind (arith, nat_tests, lt)
    | inr e ↦ let lt : n < m = grind (arith, ints, nat_tests, h.above, h.below, k.above, k.below, e) in grind (arith, nat_tests, lt)
  ]
  deciding at_least d = grind (arith, ints, nat_tests, h.above, h.below, k.above, k.below, d)
  deciding greater d = grind (arith, ints, nat_tests, h.above, h.below, k.above, k.below, d)
