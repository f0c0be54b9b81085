-- The range of an operator holds its value before it is fitted into a width, and where the range lies in the width the
-- operator isn't stuck.
use Rattle.std.proofs.Common.{◌≡◌, ℕ, ℤ, pos, negsuc, zero, suc, ◌+◌, ◌-◌, ◌*◌, ◌/◌, ◌%◌, ◌^◌, ◌<◌, ◌≤◌, ◌≤ℤ◌, ◌-ℤ◌, ◌⊎◌, inl, inr, min, Bool, true, false, Option, Some, None, nat_lt, refl, sym, ap, ◌∙◌, subst, arith, bit_and, bit_or, bit_xor}
use Rattle.std.specs.Prelude.{if◌then◌else◌, int_le, nat_le}
use Rattle.std.proofs.lemmas.Int.{ints, clamps}
use Rattle.std.proofs.lemmas.Bool.Decides.{nat_tests}
use Rattle.std.proofs.Math.Nat.{mod-eq_of_lt, add-mod_right}
use Rattle.std.proofs.lemmas.Nat.{mod_below, pow_pos}
use Rattle.wf_num.specs.declared.ranges.Range.{Range}
use Rattle.wf_num.specs.Ranges.{is_empty, low, Holds, HoldsInt, width_range, fits_width, add_ranges, mul_ranges, shl_ranges}
use Rattle.wf_num.proofs.RangeLaws.{some, Holds-add, HoldsInt-sub, Holds-mul, Holds-div, Holds-rem, Holds-shl, Holds-shr, Holds-xor, Holds-tight, Holds-width, fits-Holds}
use Rattle.wf_ast.specs.TypedTree.{Arith, plus, minus, times, divided, remainder, shift_left, shift_right, bits_and, bits_or, bits_xor, mod_plus, mod_minus, mod_times, mod_shift_left, sat_plus, sat_minus}
use Rattle.wf_ast.specs.Value.{applied, fitted, only_if}
use Rattle.wf_ast.specs.WellTyped.{is_shift}
use Rattle.wf_text.specs.declared.place.Place.{Place}
use Rattle.wf_facts_exprs.specs.RangeOf.{difference, wrapped, cut_off, operator_range}
use Rattle.wf_facts_exprs.specs.Demands.{demand, is_divisor, is_below, operand_demand}
use Rattle.wf_facts_exprs.proofs.PassLemmas.{natural, whole, to_lt, lt_from, or_cases, both_of}

-- The value of an operator for two operands, before it is fitted into the width; that of `-` may be negative.
abbrev pub result_of : Arith → (bits : ℕ) → (m n : ℕ) → ℤ
result_of plus bits m n = pos (m + n)
result_of minus bits m n = pos m -ℤ pos n
result_of times bits m n = pos (m * n)
result_of divided bits m n = pos (m / n)
result_of remainder bits m n = pos (m % n)
result_of shift_left bits m n = pos (m * 2 ^ n)
result_of shift_right bits m n = pos (m / 2 ^ n)
result_of bits_and bits m n = pos (bit_and m n)
result_of bits_or bits m n = pos (bit_or m n)
result_of bits_xor bits m n = pos (bit_xor m n)
result_of mod_plus bits m n = pos ((m + n) % 2 ^ bits)
result_of mod_minus bits m n = pos ((m + (2 ^ bits - n)) % 2 ^ bits)
result_of mod_times bits m n = pos ((m * n) % 2 ^ bits)
result_of mod_shift_left bits m n = pos ((m * 2 ^ n) % 2 ^ bits)
result_of sat_plus bits m n = pos (min (m + n) (2 ^ bits - 1))
result_of sat_minus bits m n = pos (m - n)

-- A demand that is met.
pub demanded : (b : Bool) (rule : _) (at : Place) → demand b rule at ≡ None → b ≡ true
demanded true rule at h = refl
demanded false rule at h = absurd (cc (h))

divisor-low : (b : Range) (n : ℕ) → is_divisor b ≡ true → Holds b n → pos 1 ≤ℤ b.lo
divisor-low b n h k = elim (or_cases (is_empty b) _ h) [ inl e ↦ absurd (cc (e, some b n k)) | inr e ↦ grind (arith, ints, nat_tests, e) ]

shift-low : (bits : ℕ) (b : Range) (n : ℕ) → is_below bits b ≡ true → Holds b n → n < bits
shift-low bits b n h k = elim (or_cases (is_empty b) _ h) [
  | inl e ↦ absurd (cc (e, some b n k))
  | inr e ↦ let l = k.below in grind (arith, nat_tests, e, l)
]

difference-holds : (ordered : Bool) (a b : Range) (m n : ℕ) → (ordered ≡ true → n ≤ m) → Holds a m → Holds b n → HoldsInt (difference ordered a b) (pos m -ℤ pos n)
difference-holds false a b m n o h k = HoldsInt-sub a b m n h k
difference-holds true a b m n o h k =
    let i = HoldsInt-sub a b m n h k in
    let le : n ≤ m = o refl in
    record { above = omega (arith, ints, clamps, i.above, le); below = i.below }

pub few-bits : (bits : ℕ) (b : Range) → bits ≤ 64 → is_below bits b ≡ true → (is_empty b ≡ true) ⊎ (b.hi ≤ 63)
few-bits bits b le h = elim (or_cases (is_empty b) _ h) [
  | inl e ↦ inl e
  | inr e ↦ let l = lt_from b.hi bits e in inr (omega (arith, l, le))
]

-- A number below the width is what is left of it.
mod-small : (n k : ℕ) → n < k → n % k ≡ n
mod-small n k h = mod-eq_of_lt h

mod-is : (n v k : ℕ) → n ≡ v → v < k → n % k ≡ v
mod-is n v k e h = let P : ℕ → Type 0 = λ j. j % k ≡ v in subst P (sym e) (mod-small v k h)

-- A difference that is a number of the width comes back round.
mod-back : (m n v k : ℕ) → n < k → m ≡ v + n → v < k → (m + (k - n)) % k ≡ v
mod-back m n v k small e h =
    let same : m + (k - n) ≡ v + k = omega arith in
    let P : ℕ → Type 0 = λ j. j % k ≡ v in
    subst P (sym same) (add-mod_right v k ∙ mod-small v k h)

-- `m` is z, where z is a number of the width.
wrapped-holds : (bits : ℕ) (r : Range) (z : ℤ) (m : ℕ) → HoldsInt r z → m < 2 ^ bits → ((v : ℕ) → z ≡ pos v → v < 2 ^ bits → m ≡ v) → Holds (wrapped bits r) m
wrapped-holds bits r z m h small same = by_test (fits_width r bits) refl
  where
    inside : fits_width r bits ≡ true → (z : ℤ) → HoldsInt r z → ((v : ℕ) → z ≡ pos v → v < 2 ^ bits → m ≡ v) → Holds r m
    inside e (pos v) g same =
        let k = natural r v g in
        let P : ℕ → Type 0 = λ j. Holds r j in
        subst P (sym (same v refl (fits-Holds r bits v e k))) k
    inside e (negsuc v) g same = absurd (elim (or_cases (is_empty r) _ e) [
      | inl x ↦ grind (arith, ints, nat_tests, x, g.above, g.below)
      | inr x ↦ let p = both_of (int_le (pos 0) r.lo) _ x in grind (arith, ints, nat_tests, p.0, g.above)
    ])

    by_test : (b : Bool) → fits_width r bits ≡ b → Holds (if b then r else width_range bits) m
    by_test true e = inside e z h same
    by_test false e = Holds-width bits m small

-- `n` is the least number that isn't below z.
cut-holds : (bits : ℕ) (r : Range) (z : ℤ) (n : ℕ) → HoldsInt r z → z ≤ℤ pos n → n ≤ r.hi → Holds (cut_off bits r) (min n (2 ^ bits - 1))
cut-holds bits r z n h le most =
    let e : is_empty r ≡ false = grind (arith, ints, nat_tests, h.above, h.below) in
    let l : low r.lo ≤ n = below r.lo z h.above le in
    rw e (record { above = omega (arith, ints, l); below = omega (arith, most) })
  where
    below : (lo z : ℤ) → lo ≤ℤ z → z ≤ℤ pos n → low lo ≤ n
    below (pos k) z g l = omega (arith, ints, g, l)
    below (negsuc k) z g l = omega arith

-- ---- the range of an operator holds its value

-- What is known of the operands: what the ranges hold, and what was asked of the right one.
pub record Operands (op : Arith) (bits : ℕ) (ordered : Bool) (a b : Range) (m n : ℕ) : Type 0 where
  pub left : Holds a m
  pub right : Holds b n
  pub left_small : a.hi < 2 ^ 64
  pub right_small : b.hi < 2 ^ 64
  pub left_within : m < 2 ^ bits
  pub right_within : is_shift op ≡ false → n < 2 ^ bits
  pub order : ordered ≡ true → n ≤ m
  pub asked : (sign : Place) → operand_demand op bits sign b ≡ None

no_sign : Place
no_sign = record { file = 0; line = 0; col = 0 }

pub operator-holds : (op : Arith) (bits : ℕ) (ordered : Bool) (a b : Range) (m n : ℕ) → Operands op bits ordered a b m n → HoldsInt (operator_range op bits ordered a b) (result_of op bits m n)
operator-holds plus bits o a b m n h = whole _ _ (Holds-add a b m n h.left h.right)
operator-holds minus bits o a b m n h = difference-holds o a b m n h.order h.left h.right
operator-holds times bits o a b m n h = whole _ _ (Holds-mul a b m n h.left h.right)
operator-holds divided bits o a b m n h =
    whole _ _ (Holds-div a b m n (divisor-low b n (demanded (is_divisor b) _ no_sign (h.asked no_sign)) h.right) h.left h.right)
operator-holds remainder bits o a b m n h =
    whole _ _ (Holds-rem a b m n (divisor-low b n (demanded (is_divisor b) _ no_sign (h.asked no_sign)) h.right) h.left h.right)
operator-holds shift_left bits o a b m n h = whole _ _ (Holds-shl a b m n h.left h.right)
operator-holds shift_right bits o a b m n h = whole _ _ (Holds-shr a b m n h.left h.right)
operator-holds bits_and bits o a b m n h = whole _ _ (Holds-tight bit_and a b m n h.left h.right)
operator-holds bits_or bits o a b m n h = whole _ _ (Holds-tight bit_or a b m n h.left h.right)
operator-holds bits_xor bits o a b m n h = whole _ _ (Holds-xor a b m n h.left_small h.right_small h.left h.right)
operator-holds mod_plus bits o a b m n h =
    whole _ _ (wrapped-holds bits (add_ranges a b) (pos (m + n)) ((m + n) % 2 ^ bits) (whole _ _ (Holds-add a b m n h.left h.right)) (mod_below (m + n) (2 ^ bits) (pow_pos bits))
    (λ v e l. let same : m + n ≡ v = omega (arith, ints, e) in mod-is (m + n) v (2 ^ bits) same l))
operator-holds mod_minus bits o a b m n h =
    whole _ _ (wrapped-holds bits (difference o a b) (pos m -ℤ pos n) ((m + (2 ^ bits - n)) % 2 ^ bits) (difference-holds o a b m n h.order h.left h.right) (mod_below (m + (2 ^ bits - n)) (2 ^ bits) (pow_pos bits))
    (λ v e l. let same : m ≡ v + n = omega (arith, ints, e) in mod-back m n v (2 ^ bits) (h.right_within refl) same l))
operator-holds mod_times bits o a b m n h =
    whole _ _ (wrapped-holds bits (mul_ranges a b) (pos (m * n)) ((m * n) % 2 ^ bits) (whole _ _ (Holds-mul a b m n h.left h.right)) (mod_below (m * n) (2 ^ bits) (pow_pos bits))
    (λ v e l. let same : m * n ≡ v = omega (arith, ints, e) in mod-is (m * n) v (2 ^ bits) same l))
operator-holds mod_shift_left bits o a b m n h =
    whole _ _ (wrapped-holds bits (shl_ranges a b) (pos (m * 2 ^ n)) ((m * 2 ^ n) % 2 ^ bits) (whole _ _ (Holds-shl a b m n h.left h.right)) (mod_below (m * 2 ^ n) (2 ^ bits) (pow_pos bits))
    (λ v e l. let same : m * 2 ^ n ≡ v = omega (arith, ints, e) in mod-is (m * 2 ^ n) v (2 ^ bits) same l))
operator-holds sat_plus bits o a b m n h =
    let k = Holds-add a b m n h.left h.right in
    whole _ _ (cut-holds bits (add_ranges a b) (pos (m + n)) (m + n) (whole _ _ k) (omega (arith, ints)) k.below)
operator-holds sat_minus bits o a b m n h =
    let k = difference-holds o a b m n h.order h.left h.right in
    let c = cut-holds bits (difference o a b) (pos m -ℤ pos n) (m - n) k (omega (arith, ints)) (omega (arith, ints, k.below)) in
    let l = h.left_within in
    let same : min (m - n) (2 ^ bits - 1) ≡ m - n = omega (arith, l) in
    let P : ℕ → Type 0 = λ j. Holds (cut_off bits (difference o a b)) j in
    whole _ _ (subst P same c)

-- ---- an operator whose range lies in its width isn't stuck

pub record Applied (op : Arith) (bits m n : ℕ) : Type 0 where
  pub value : ℕ
  pub is : applied op bits m n ≡ Some value
  pub result : result_of op bits m n ≡ pos value
  pub within : value < 2 ^ bits

fitted-is : (bits n : ℕ) → n < 2 ^ bits → fitted bits n ≡ Some n
fitted-is bits n h = rw (to_lt n (2 ^ bits) h) refl

inside_width : (r : Range) (bits n : ℕ) → fits_width r bits ≡ true → HoldsInt r (pos n) → n < 2 ^ bits
inside_width r bits n e h = fits-Holds r bits n e (natural r n h)

-- A difference that lies in the width isn't negative.
not_negative : (r : Range) (bits : ℕ) (z : ℤ) → fits_width r bits ≡ true → HoldsInt r z → pos 0 ≤ℤ z
not_negative r bits z e h = elim (or_cases (is_empty r) _ e) [
  | inl x ↦ absurd (grind (arith, ints, nat_tests, x, h.above, h.below))
  | inr x ↦ let p = both_of (int_le (pos 0) r.lo) _ x in grind (arith, ints, nat_tests, p.0, h.above)
]

by_value : (op : Arith) (bits m n v : ℕ) → applied op bits m n ≡ fitted bits v → result_of op bits m n ≡ pos v → v < 2 ^ bits → Applied op bits m n
by_value op bits m n v e r l = record { value = v; is = e ∙ fitted-is bits v l; result = r; within = l }

guarded : (bits n v : ℕ) → n < bits → only_if (nat_lt n bits) (fitted bits v) ≡ fitted bits v
guarded bits n v h = rw (to_lt n bits h) refl

pub operator-applied : (op : Arith) (bits : ℕ) (r b : Range) (m n : ℕ) → m < 2 ^ bits → Holds b n → ((sign : Place) → operand_demand op bits sign b ≡ None)
    → fits_width r bits ≡ true → HoldsInt r (result_of op bits m n) → Applied op bits m n
operator-applied plus bits r b m n small h d e k = by_value plus bits m n (m + n) refl refl (inside_width r bits (m + n) e k)
operator-applied minus bits r b m n small h d e k =
    let z = not_negative r bits (pos m -ℤ pos n) e k in
    let le : n ≤ m = omega (arith, ints, z) in
    let t : nat_le n m ≡ true = grind (arith, nat_tests, le) in
    let same : pos m -ℤ pos n ≡ pos (m - n) = omega (arith, ints, le) in
    by_value minus bits m n (m - n) (rw t refl) same (omega (arith, small))
operator-applied times bits r b m n small h d e k = by_value times bits m n (m * n) refl refl (inside_width r bits (m * n) e k)
operator-applied divided bits r b m zero small h d e k =
    absurd (let p = divisor-low b 0 (demanded (is_divisor b) _ no_sign (d no_sign)) h in omega (arith, ints, p, h.above))
operator-applied divided bits r b m (suc n) small h d e k = by_value divided bits m (suc n) (m / suc n) refl refl (inside_width r bits (m / suc n) e k)
operator-applied remainder bits r b m zero small h d e k =
    absurd (let p = divisor-low b 0 (demanded (is_divisor b) _ no_sign (d no_sign)) h in omega (arith, ints, p, h.above))
operator-applied remainder bits r b m (suc n) small h d e k = by_value remainder bits m (suc n) (m % suc n) refl refl (inside_width r bits (m % suc n) e k)
operator-applied shift_left bits r b m n small h d e k =
    by_value shift_left bits m n (m * 2 ^ n) (guarded bits n (m * 2 ^ n) (shift-low bits b n (demanded (is_below bits b) _ no_sign (d no_sign)) h)) refl (inside_width r bits (m * 2 ^ n) e k)
operator-applied shift_right bits r b m n small h d e k =
    by_value shift_right bits m n (m / 2 ^ n) (guarded bits n (m / 2 ^ n) (shift-low bits b n (demanded (is_below bits b) _ no_sign (d no_sign)) h)) refl (inside_width r bits (m / 2 ^ n) e k)
operator-applied bits_and bits r b m n small h d e k = by_value bits_and bits m n (bit_and m n) refl refl (inside_width r bits (bit_and m n) e k)
operator-applied bits_or bits r b m n small h d e k = by_value bits_or bits m n (bit_or m n) refl refl (inside_width r bits (bit_or m n) e k)
operator-applied bits_xor bits r b m n small h d e k = by_value bits_xor bits m n (bit_xor m n) refl refl (inside_width r bits (bit_xor m n) e k)
operator-applied mod_plus bits r b m n small h d e k = record { value = (m + n) % 2 ^ bits; is = refl; result = refl; within = mod_below (m + n) (2 ^ bits) (pow_pos bits) }
operator-applied mod_minus bits r b m n small h d e k = record { value = (m + (2 ^ bits - n)) % 2 ^ bits; is = refl; result = refl; within = mod_below (m + (2 ^ bits - n)) (2 ^ bits) (pow_pos bits) }
operator-applied mod_times bits r b m n small h d e k = record { value = (m * n) % 2 ^ bits; is = refl; result = refl; within = mod_below (m * n) (2 ^ bits) (pow_pos bits) }
operator-applied mod_shift_left bits r b m n small h d e k =
    let l = shift-low bits b n (demanded (is_below bits b) _ no_sign (d no_sign)) h in
    let t = to_lt n bits l in
    record { value = (m * 2 ^ n) % 2 ^ bits; is = rw t refl; result = refl; within = mod_below (m * 2 ^ n) (2 ^ bits) (pow_pos bits) }
operator-applied sat_plus bits r b m n small h d e k = record { value = min (m + n) (2 ^ bits - 1); is = refl; result = refl; within = omega (arith, pow_pos bits) }
operator-applied sat_minus bits r b m n small h d e k = record { value = m - n; is = refl; result = refl; within = omega (arith, small) }

-- The value of an operator that isn't stuck.

fitted-value : (bits n k : ℕ) → fitted bits n ≡ Some k → n ≡ k
fitted-value bits n k h = by_test (nat_lt n (2 ^ bits)) h
  where
    by_test : (b : Bool) → (if b then Some n else None) ≡ Some k → n ≡ k
    by_test true e = cc (e)
    by_test false e = absurd (cc (e))

guarded-value : (b : Bool) (x : Option ℕ) (k : ℕ) → only_if b x ≡ Some k → x ≡ Some k
guarded-value true x k h = h
guarded-value false x k h = absurd (cc (h))

some-value : (n k : ℕ) → Some n ≡ Some k → n ≡ k
some-value n k h = cc

pub applied-result : (op : Arith) (bits m n k : ℕ) → applied op bits m n ≡ Some k → result_of op bits m n ≡ pos k
applied-result plus bits m n k h = ap pos (fitted-value bits (m + n) k h)
applied-result minus bits m n k h = by_test (nat_le n m) refl h
  where
    by_test : (b : Bool) → nat_le n m ≡ b → only_if b (fitted bits (m - n)) ≡ Some k → pos m -ℤ pos n ≡ pos k
    by_test true t e =
        let le : n ≤ m = grind (arith, nat_tests, t) in
        let same = fitted-value bits (m - n) k e in
        omega (arith, ints, le, same)
    by_test false t e = absurd (cc (e))
applied-result times bits m n k h = ap pos (fitted-value bits (m * n) k h)
applied-result divided bits m zero k h = absurd (cc (h))
applied-result divided bits m (suc n) k h = ap pos (fitted-value bits (m / suc n) k h)
applied-result remainder bits m zero k h = absurd (cc (h))
applied-result remainder bits m (suc n) k h = ap pos (fitted-value bits (m % suc n) k h)
applied-result shift_left bits m n k h = ap pos (fitted-value bits (m * 2 ^ n) k (guarded-value (nat_lt n bits) (fitted bits (m * 2 ^ n)) k h))
applied-result shift_right bits m n k h = ap pos (fitted-value bits (m / 2 ^ n) k (guarded-value (nat_lt n bits) (fitted bits (m / 2 ^ n)) k h))
applied-result bits_and bits m n k h = ap pos (fitted-value bits (bit_and m n) k h)
applied-result bits_or bits m n k h = ap pos (fitted-value bits (bit_or m n) k h)
applied-result bits_xor bits m n k h = ap pos (fitted-value bits (bit_xor m n) k h)
applied-result mod_plus bits m n k h = ap pos (some-value ((m + n) % 2 ^ bits) k h)
applied-result mod_minus bits m n k h = ap pos (some-value ((m + (2 ^ bits - n)) % 2 ^ bits) k h)
applied-result mod_times bits m n k h = ap pos (some-value ((m * n) % 2 ^ bits) k h)
applied-result mod_shift_left bits m n k h = ap pos (some-value ((m * 2 ^ n) % 2 ^ bits) k (guarded-value (nat_lt n bits) (Some ((m * 2 ^ n) % 2 ^ bits)) k h))
applied-result sat_plus bits m n k h = ap pos (some-value (min (m + n) (2 ^ bits - 1)) k h)
applied-result sat_minus bits m n k h = ap pos (some-value (m - n) k h)
