-- Ranges of whole numbers: what a range holds, and the range that each operator gives for the ranges of its operands.
-- A range whose lower end is above its upper end holds nothing. Every range without numbers that an operator gives is
-- the same one, `nothing`.
use Rattle.std.specs.Prelude.{ℕ, zero, suc, ◌+◌, ◌-◌, ◌*◌, ◌/◌, ◌^◌, ◌<◌, ◌≤◌, ◌≡◌, ◌⊎◌, min, max, Bool, true, ◌&&◌, ◌||◌, if◌then◌else◌, nat_lt, ℤ, pos, negsuc, ◌+ℤ◌, ◌-ℤ◌, ◌≤ℤ◌, int_lt, int_le, bit_and, bit_or}
use Rattle.std.specs.Int.{int_max}
use Rattle.wf_num.specs.declared.ranges.Range.{Range}
use Rattle.wf_num.specs.Extremes.{greatest, least}

-- The range from lo to hi.
abbrev pub range : ℤ → ℕ → Range
range lo hi = record { lo = lo; hi = hi }

-- The range that holds nothing.
abbrev pub nothing : Range
nothing = range (pos 1) 0

abbrev pub is_empty : Range → Bool
is_empty r = int_lt (pos r.hi) r.lo

-- r holds the natural number n.
pub record Holds (r : Range) (n : ℕ) : Type 0 where
  pub above : r.lo ≤ℤ pos n
  pub below : n ≤ r.hi

-- r holds the whole number z, which may be negative.
pub record HoldsInt (r : Range) (z : ℤ) : Type 0 where
  pub above : r.lo ≤ℤ z
  pub below : z ≤ℤ pos r.hi

-- The range is empty, or its ends have a place in 64 bits, without a sign.
abbrev pub IsSmall : Range → Type 0
IsSmall r = (is_empty r ≡ true) ⊎ ((pos 0 ≤ℤ r.lo) × (r.hi < 2 ^ 64))

-- An end as a natural number: 0 where it is negative.
abbrev pub low : ℤ → ℕ
low (pos n) = n
low (negsuc n) = 0

-- An operator with an empty operand has an empty range.
abbrev pub unless_empty : Range → Range → Range → Range
unless_empty a b r = if is_empty a || is_empty b then nothing else r

-- The range of one number, and that of all numbers of so many bits.
abbrev pub exact_range : ℕ → Range
exact_range n = range (pos n) n

abbrev pub width_range : ℕ → Range
width_range bits = range (pos 0) (2 ^ bits - 1)

-- Every number of the range has at most so many bits, and none is negative.
abbrev pub fits_width : Range → ℕ → Bool
fits_width r bits = is_empty r || (int_le (pos 0) r.lo && nat_lt r.hi (2 ^ bits))

-- `a + b`: the sums of the ends.
abbrev pub add_ranges : Range → Range → Range
add_ranges a b = unless_empty a b (range (a.lo +ℤ b.lo) (a.hi + b.hi))

-- `a - b`: lo(a) - hi(b), perhaps negative, to hi(a) - lo(b), or to 0 where that is negative.
abbrev pub sub_ranges : Range → Range → Range
sub_ranges a b = unless_empty a b (range (a.lo -ℤ pos b.hi) (a.hi - low b.lo))

-- `a * b`: the products of the ends; a lower end above 2^127 - 1 is given as 2^127 - 1.
abbrev pub mul_ranges : Range → Range → Range
mul_ranges a b = unless_empty a b (range (pos (min (low a.lo * low b.lo) (2 ^ 127 - 1))) (a.hi * b.hi))

-- `a / b`: lo(a) / hi(b) to hi(a) / lo(b).
abbrev pub div_ranges : Range → Range → Range
div_ranges a b = unless_empty a b (range (pos (low a.lo / b.hi)) (a.hi / low b.lo))

-- `a % b`: 0 to the lesser of hi(a) and hi(b) - 1.
abbrev pub rem_ranges : Range → Range → Range
rem_ranges a b = unless_empty a b (range (pos 0) (min a.hi (b.hi - 1)))

-- n shifted left, and right, by k bits.
abbrev pub shift_left : ℕ → ℕ → ℕ
shift_left n k = n * 2 ^ k

abbrev pub shift_right : ℕ → ℕ → ℕ
shift_right n k = n / 2 ^ k

-- `a << b`: lo(a) << lo(b) to hi(a) << hi(b).
abbrev pub shl_ranges : Range → Range → Range
shl_ranges a b = unless_empty a b (range (pos (shift_left (low a.lo) (low b.lo))) (shift_left a.hi b.hi))

-- `a >> b`: lo(a) >> hi(b) to hi(a) >> lo(b).
abbrev pub shr_ranges : Range → Range → Range
shr_ranges a b = unless_empty a b (range (pos (shift_right (low a.lo) b.hi)) (shift_right a.hi (low b.lo)))

-- The values of `op` with a left operand of the one range and a right operand of the other, the least and the greatest of them.
abbrev pub tight : (ℕ → ℕ → ℕ) → Range → Range → Range
tight op a b =
    unless_empty a b (range (pos (least op (low a.lo) a.hi (low b.lo) b.hi)) (greatest op (low a.lo) a.hi (low b.lo) b.hi))

-- `a & b` and `a | b`: the least to the greatest value.
abbrev pub and_ranges : Range → Range → Range
and_ranges a b = tight bit_and a b

abbrev pub or_ranges : Range → Range → Range
or_ranges a b = tight bit_or a b

-- The least of 2^0 - 1, 2^1 - 1, .. 2^most - 1 that is not below n; the last of them where each is below n.
unfoldable pub least_ones : (most n : ℕ) → ℕ
least_ones zero n = 0
least_ones (suc most) n = if nat_lt n (2 ^ most) then least_ones most n else 2 ^ suc most - 1

-- r is the least number of the form 2^k - 1 that is not below n.
pub record IsLeastOnes (n r : ℕ) : Type 0 where
  pub k : ℕ
  pub is : r ≡ 2 ^ k - 1
  pub over : n ≤ r
  pub least : (j : ℕ) → n ≤ 2 ^ j - 1 → r ≤ 2 ^ j - 1

-- `a ^ b`: 0 to the least 2^k - 1 that is not below hi(a) and hi(b).
abbrev pub xor_ranges : Range → Range → Range
xor_ranges a b = unless_empty a b (range (pos 0) (least_ones 64 (max a.hi b.hi)))

-- The numbers that both ranges hold.
abbrev pub meet_ranges : Range → Range → Range
meet_ranges a b =
    let both : Range = range (int_max a.lo b.lo) (min a.hi b.hi) in if is_empty both then nothing else both

-- Some number of each range is an operand of the value n of `op`.
pub record Reaches (op : ℕ → ℕ → ℤ) (a b : Range) (n : ℤ) : Type 0 where
  pub x : ℕ
  pub y : ℕ
  pub x_in : Holds a x
  pub y_in : Holds b y
  pub is : op x y ≡ n

-- r is no wider than it has to be: where both operands have numbers, each end of r is a value of `op`.
pub record IsNoWider (op : ℕ → ℕ → ℕ) (a b r : Range) : Type 0 where
  pub least : (x y : ℕ) → Holds a x → Holds b y → Reaches (λ p q. pos (op p q)) a b r.lo
  pub greatest : (x y : ℕ) → Holds a x → Holds b y → Reaches (λ p q. pos (op p q)) a b (pos r.hi)
