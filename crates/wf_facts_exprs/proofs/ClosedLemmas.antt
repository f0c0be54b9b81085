-- One place leaves the list of a set.
use Rattle.std.proofs.Common.{◌≡◌, ℕ, zero, suc, ◌+◌, ◌-◌, ◌*◌, ◌/◌, ◌%◌, ◌^◌, ◌<◌, ◌≤◌, max, min, Bool, true, false, ◌⊎◌, inl, inr, List, [], ◌∷◌, length, refl, sym, ap, ◌∙◌, arith}
use Rattle.std.specs.Prelude.{slice_index, slice_set, bit_and, bit_or, nat_eq}
use Rattle.std.specs.Int.{w64, bit_at}
use Rattle.std.proofs.lemmas.Nat.Bits.{bit_at-zero, bit_at-lt, bit_at_lowest, bit_at-suc, bit_at_above, bit_at_ones, bit_at_ones_above, bit_at_and, bit_at_or, bit_at_not, bit_at_cat_low, bit_at_cat_high}
use Rattle.std.proofs.lemmas.Nat.{one_shl}
use Rattle.std.proofs.lemmas.List.{get_or-set_same, get_or-set_other}
use Rattle.std.proofs.lemmas.Bool.{cases_eq, cases_lt}
use Rattle.wf_facts_exprs.specs.Sets.{member, members, marked, IsSetOf, unmarked}
use Rattle.wf_facts_exprs.proofs.SetLemmas.{length-members, marked_members, marked_past}

-- ---- a word

abbrev pub shifted_word : (word behind : ℕ) → ℕ
shifted_word word behind = bit_or (word / 2) (behind * 9223372036854775808 % 18446744073709551616)

top_bit : (behind : ℕ) → behind * 9223372036854775808 % 18446744073709551616 ≡ (behind % 2) * 2 ^ 63 + 0
top_bit behind = omega arith

max_left : (a b : ℕ) → b ≡ 0 → max a b ≡ a
max_left a b h = omega (arith, h)

max_right : (a b : ℕ) → a ≡ 0 → max a b ≡ b
max_right a b h = omega (arith, h)

pub shifted_low : (word behind i : ℕ) → i < 63 → bit_at (shifted_word word behind) i ≡ bit_at word (i + 1)
shifted_low word behind i h =
    let none : bit_at (behind * 9223372036854775808 % 18446744073709551616) i ≡ 0 = ap (λ n. bit_at n i) (top_bit behind) ∙ bit_at_cat_low (behind % 2) 63 0 i h ∙ bit_at-zero i in
    let e : suc i ≡ i + 1 = omega arith in
    bit_at_or (word / 2) (behind * 9223372036854775808 % 18446744073709551616) i ∙ max_left _ _ none ∙ sym (bit_at-suc word i) ∙ ap (bit_at word) e

pub shifted_top : (word behind : ℕ) → word < 18446744073709551616 → bit_at (shifted_word word behind) 63 ≡ bit_at behind 0
shifted_top word behind few =
    let low : word / 2 < 2 ^ 63 = omega (arith, few) in
    let none : bit_at (word / 2) 63 ≡ 0 = bit_at_above (word / 2) 63 63 low (omega arith) in
    let half : behind % 2 < 2 ^ 63 = omega arith in
    let one : bit_at (behind % 2) 0 ≡ bit_at behind 0 = bit_at_lowest (behind % 2) ∙ omega arith ∙ sym (bit_at_lowest behind) in
    bit_at_or (word / 2) (behind * 9223372036854775808 % 18446744073709551616) 63 ∙ max_right _ _ none
    ∙ ap (λ n. bit_at n 63) (top_bit behind) ∙ bit_at_cat_high (behind % 2) 63 0 63 (omega arith) (omega arith) ∙ one

-- The low bits of one word, and the others of another.
abbrev pub low_mask : ℕ → ℕ
low_mask p = 1 * 2 ^ p % 18446744073709551616 - 1

abbrev pub joined_word : (low high p : ℕ) → ℕ
joined_word low high p = bit_or (bit_and low (low_mask p)) (bit_and high (18446744073709551615 - low_mask p))

mask_is : (p : ℕ) → p < 64 → low_mask p ≡ 2 ^ p - 1
mask_is p h = ap (λ n. n - 1) (one_shl p 64 h)

pick_left : (a b m n : ℕ) → a < 2 → m ≡ 1 → n ≡ 0 → max (min a m) (min b n) ≡ a
pick_left a b m n h i j = omega (arith, h, i, j)

pick_right : (a b m n : ℕ) → b < 2 → m ≡ 0 → n ≡ 1 → max (min a m) (min b n) ≡ b
pick_right a b m n h i j = omega (arith, h, i, j)

module _ (low high p : ℕ) (few : p < 64) where
  masked : (i : ℕ) → i < 64 → bit_at (18446744073709551615 - low_mask p) i ≡ 1 - bit_at (low_mask p) i
  masked i h = bit_at_not w64 (low_mask p) i (omega arith) h

  joined_bits : (i : ℕ) → bit_at (joined_word low high p) i ≡ max (min (bit_at low i) (bit_at (low_mask p) i)) (min (bit_at high i) (bit_at (18446744073709551615 - low_mask p) i))
  joined_bits i =
      bit_at_or (bit_and low (low_mask p)) (bit_and high (18446744073709551615 - low_mask p)) i
      ∙ ap (λ n. max n (bit_at (bit_and high (18446744073709551615 - low_mask p)) i)) (bit_at_and low (low_mask p) i)
      ∙ ap (max (min (bit_at low i) (bit_at (low_mask p) i))) (bit_at_and high (18446744073709551615 - low_mask p) i)

  pub joined_low : (i : ℕ) → i < p → bit_at (joined_word low high p) i ≡ bit_at low i
  joined_low i h =
      let one : bit_at (low_mask p) i ≡ 1 = ap (λ n. bit_at n i) (mask_is p few) ∙ bit_at_ones p i h in
      let none : bit_at (18446744073709551615 - low_mask p) i ≡ 0 = masked i (omega (arith, h, few)) ∙ ap (λ n. 1 - n) one in
      joined_bits i ∙ pick_left _ _ _ _ (bit_at-lt low i) one none

  pub joined_high : (i : ℕ) → p ≤ i → i < 64 → bit_at (joined_word low high p) i ≡ bit_at high i
  joined_high i h within =
      let none : bit_at (low_mask p) i ≡ 0 = ap (λ n. bit_at n i) (mask_is p few) ∙ bit_at_ones_above p i h in
      let one : bit_at (18446744073709551615 - low_mask p) i ≡ 1 = masked i within ∙ ap (λ n. 1 - n) none in
      joined_bits i ∙ pick_right _ _ _ _ (bit_at-lt high i) none one

-- ---- all words

past_words : (words : List ℕ) (j : ℕ) → length words ≤ j → slice_index words j ≡ 0
past_words [] j h = refl
past_words (w ∷ ws) zero h = absurd (omega (arith, h))
past_words (w ∷ ws) (suc j) h = past_words ws j (omega (arith, h))

none_past : (words : List ℕ) → length words ≡ 8 → member words 512 ≡ false
unfolding member
none_past words eight = ap (λ w. nat_eq (bit_at w 0) 1) (past_words words 8 (omega (arith, eight))) ∙ ap (λ b. nat_eq b 1) (bit_at-zero 0)

module _ (words made : List ℕ) (place : ℕ) (low : place < 512) (long : length made ≡ 8) (fits : (j : ℕ) → slice_index words j < 18446744073709551616)
    (done : (j : ℕ) → place / 64 ≤ j → j < 8 → slice_index made j ≡ shifted_word (slice_index words j) (slice_index words (j + 1))) (rest : (j : ℕ) → j < place / 64 → slice_index made j ≡ slice_index words j) where
  abbrev pub closed : List ℕ
  closed = slice_set made (place / 64) (joined_word (slice_index words (place / 64)) (slice_index made (place / 64)) (place % 64))

  in_place : (k : ℕ) → k / 64 ≡ place / 64 → slice_index closed (k / 64) ≡ joined_word (slice_index words (place / 64)) (slice_index made (place / 64)) (place % 64)
  in_place k same = rw same (get_or-set_same made (place / 64) _ 0 (omega (arith, low, long)))

  elsewhere : (k : ℕ) → (k / 64 ≡ place / 64 → ⊥) → slice_index closed (k / 64) ≡ slice_index made (k / 64)
  elsewhere k other = get_or-set_other made (place / 64) (k / 64) _ 0 other

  next_bit : (k : ℕ) → k < 512 → (k % 64 < 63) ⊎ (63 ≤ k % 64) → bit_at (shifted_word (slice_index words (k / 64)) (slice_index words (k / 64 + 1))) (k % 64) ≡ bit_at (slice_index words ((k + 1) / 64)) ((k + 1) % 64)
  next_bit k h (inl l) =
      let a : (k + 1) / 64 ≡ k / 64 = omega (arith, l) in
      let b : (k + 1) % 64 ≡ k % 64 + 1 = omega (arith, l) in
      shifted_low (slice_index words (k / 64)) (slice_index words (k / 64 + 1)) (k % 64) l ∙ sym (ap (λ j. bit_at (slice_index words j) ((k + 1) % 64)) a ∙ ap (bit_at (slice_index words (k / 64))) b)
  next_bit k h (inr l) =
      let top : k % 64 ≡ 63 = omega (arith, l) in
      let a : (k + 1) / 64 ≡ k / 64 + 1 = omega (arith, l) in
      let b : (k + 1) % 64 ≡ 0 = omega (arith, l) in
      ap (bit_at (shifted_word (slice_index words (k / 64)) (slice_index words (k / 64 + 1)))) top ∙ shifted_top (slice_index words (k / 64)) (slice_index words (k / 64 + 1)) (fits (k / 64))
      ∙ sym (ap (λ j. bit_at (slice_index words j) ((k + 1) % 64)) a ∙ ap (bit_at (slice_index words (k / 64 + 1))) b)

  pub closed_before : (k : ℕ) → k < place → member closed k ≡ member words k
  unfolding member
  closed_before k h = by (cases_eq (k / 64) (place / 64))
    where
      by : (k / 64 ≡ place / 64) ⊎ (k / 64 ≡ place / 64 → ⊥) → nat_eq (bit_at (slice_index closed (k / 64)) (k % 64)) 1 ≡ nat_eq (bit_at (slice_index words (k / 64)) (k % 64)) 1
      by (inl same) =
          ap (λ b. nat_eq b 1) (ap (λ w. bit_at w (k % 64)) (in_place k same) ∙ joined_low (slice_index words (place / 64)) (slice_index made (place / 64)) (place % 64) (omega arith) (k % 64) (omega (arith, same, h))
          ∙ ap (λ j. bit_at (slice_index words j) (k % 64)) (sym same))
      by (inr other) = ap (λ w. nat_eq (bit_at w (k % 64)) 1) (elsewhere k other ∙ rest (k / 64) (omega (arith, other, h)))

  pub closed_behind : (k : ℕ) → place ≤ k → k < 512 → member closed k ≡ member words (k + 1)
  unfolding member
  closed_behind k h within = by (cases_eq (k / 64) (place / 64))
    where
      shifted : slice_index made (k / 64) ≡ shifted_word (slice_index words (k / 64)) (slice_index words (k / 64 + 1))
      shifted = done (k / 64) (omega (arith, h)) (omega (arith, within))

      by : (k / 64 ≡ place / 64) ⊎ (k / 64 ≡ place / 64 → ⊥) → nat_eq (bit_at (slice_index closed (k / 64)) (k % 64)) 1 ≡ nat_eq (bit_at (slice_index words ((k + 1) / 64)) ((k + 1) % 64)) 1
      by (inl same) =
          ap (λ b. nat_eq b 1) (ap (λ w. bit_at w (k % 64)) (in_place k same) ∙ joined_high (slice_index words (place / 64)) (slice_index made (place / 64)) (place % 64) (omega arith) (k % 64) (omega (arith, same, h)) (omega arith)
          ∙ ap (λ w. bit_at w (k % 64)) (ap (slice_index made) (sym same) ∙ shifted) ∙ next_bit k within (cases_lt (k % 64) 63))
      by (inr other) = ap (λ b. nat_eq b 1) (ap (λ w. bit_at w (k % 64)) (elsewhere k other ∙ shifted) ∙ next_bit k within (cases_lt (k % 64) 63))

  pub closed_last : length words ≡ 8 → member closed 511 ≡ false
  closed_last eight = closed_behind 511 (omega (arith, low)) (omega arith) ∙ none_past words eight

-- ---- what leaves and what stays

-- Where one item is marked, those before it stay where they are and those behind it move one down.
one-before : (ms xs : List Bool) (p k : ℕ) → ((i : ℕ) → i < p → marked ms i ≡ false) → k < p → marked (unmarked ms xs) k ≡ marked xs k
one-before [] xs p k none h = refl
one-before (m ∷ ms) [] p k none h = refl
one-before (m ∷ ms) (x ∷ xs) zero k none h = absurd (omega (arith, h))
one-before (true ∷ ms) (x ∷ xs) (suc p) k none h = absurd (cc (none 0 (omega arith)))
one-before (false ∷ ms) (x ∷ xs) (suc p) zero none h = refl
one-before (false ∷ ms) (x ∷ xs) (suc p) (suc k) none h = one-before ms xs p k (λ i l. none (suc i) (omega (arith, l))) (omega (arith, h))

none-marked : (ms xs : List Bool) → ((i : ℕ) → marked ms i ≡ false) → unmarked ms xs ≡ xs
none-marked [] xs h = refl
none-marked (m ∷ ms) [] h = refl
none-marked (true ∷ ms) (x ∷ xs) h = absurd (cc (h 0))
none-marked (false ∷ ms) (x ∷ xs) h = ap (λ ys. x ∷ ys) (none-marked ms xs (λ i. h (suc i)))

one-behind : (ms xs : List Bool) (p k : ℕ) → ((i : ℕ) → i < p → marked ms i ≡ false) → marked ms p ≡ true → ((i : ℕ) → p < i → marked ms i ≡ false) → p ≤ k → marked (unmarked ms xs) k ≡ marked xs (suc k)
one-behind [] xs p k none here later h = absurd (cc (here))
one-behind (m ∷ ms) [] p k none here later h = refl
one-behind (true ∷ ms) (x ∷ xs) zero k none here later h = ap (λ ys. marked ys k) (none-marked ms xs (λ i. later (suc i) (omega arith)))
one-behind (false ∷ ms) (x ∷ xs) zero k none here later h = absurd (cc (here))
one-behind (true ∷ ms) (x ∷ xs) (suc p) k none here later h = absurd (cc (none 0 (omega arith)))
one-behind (false ∷ ms) (x ∷ xs) (suc p) zero none here later h = absurd (omega (arith, h))
one-behind (false ∷ ms) (x ∷ xs) (suc p) (suc k) none here later h =
    one-behind ms xs p k (λ i l. none (suc i) (omega (arith, l))) here (λ i l. later (suc i) (omega (arith, l))) (omega (arith, h))

module _ (dropped own after : List ℕ) (first n : ℕ) (few : n ≤ 512) (within : first < n) (here : member dropped first ≡ true) (before : (k : ℕ) → k < first → member dropped k ≡ false) (behind : (k : ℕ) → first < k → k < n → member dropped k ≡ false)
    (kept : (k : ℕ) → k < first → member after k ≡ member own k) (moved : (k : ℕ) → first ≤ k → k < 511 → member after k ≡ member own (k + 1)) (last : member after 511 ≡ false) where
  later : (i : ℕ) → first < i → (i < n) ⊎ (n ≤ i) → marked (members dropped n) i ≡ false
  later i l (inl h) = marked_members dropped n i h ∙ behind i l h
  later i l (inr h) = marked_past (members dropped n) i (omega (arith, h, length-members dropped n))

  next_mark : (marks : List Bool) → length marks ≡ n → IsSetOf own marks → (k : ℕ) → first ≤ k → k < 512 → (k < 511) ⊎ (511 ≤ k) → member after k ≡ marked marks (suc k)
  next_mark marks long set k a h (inl l) = let e : k + 1 ≡ suc k = omega arith in moved k a l ∙ set.at (k + 1) (omega (arith, l)) ∙ ap (marked marks) e
  next_mark marks long set k a h (inr l) =
      let e : k ≡ 511 = omega (arith, h, l) in
      ap (member after) e ∙ last ∙ sym (marked_past marks (suc k) (omega (arith, long, few, l)))

  pub Leaves-closed : (marks : List Bool) → length marks ≡ n → IsSetOf own marks → IsSetOf after (unmarked (members dropped n) marks)
  Leaves-closed marks long set = record { at = λ k h. by k h (cases_lt k first) }
    where
      start : (i : ℕ) → i < first → marked (members dropped n) i ≡ false
      start i l = marked_members dropped n i (omega (arith, l, within)) ∙ before i l

      by : (k : ℕ) → k < 512 → (k < first) ⊎ (first ≤ k) → member after k ≡ marked (unmarked (members dropped n) marks) k
      by k h (inl l) = kept k l ∙ set.at k h ∙ sym (one-before (members dropped n) marks first k start l)
      by k h (inr l) =
          next_mark marks long set k l h (cases_lt k 511)
          ∙ sym (one-behind (members dropped n) marks first k start (marked_members dropped n first within ∙ here) (λ i m. later i m (cases_lt i n)) l)
