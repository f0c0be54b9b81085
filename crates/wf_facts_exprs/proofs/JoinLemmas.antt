-- What one set has and another doesn't, and what either has.
use Rattle.std.proofs.Common.{◌≡◌, ℕ, zero, suc, ◌+◌, ◌-◌, ◌/◌, ◌%◌, ◌^◌, ◌<◌, ◌≤◌, max, min, true, false, not, ◌&&◌, ◌||◌, ◌⊎◌, inl, inr, List, [], ◌∷◌, length, refl, sym, ap, ◌∙◌, subst, arith}
use Rattle.std.specs.Prelude.{slice_index, bit_and, bit_or, nat_eq}
use Rattle.std.specs.Int.{w64, bit_at, trailing_zeros}
use Rattle.std.proofs.lemmas.Nat.Bits.{bit_at-zero, bit_at-lt, bit_at_and, bit_at_or, bit_at_not}
use Rattle.std.proofs.lemmas.Bool.{cases_lt}
use Rattle.wf_facts_exprs.specs.Sets.{member}
use Rattle.wf_facts_exprs.proofs.SetLemmas.{IsFirst, first_in_word, none_in_word}

-- ---- a set without another

abbrev pub but : (words gone : List ℕ) → List ℕ
but [] gone = []
but (w ∷ ws) [] = w ∷ but ws []
but (w ∷ ws) (g ∷ gs) = bit_and w (18446744073709551615 - g) ∷ but ws gs

pub but_at : (words gone : List ℕ) (j : ℕ) → j < length words → j < length gone → slice_index (but words gone) j ≡ bit_and (slice_index words j) (18446744073709551615 - slice_index gone j)
but_at [] gone j h k = absurd (omega (arith, h))
but_at (w ∷ ws) [] j h k = absurd (omega (arith, k))
but_at (w ∷ ws) (g ∷ gs) zero h k = refl
but_at (w ∷ ws) (g ∷ gs) (suc j) h k = but_at ws gs j (omega (arith, h)) (omega (arith, k))

bit_but : (a b : ℕ) → a < 2 → b < 2 → nat_eq (min a (1 - b)) 1 ≡ (nat_eq a 1 && not (nat_eq b 1))
bit_but zero zero h k = refl
bit_but zero (suc zero) h k = refl
bit_but (suc zero) zero h k = refl
bit_but (suc zero) (suc zero) h k = refl
bit_but (suc (suc a)) b h k = absurd (omega (arith, h))
bit_but a (suc (suc b)) h k = absurd (omega (arith, k))

past_words : (words : List ℕ) (j : ℕ) → length words ≤ j → slice_index words j ≡ 0
past_words [] j h = refl
past_words (w ∷ ws) zero h = absurd (omega (arith, h))
past_words (w ∷ ws) (suc j) h = past_words ws j (omega (arith, h))

member_past : (words : List ℕ) (k : ℕ) → length words ≡ 8 → 512 ≤ k → member words k ≡ false
unfolding member
member_past words k eight h = ap (λ w. nat_eq (bit_at w (k % 64)) 1) (past_words words (k / 64) (omega (arith, eight, h))) ∙ ap (λ b. nat_eq b 1) (bit_at-zero (k % 64))

length-but : (words gone : List ℕ) → length (but words gone) ≡ length words
length-but [] gone = refl
length-but (w ∷ ws) [] = ap suc (length-but ws [])
length-but (w ∷ ws) (g ∷ gs) = ap suc (length-but ws gs)

module _ (words gone : List ℕ) (eight : length words ≡ 8) (also : length gone ≡ 8) (fits : (j : ℕ) → slice_index gone j < 18446744073709551616) where
  member_within : (k : ℕ) → k < 512 → member (but words gone) k ≡ (member words k && not (member gone k))
  unfolding member
  member_within k h =
      let w = slice_index words (k / 64) in
      let g = slice_index gone (k / 64) in
      let i = k % 64 in
      ap (λ v. nat_eq (bit_at v (k % 64)) 1) (but_at words gone (k / 64) (omega (arith, h, eight)) (omega (arith, h, also)))
      ∙ ap (λ b. nat_eq b 1) (bit_at_and w (18446744073709551615 - g) i ∙ ap (min (bit_at w i)) (bit_at_not w64 g i (fits (k / 64)) (omega arith)))
      ∙ bit_but (bit_at w i) (bit_at g i) (bit_at-lt w i) (bit_at-lt g i)

  pub member_but : (k : ℕ) → member (but words gone) k ≡ (member words k && not (member gone k))
  member_but k = by (cases_lt k 512)
    where
      by : (k < 512) ⊎ (512 ≤ k) → member (but words gone) k ≡ (member words k && not (member gone k))
      by (inl h) = member_within k h
      by (inr h) = member_past (but words gone) k (length-but words gone ∙ eight) h ∙ sym (ap (λ m. m && not (member gone k)) (member_past words k eight h))

  -- The first place of the one that the other doesn't have.
  pub record IsFirstBut (from at : ℕ) : Type 0 where
    pub before : (k : ℕ) → from ≤ k → k < at → (member words k && not (member gone k)) ≡ false
    pub here : (member words at && not (member gone at)) ≡ true

  abbrev word_but : ℕ → ℕ
  word_but i = bit_and (slice_index words (i / 64)) (18446744073709551615 - slice_index gone (i / 64))

  same_word : (i : ℕ) → i < 512 → slice_index (but words gone) (i / 64) ≡ word_but i
  same_word i h = but_at words gone (i / 64) (omega (arith, h, eight)) (omega (arith, h, also))

  pub first_in_both : (i : ℕ) → i < 512 → 0 < word_but i / 2 ^ (i % 64) → word_but i < 18446744073709551616 → IsFirstBut i (i + trailing_zeros w64 (word_but i / 2 ^ (i % 64)))
  first_in_both i h some few =
      let same = same_word i h in
      let P : ℕ → Type 0 = λ w. 0 < w / 2 ^ (i % 64) in
      let Q : ℕ → Type 0 = λ w. w < 18446744073709551616 in
      let R : ℕ → Type 0 = λ w. IsFirst (but words gone) i (i + trailing_zeros w64 (w / 2 ^ (i % 64))) in
      let found = subst R same (first_in_word (but words gone) i (subst P (sym same) some) (subst Q (sym same) few)) in
      record { before = λ k a b. sym (member_but k) ∙ found.before k a b; here = sym (member_but (i + trailing_zeros w64 (word_but i / 2 ^ (i % 64)))) ∙ found.here }

  pub none_in_both : (i : ℕ) → i < 512 → word_but i / 2 ^ (i % 64) ≡ 0 → (k : ℕ) → i ≤ k → k < i + (64 - i % 64) → (member words k && not (member gone k)) ≡ false
  none_in_both i h none k a b =
      let P : ℕ → Type 0 = λ w. w / 2 ^ (i % 64) ≡ 0 in
      sym (member_but k) ∙ none_in_word (but words gone) i (subst P (sym (same_word i h)) none) k a b

pub first_after_both : (words gone : List ℕ) (from i at : ℕ) → ((k : ℕ) → from ≤ k → k < i → (member words k && not (member gone k)) ≡ false) → ((k : ℕ) → i ≤ k → k < at → (member words k && not (member gone k)) ≡ false)
    → (k : ℕ) → from ≤ k → k < at → (member words k && not (member gone k)) ≡ false
first_after_both words gone from i at before next k a b = by (cases_lt k i)
  where
    by : (k < i) ⊎ (i ≤ k) → (member words k && not (member gone k)) ≡ false
    by (inl l) = before k a l
    by (inr l) = next k l b

-- ---- both sets

bit_or_is : (a b : ℕ) → a < 2 → b < 2 → nat_eq (max a b) 1 ≡ (nat_eq a 1 || nat_eq b 1)
bit_or_is zero zero h k = refl
bit_or_is zero (suc zero) h k = refl
bit_or_is (suc zero) zero h k = refl
bit_or_is (suc zero) (suc zero) h k = refl
bit_or_is (suc (suc a)) b h k = absurd (omega (arith, h))
bit_or_is a (suc (suc b)) h k = absurd (omega (arith, k))

pub member_join : (words other made : List ℕ) (k : ℕ) → slice_index made (k / 64) ≡ bit_or (slice_index words (k / 64)) (slice_index other (k / 64)) → member made k ≡ (member words k || member other k)
unfolding member
member_join words other made k is =
    let a = slice_index words (k / 64) in
    let b = slice_index other (k / 64) in
    ap (λ w. nat_eq (bit_at w (k % 64)) 1) is ∙ ap (λ b. nat_eq b 1) (bit_at_or a b (k % 64)) ∙ bit_or_is (bit_at a (k % 64)) (bit_at b (k % 64)) (bit_at-lt a (k % 64)) (bit_at-lt b (k % 64))
