-- Sets of places: how their members change.
use Rattle.std.proofs.Common.{subst, ◌≡◌, ℕ, zero, suc, ◌+◌, ◌-◌, ◌*◌, ◌/◌, ◌%◌, ◌^◌, ◌<◌, ◌≤◌, Bool, true, false, ◌&&◌, ◌||◌, ◌⊎◌, inl, inr, List, [], ◌∷◌, ◌++◌, length, get_or, take, refl, sym, ap, ◌∙◌, arith, length-append, div-le_self}
use Rattle.std.specs.Prelude.{nat_eq, slice_index, slice_set, bit_and, bit_or, replicate}
use Rattle.std.specs.Int.{w64, bit_at, trailing_zeros}
use Rattle.std.proofs.lemmas.Nat.{shr-shr}
use Rattle.std.proofs.lemmas.Nat.Bits.{bit_at-zero, bit_at_above, bit_at-trailing_zeros, shr_and_one, bit_at_set_same, bit_at_set_other}
use Rattle.std.proofs.lemmas.List.{get_or-set_same, get_or-set_other, append-nil, take_all}
use Rattle.std.proofs.lemmas.Bool.{cases_eq, cases_lt, eq-eqb, ne_eqb}
use Rattle.wf_facts_exprs.specs.Sets.{member, members, marked, IsSetOf, unmarked, staying, ArePlaces}

abbrev zeros : ℕ → List ℕ
zeros n = replicate n 0

zeros_at : (n j : ℕ) → get_or (zeros n) j 0 ≡ 0
zeros_at zero j = refl
zeros_at (suc n) zero = refl
zeros_at (suc n) (suc j) = zeros_at n j

pub none_in_zeros : (i : ℕ) → member (zeros 8) i ≡ false
unfolding member
none_in_zeros i = rw (zeros_at 8 (i / 64), bit_at-zero (i % 64)) refl

pub empty_set : IsSetOf (zeros 8) []
empty_set = record { at = λ i h. none_in_zeros i }

pub told : (words : List ℕ) (i : ℕ) → nat_eq (bit_and (slice_index words (i / 64) / 2 ^ (i % 64)) 1) 1 ≡ member words i
unfolding member
told words i = rw (shr_and_one (slice_index words (i / 64)) (i % 64)) refl

or_known : (a b : Bool) → a ≡ true → true ≡ (a || b)
or_known a b h = rw h refl

or_other : (a b c : Bool) → a ≡ false → b ≡ c → b ≡ (a || c)
or_other a b c h e = rw h e

module _ (words : List ℕ) (eight : length words ≡ 8) (i : ℕ) (within : i < 512) where
  abbrev written : List ℕ
  written = slice_set words (i / 64) (bit_or (slice_index words (i / 64)) (1 * 2 ^ (i % 64) % 18446744073709551616))

  low : i % 64 < 64
  low = omega arith

  place : i / 64 < length words
  place = omega (arith, eight)

  in_word : (k : ℕ) → k / 64 ≡ i / 64 → slice_index written (k / 64) ≡ bit_or (slice_index words (i / 64)) (1 * 2 ^ (i % 64) % 18446744073709551616)
  in_word k same = rw same (get_or-set_same words (i / 64) _ 0 place)

  same_place : (k : ℕ) → k / 64 ≡ i / 64 → k % 64 ≡ i % 64 → k ≡ i
  same_place k p q = omega (arith, p, q)

  by_bit : (k : ℕ) → k / 64 ≡ i / 64 → (k % 64 ≡ i % 64) ⊎ (k % 64 ≡ i % 64 → ⊥) → member written k ≡ (nat_eq k i || member words k)
  unfolding member
  by_bit k same (inl q) =
      rw (in_word k same, q, bit_at_set_same w64 (slice_index words (i / 64)) (i % 64) low) (or_known (nat_eq k i) _ (eq-eqb k i (same_place k same q)))
  by_bit k same (inr q) =
      rw (in_word k same, bit_at_set_other w64 (slice_index words (i / 64)) (i % 64) low (k % 64) q)
      (or_other (nat_eq k i) _ _ (ne_eqb k i (λ e. q (ap (λ n. n % 64) e))) (rw same refl))

  by_word : (k : ℕ) → (k / 64 ≡ i / 64) ⊎ (k / 64 ≡ i / 64 → ⊥) → member written k ≡ (nat_eq k i || member words k)
  unfolding member
  by_word k (inl same) = by_bit k same (cases_eq (k % 64) (i % 64))
  by_word k (inr other) =
      or_other (nat_eq k i) _ _ (ne_eqb k i (λ e. other (ap (λ n. n / 64) e))) (rw (get_or-set_other words (i / 64) (k / 64) _ 0 other) refl)

  pub inserted : (k : ℕ) → k < 512 → member written k ≡ (nat_eq k i || member words k)
  inserted k h = by_word k (cases_eq (k / 64) (i / 64))

-- A word from the bit of a place on.
shifted : (w a b : ℕ) → bit_at (w / 2 ^ a) b ≡ bit_at w (a + b)
shifted w a b = ap (λ v. v % 2) (shr-shr w a b)

in_shifted : (words : List ℕ) (i k : ℕ) → i ≤ k → k < i + (64 - i % 64) → bit_at (slice_index words (k / 64)) (k % 64) ≡ bit_at (slice_index words (i / 64) / 2 ^ (i % 64)) (k - i)
in_shifted words i k from to =
    let same : k / 64 ≡ i / 64 = omega (arith, from, to) in
    let up : i % 64 + (k - i) ≡ k % 64 = omega (arith, from, to) in
    rw same (ap (bit_at (slice_index words (i / 64))) (sym up) ∙ sym (shifted (slice_index words (i / 64)) (i % 64) (k - i)))

pub none_in_word : (words : List ℕ) (i : ℕ) → slice_index words (i / 64) / 2 ^ (i % 64) ≡ 0 → (k : ℕ) → i ≤ k → k < i + (64 - i % 64) → member words k ≡ false
unfolding member
none_in_word words i none k from to = ap (λ b. nat_eq b 1) (in_shifted words i k from to ∙ ap (λ w. bit_at w (k - i)) none ∙ bit_at-zero (k - i))

-- The first place of a set from another on.
pub record IsFirst (words : List ℕ) (from at : ℕ) : Type 0 where
  pub before : (k : ℕ) → from ≤ k → k < at → member words k ≡ false
  pub here : member words at ≡ true

pub first_in_word : (words : List ℕ) (i : ℕ) → 0 < slice_index words (i / 64) / 2 ^ (i % 64) → slice_index words (i / 64) < 18446744073709551616
    → IsFirst words i (i + trailing_zeros w64 (slice_index words (i / 64) / 2 ^ (i % 64)))
unfolding member
first_in_word words i some fits =
    let w = slice_index words (i / 64) in
    let low : w / 2 ^ (i % 64) < 18446744073709551616 = omega (arith, fits, div-le_self w (2 ^ (i % 64))) in
    let t = trailing_zeros w64 (w / 2 ^ (i % 64)) in
    let found = bit_at-trailing_zeros w64 (w / 2 ^ (i % 64)) some low in
    let one : bit_at w (i % 64 + t) ≡ 1 = sym (shifted w (i % 64) t) ∙ found.1 in
    let inside : i % 64 + t < 64 = by w t fits one (cases_lt (i % 64 + t) 64) in
    record {
      before = λ k from to. ap (λ b. nat_eq b 1) (in_shifted words i k from (omega (arith, inside, to)) ∙ found.2 (k - i) (omega (arith, from, to)));
      here =
          let back : i + t - i ≡ t = omega arith in
          ap (λ b. nat_eq b 1) (in_shifted words i (i + t) (omega arith) (omega (arith, inside)) ∙ ap (bit_at (w / 2 ^ (i % 64))) back ∙ found.1);
    }
  where
    by : (w t : ℕ) → w < 18446744073709551616 → bit_at w (i % 64 + t) ≡ 1 → (i % 64 + t < 64) ⊎ (64 ≤ i % 64 + t) → i % 64 + t < 64
    by w t fits one (inl h) = h
    by w t fits one (inr h) = absurd (omega (arith, one, bit_at_above w 64 (i % 64 + t) fits h))

pub first_after : (words : List ℕ) (from i at : ℕ) → ((k : ℕ) → from ≤ k → k < i → member words k ≡ false) → ((k : ℕ) → i ≤ k → k < at → member words k ≡ false)
    → (k : ℕ) → from ≤ k → k < at → member words k ≡ false
first_after words from i at before next k a b = by (cases_lt k i)
  where
    by : (k < i) ⊎ (i ≤ k) → member words k ≡ false
    by (inl l) = before k a l
    by (inr l) = next k l b

-- Lists of marks.
pub length-members : (words : List ℕ) (n : ℕ) → length (members words n) ≡ n
length-members words zero = refl
length-members words (suc n) = length-append (members words n) (member words n ∷ []) ∙ omega (arith, length-members words n)

marked_here : (ms : List Bool) (b : Bool) → marked (ms ++ b ∷ []) (length ms) ≡ b
marked_here [] b = refl
marked_here (m ∷ ms) b = marked_here ms b

marked_other : (ms : List Bool) (b : Bool) (k : ℕ) → (k ≡ length ms → ⊥) → marked (ms ++ b ∷ []) k ≡ marked ms k
marked_other [] b zero h = absurd (h refl)
marked_other [] b (suc k) h = refl
marked_other (m ∷ ms) b zero h = refl
marked_other (m ∷ ms) b (suc k) h = marked_other ms b k (λ e. h (ap suc e))

pub marked_past : (ms : List Bool) (k : ℕ) → length ms ≤ k → marked ms k ≡ false
marked_past [] k h = refl
marked_past (m ∷ ms) zero h = absurd (omega (arith, h))
marked_past (m ∷ ms) (suc k) h = marked_past ms k (omega (arith, h))

-- One more place.
pub IsSetOf-put : (words written : List ℕ) (ms : List Bool) (b : Bool) → IsSetOf words ms
    → ((k : ℕ) → k < 512 → member written k ≡ ((nat_eq k (length ms) && b) || member words k)) → IsSetOf written (ms ++ b ∷ [])
IsSetOf-put words written ms b set put = record { at = λ i h. by i h (cases_eq i (length ms)) }
  where
    alone : (c : Bool) → (c && b || false) ≡ (c && b)
    alone true = by_b b
      where
        by_b : (d : Bool) → (d || false) ≡ d
        by_b true = refl
        by_b false = refl
    alone false = refl

    by : (i : ℕ) → i < 512 → (i ≡ length ms) ⊎ (i ≡ length ms → ⊥) → member written i ≡ marked (ms ++ b ∷ []) i
    by i h (inl e) =
        let none : member words i ≡ false = set.at i h ∙ marked_past ms i (omega (arith, e)) in
        let here : marked (ms ++ b ∷ []) i ≡ b = ap (marked (ms ++ b ∷ [])) e ∙ marked_here ms b in
        put i h ∙ rw (none, alone (nat_eq i (length ms)), eq-eqb i (length ms) e, here) refl
    by i h (inr n) = put i h ∙ rw (ne_eqb i (length ms) n, marked_other ms b i n) (set.at i h)

pub unmarked-push : {X : Type 0} (ms : List Bool) (xs : List X) (b : Bool) (x : X) → length ms ≡ length xs
    → unmarked (ms ++ b ∷ []) (xs ++ x ∷ []) ≡ unmarked ms xs ++ unmarked (b ∷ []) (x ∷ [])
unmarked-push [] [] true x h = refl
unmarked-push [] [] false x h = refl
unmarked-push [] (y ∷ ys) b x h = absurd (omega (arith, h))
unmarked-push (m ∷ ms) [] b x h = absurd (omega (arith, h))
unmarked-push (true ∷ ms) (y ∷ ys) b x h = unmarked-push ms ys b x (omega (arith, h))
unmarked-push (false ∷ ms) (y ∷ ys) b x h = ap (λ zs. y ∷ zs) (unmarked-push ms ys b x (omega (arith, h)))

pub length-unmarked : {X : Type 0} (ms : List Bool) (xs : List X) → length (unmarked ms xs) ≤ length xs
length-unmarked [] xs = omega arith
length-unmarked (m ∷ ms) [] = omega arith
length-unmarked (true ∷ ms) (x ∷ xs) = omega (arith, length-unmarked ms xs)
length-unmarked (false ∷ ms) (x ∷ xs) = omega (arith, length-unmarked ms xs)

pub unmarked_none : {X : Type 0} (b : Bool) (x : X) → b ≡ true → unmarked (b ∷ []) (x ∷ []) ≡ []
unmarked_none b x h = rw h refl

pub unmarked_one : {X : Type 0} (b : Bool) (x : X) → b ≡ false → unmarked (b ∷ []) (x ∷ []) ≡ x ∷ []
unmarked_one b x h = rw h refl

-- One place more of a set whose places move.
unmarked-more : (dropped own : List ℕ) (i : ℕ)
    → unmarked (members dropped (suc i)) (members own (suc i)) ≡ unmarked (members dropped i) (members own i) ++ unmarked (member dropped i ∷ []) (member own i ∷ [])
unmarked-more dropped own i = unmarked-push (members dropped i) (members own i) (member dropped i) (member own i) (length-members dropped i ∙ sym (length-members own i))

pub staying_counts : (dropped own : List ℕ) (i : ℕ) → staying dropped i ≡ length (unmarked (members dropped i) (members own i))
staying_counts dropped own zero = refl
staying_counts dropped own (suc i) = by (member dropped i) refl (staying_counts dropped own i)
  where
    by : (b : Bool) → member dropped i ≡ b → staying dropped i ≡ length (unmarked (members dropped i) (members own i))
        → staying dropped (suc i) ≡ length (unmarked (members dropped (suc i)) (members own (suc i)))
    by true h before =
        let less : staying dropped (suc i) ≡ staying dropped i = rw h refl in
        let same : unmarked (members dropped (suc i)) (members own (suc i)) ≡ unmarked (members dropped i) (members own i) =
        unmarked-more dropped own i ∙ rw (unmarked_none (member dropped i) (member own i) h) (append-nil _) in
        less ∙ before ∙ sym (ap length same)
    by false h before =
        let more : staying dropped (suc i) ≡ suc (staying dropped i) = rw h refl in
        let longer : unmarked (members dropped (suc i)) (members own (suc i)) ≡ unmarked (members dropped i) (members own i) ++ member own i ∷ [] =
        unmarked-more dropped own i ∙ rw (unmarked_one (member dropped i) (member own i) h) refl in
        let count = length-append (unmarked (members dropped i) (members own i)) (member own i ∷ []) in
        let last : length (unmarked (members dropped i) (members own i) ++ member own i ∷ []) ≡ suc (length (unmarked (members dropped i) (members own i))) = omega (arith, count) in
        more ∙ ap suc before ∙ sym (ap length longer ∙ last)

pub staying_few : (dropped : List ℕ) (i : ℕ) → staying dropped i ≤ i
staying_few dropped i =
    let a = length-unmarked (members dropped i) (members dropped i) in
    let b = length-members dropped i in
    let c = staying_counts dropped dropped i in
    omega (arith, a, b, c)

pub places-more : (dropped places : List ℕ) (i stays : ℕ) → i < length places → stays ≡ staying dropped i → ArePlaces dropped places i → ArePlaces dropped (slice_set places i stays) (i + 1)
places-more dropped places i stays within is so_far k h = by (cases_eq k i)
  where
    by : (k ≡ i) ⊎ (k ≡ i → ⊥) → slice_index (slice_set places i stays) k ≡ staying dropped k
    by (inl e) =
        let P : ℕ → Type 0 = λ j. slice_index (slice_set places i stays) j ≡ staying dropped j in
        subst P (sym e) (get_or-set_same places i stays 0 within ∙ is)
    by (inr e) = get_or-set_other places i k stays 0 e ∙ so_far k (omega (arith, h, e))

pub staying-dropped : (dropped : List ℕ) (i : ℕ) → member dropped i ≡ true → staying dropped i ≡ staying dropped (i + 1)
staying-dropped dropped i h = let e : i + 1 ≡ suc i = omega arith in let less : staying dropped (suc i) ≡ staying dropped i = rw h refl in sym (ap (staying dropped) e ∙ less)

pub staying-kept : (dropped : List ℕ) (i : ℕ) → member dropped i ≡ false → staying dropped i + 1 ≡ staying dropped (i + 1)
staying-kept dropped i h =
    let e : i + 1 ≡ suc i = omega arith in
    let more : staying dropped (suc i) ≡ suc (staying dropped i) = rw h refl in
    let next : staying dropped i + 1 ≡ suc (staying dropped i) = omega arith in
    next ∙ sym (ap (staying dropped) e ∙ more)

-- The set has the places up to `i` as they have moved.
abbrev pub HasMoved : (dropped own moved : List ℕ) → ℕ → Type 0
HasMoved dropped own moved i = IsSetOf moved (unmarked (members dropped i) (members own i))

module _ (dropped own moved : List ℕ) (i : ℕ) (m : HasMoved dropped own moved i) where
  gone : member dropped i ≡ true → HasMoved dropped own moved (suc i)
  gone h =
      let e : unmarked (members dropped (suc i)) (members own (suc i)) ≡ unmarked (members dropped i) (members own i) =
      unmarked-more dropped own i ∙ rw (unmarked_none (member dropped i) (member own i) h) (append-nil _) in
      rw e m

  kept : member dropped i ≡ false → (written : List ℕ) → ((k : ℕ) → k < 512 → member written k ≡ ((nat_eq k (staying dropped i) && member own i) || member moved k))
      → HasMoved dropped own written (suc i)
  kept h written put =
      let e : unmarked (members dropped (suc i)) (members own (suc i)) ≡ unmarked (members dropped i) (members own i) ++ member own i ∷ [] =
      unmarked-more dropped own i ∙ rw (unmarked_one (member dropped i) (member own i) h) refl in
      rw e (IsSetOf-put moved written _ (member own i) m (λ k b. put k b ∙ rw (staying_counts dropped own i) refl))

  absent : member own i ≡ false → HasMoved dropped own moved (suc i)
  absent none = by (member dropped i) refl
    where
      nothing : (e b : Bool) → b ≡ ((e && false) || b)
      nothing true b = refl
      nothing false b = refl

      by : (b : Bool) → member dropped i ≡ b → HasMoved dropped own moved (suc i)
      by true h = gone h
      by false h = kept h moved (λ k low. rw none (nothing (nat_eq k (staying dropped i)) (member moved k)))

  pub HasMoved-gone : member dropped i ≡ true → HasMoved dropped own moved (i + 1)
  HasMoved-gone h = let P : ℕ → Type 0 = HasMoved dropped own moved in let e : suc i ≡ i + 1 = omega arith in subst P e (gone h)

  pub HasMoved-kept : member dropped i ≡ false → member own i ≡ true → (place : ℕ) → place ≡ staying dropped i → (written : List ℕ)
      → ((k : ℕ) → k < 512 → member written k ≡ (nat_eq k place || member moved k)) → HasMoved dropped own written (i + 1)
  HasMoved-kept h present place is written put =
      let P : ℕ → Type 0 = HasMoved dropped own written in
      let e : suc i ≡ i + 1 = omega arith in
      let Q : ℕ → Type 0 = λ p. (k : ℕ) → k < 512 → member written k ≡ (nat_eq k p || member moved k) in
      subst P e (kept h written (λ k low. subst Q is put k low ∙ rw present (alone (nat_eq k (staying dropped i)) (member moved k))))
    where
      alone : (e b : Bool) → (e || b) ≡ ((e && true) || b)
      alone true b = refl
      alone false b = refl

-- Nothing moves where the set has no place.
more-absent : (dropped own moved : List ℕ) (i m : ℕ) → HasMoved dropped own moved i → ((k : ℕ) → i ≤ k → k < i + m → member own k ≡ false) → HasMoved dropped own moved (i + m)
more-absent dropped own moved i zero h none = let P : ℕ → Type 0 = HasMoved dropped own moved in let e : i ≡ i + 0 = omega arith in subst P e h
more-absent dropped own moved i (suc m) h none =
    let P : ℕ → Type 0 = HasMoved dropped own moved in
    let e : suc (i + m) ≡ i + suc m = omega arith in
    subst P e (absent dropped own moved (i + m) (more-absent dropped own moved i m h (λ k a b. none k a (omega (arith, b)))) (none (i + m) (omega arith) (omega arith)))

pub HasMoved-on : (dropped own moved : List ℕ) (i j : ℕ) → i ≤ j → HasMoved dropped own moved i → ((k : ℕ) → i ≤ k → k < j → member own k ≡ false) → HasMoved dropped own moved j
HasMoved-on dropped own moved i j h m none =
    let P : ℕ → Type 0 = HasMoved dropped own moved in
    let e : i + (j - i) ≡ j = omega (arith, h) in
    subst P e (more-absent dropped own moved i (j - i) m (λ k a b. none k a (omega (arith, b, h))))

-- A set of known marks has them as its members.
front-more : (ms : List Bool) (n : ℕ) → n < length ms → take n ms ++ marked ms n ∷ [] ≡ take (suc n) ms
front-more [] n h = absurd (omega (arith, h))
front-more (m ∷ ms) zero h = refl
front-more (m ∷ ms) (suc n) h = ap (λ zs. m ∷ zs) (front-more ms n (omega (arith, h)))

members_front : (words : List ℕ) (ms : List Bool) → IsSetOf words ms → (n : ℕ) → n ≤ length ms → n ≤ 512 → members words n ≡ take n ms
members_front words ms set zero h few = refl
members_front words ms set (suc n) h few =
    rw (members_front words ms set n (omega (arith, h)) (omega (arith, few)), set.at n (omega (arith, few))) (front-more ms n (omega (arith, h)))

pub members_known : (words : List ℕ) (ms : List Bool) → IsSetOf words ms → (n : ℕ) → n ≡ length ms → n ≤ 512 → members words n ≡ ms
members_known words ms set n e few = members_front words ms set n (omega (arith, e)) few ∙ take_all n ms (omega (arith, e))

-- Where nothing is marked, nothing goes.
unmarked-none : (ms xs : List Bool) → ((i : ℕ) → marked xs i ≡ false) → (i : ℕ) → marked (unmarked ms xs) i ≡ false
unmarked-none [] xs h i = h i
unmarked-none (m ∷ ms) [] h i = refl
unmarked-none (true ∷ ms) (x ∷ xs) h i = unmarked-none ms xs (λ j. h (suc j)) i
unmarked-none (false ∷ ms) (x ∷ xs) h zero = h zero
unmarked-none (false ∷ ms) (x ∷ xs) h (suc i) = unmarked-none ms xs (λ j. h (suc j)) i

pub marked_members : (words : List ℕ) (n i : ℕ) → i < n → marked (members words n) i ≡ member words i
marked_members words zero i h = absurd (omega (arith, h))
marked_members words (suc n) i h = by (cases_eq i n) (marked_members words n i)
  where
    e : length (members words n) ≡ n
    e = length-members words n

    by : (i ≡ n) ⊎ (i ≡ n → ⊥) → (i < n → marked (members words n) i ≡ member words i) → marked (members words (suc n)) i ≡ member words i
    by (inl same) below = ap (marked (members words (suc n))) (same ∙ sym e) ∙ marked_here (members words n) (member words n) ∙ ap (member words) (sym same)
    by (inr other) below = marked_other (members words n) (member words n) i (λ q. other (q ∙ e)) ∙ below (omega (arith, h, other))

unmarked-all : {X : Type 0} (ms : List Bool) (xs : List X) → ((i : ℕ) → i < length ms → marked ms i ≡ false) → unmarked ms xs ≡ xs
unmarked-all [] xs h = refl
unmarked-all (m ∷ ms) [] h = refl
unmarked-all (true ∷ ms) (x ∷ xs) h = absurd (cc (h 0 (omega arith)))
unmarked-all (false ∷ ms) (x ∷ xs) h = ap (λ ys. x ∷ ys) (unmarked-all ms xs (λ i l. h (suc i) (omega (arith, l))))

pub all_stay : {X : Type 0} (dropped : List ℕ) (n : ℕ) (xs : List X) → ((k : ℕ) → k < n → member dropped k ≡ false) → unmarked (members dropped n) xs ≡ xs
all_stay dropped n xs none =
    let e = length-members dropped n in
    unmarked-all (members dropped n) xs (λ i l. marked_members dropped n i (omega (arith, l, e)) ∙ none i (omega (arith, l, e)))

-- Marks that all stand before what goes stay as they are.
before-all : (ms marks : List Bool) (first : ℕ) → ((i : ℕ) → i < first → marked ms i ≡ false) → ((i : ℕ) → first ≤ i → marked marks i ≡ false) → (i : ℕ)
    → marked (unmarked ms marks) i ≡ marked marks i
before-all [] marks first h none i = refl
before-all (m ∷ ms) [] first h none i = refl
before-all (m ∷ ms) (x ∷ marks) zero h none i = unmarked-none (m ∷ ms) (x ∷ marks) (λ j. none j (omega arith)) i ∙ sym (none i (omega arith))
before-all (true ∷ ms) (x ∷ marks) (suc first) h none i = absurd (cc (h 0 (omega arith)))
before-all (false ∷ ms) (x ∷ marks) (suc first) h none zero = refl
before-all (false ∷ ms) (x ∷ marks) (suc first) h none (suc i) = before-all ms marks first (λ j l. h (suc j) (omega (arith, l))) (λ j l. none (suc j) (omega (arith, l))) i

pub stays_before : (dropped own : List ℕ) (marks : List Bool) (first n : ℕ) → length marks ≡ n → first ≤ n → n ≤ 512 → ((k : ℕ) → k < first → member dropped k ≡ false)
    → ((k : ℕ) → first ≤ k → k < n → member own k ≡ false) → IsSetOf own marks → IsSetOf own (unmarked (members dropped n) marks)
stays_before dropped own marks first n count h few before none set = record {
  at = λ i low. set.at i low ∙ sym (before-all (members dropped n) marks first (λ j l. marked_members dropped n j (omega (arith, l, h)) ∙ before j l) (λ j l. beyond j l (cases_lt j n)) i);
}
  where
    beyond : (j : ℕ) → first ≤ j → (j < n) ⊎ (n ≤ j) → marked marks j ≡ false
    beyond j l (inl a) = sym (set.at j (omega (arith, a, few))) ∙ none j l a
    beyond j l (inr a) = marked_past marks j (omega (arith, a, count))
