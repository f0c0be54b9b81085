-- A sum over what the numbers of an order name is the sum over the whole list, where the order has each number once.
use Rattle.std.proofs.Common.{◌≡◌, ℕ, zero, suc, ◌+◌, ◌<◌, true, false, not, ◌||◌, List, [], ◌∷◌, length, Option, Some, None, nat_eq, refl, sym, ap, ◌∙◌, subst, arith}
use Rattle.std.specs.Prelude.{if◌then◌else◌, slice_get, sum_by}
use Rattle.std.proofs.lemmas.Bool.Decides.{nat_tests}
use Rattle.std.proofs.lemmas.List.Sums.{sum_by-cons}
use Rattle.wf_ast.proofs.Arena.{both_true}
use Rattle.wf_lower_laws.proofs.Apart.{has, apart, left_or, right_or, not_true, same_number}
use Rattle.wf_lower_laws.proofs.Orders.{HasEach}

module _ {X : Type 0} (f : X → ℕ) where
  -- What is there, and 0 where nothing is.
  abbrev pub of_some : Option X → ℕ
  of_some None = 0
  of_some (Some x) = f x

  -- The sum over what the numbers of an order name.
  abbrev pub along : List X → (order : List ℕ) → ℕ
  along xs [] = 0
  along xs (n ∷ ns) = of_some (slice_get xs n) + along xs ns

  -- The sum over those items of a list, of which the first has the number k, that an order has.
  abbrev picked : (k : ℕ) → List X → (order : List ℕ) → ℕ
  picked k [] order = 0
  picked k (x ∷ xs) order = (if has order k then f x else 0) + picked (suc k) xs order

  none_past : (xs : List X) (n : ℕ) → slice_get xs n ≡ None → n < length xs → ⊥
  none_past [] n e l = absurd (omega (arith, l))
  none_past (x ∷ xs) zero e l = cc e
  none_past (x ∷ xs) (suc n) e l = none_past xs n e (omega (arith, l))

  none_picked : (k : ℕ) (xs : List X) → picked k xs [] ≡ 0
  none_picked k [] = refl
  none_picked k (x ∷ xs) = omega (arith, none_picked (suc k) xs)

  -- A number below all of them picks nothing.
  passed : (k n : ℕ) (xs : List X) (order : List ℕ) → n < k → picked k xs (n ∷ order) ≡ picked k xs order
  passed k n [] order l = refl
  passed k n (x ∷ xs) order l =
      let other : nat_eq k n ≡ false = grind (arith, nat_tests, l) in
      let rest = passed (suc k) n xs order (omega (arith, l)) in
      ap (λ t. (if t || has order k then f x else 0) + picked (suc k) xs (n ∷ order)) other ∙ ap (λ r. (if has order k then f x else 0) + r) rest

  -- A number that the order didn't have picks the item that it names.
  picks : (k j n : ℕ) (xs : List X) (order : List ℕ) (x : X) → n ≡ k + j → slice_get xs j ≡ Some x → has order n ≡ false → picked k xs (n ∷ order) ≡ f x + picked k xs order
  picks k j n [] order x s e h = absurd (cc e)
  picks k zero n (y ∷ xs) order x s e h =
      let same : y ≡ x = cc e in
      let here : n ≡ k = omega (arith, s) in
      let test : nat_eq k n ≡ true = grind (arith, nat_tests, here) in
      let P : ℕ → Type 0 = λ z. has order z ≡ false in
      let none : has order k ≡ false = subst P here h in
      let rest = passed (suc k) n xs order (omega (arith, here)) in
      ap (λ t. (if t || has order k then f y else 0) + picked (suc k) xs (n ∷ order)) test
      ∙ (omega (arith, rest, ap f same, ap (λ t. if t then f y else 0) none))
  picks k (suc j) n (y ∷ xs) order x s e h =
      let other : nat_eq k n ≡ false = grind (arith, nat_tests, s) in
      let rest = picks (suc k) j n xs order x (omega (arith, s)) e h in
      ap (λ t. (if t || has order k then f y else 0) + picked (suc k) xs (n ∷ order)) other ∙ omega (arith, rest)

  -- An order that has all numbers picks all items.
  all_picked : (k : ℕ) (xs : List X) (order : List ℕ) → ((a : ℕ) → a < k + length xs → has order a ≡ true) → picked k xs order ≡ sum_by f xs
  all_picked k [] order h = refl
  all_picked k (x ∷ xs) order h =
      let rest = all_picked (suc k) xs order (λ a l. h a (omega (arith, l))) in
      ap (λ t. (if t then f x else 0) + picked (suc k) xs order) (h k (omega arith)) ∙ omega (arith, rest, sum_by-cons f x xs)

  -- So one number after the other picks what it names.
  along_picked : (xs : List X) (order : List ℕ) → apart order ≡ true → ((a : ℕ) → has order a ≡ true → a < length xs) → along xs order ≡ picked 0 xs order
  along_picked xs [] h l = sym (none_picked 0 xs)
  along_picked xs (n ∷ ns) h l = by (slice_get xs n) refl (along_picked xs ns (both_true (not (has ns n)) (apart ns) h).1 (λ a k. l a (right_or (nat_eq a n) (has ns a) k)))
    where
      by : (o : Option X) → slice_get xs n ≡ o → along xs ns ≡ picked 0 xs ns → of_some o + along xs ns ≡ picked 0 xs (n ∷ ns)
      by None e rest = absurd (none_past xs n e (l n (left_or (nat_eq n n) (has ns n) (same_number n))))
      by (Some x) e rest = omega (arith, rest, picks 0 n n xs ns x (omega arith) e (not_true (has ns n) (both_true (not (has ns n)) (apart ns) h).0))

  pub in_any_order : (xs : List X) (order : List ℕ) → HasEach (length xs) order → along xs order ≡ sum_by f xs
  in_any_order xs order h = along_picked xs order h.once h.below ∙ all_picked 0 xs order (λ a l. h.all a (omega (arith, l)))
