-- A place that none of the nodes so far has.
use Rattle.std.proofs.Common.{◌≡◌, ℕ, ◌+◌, ◌<◌, ◌≤◌, ◌⊎◌, inl, inr, List, length, map, Some, sym, ap, ◌∙◌, subst, arith}
use Rattle.std.specs.Prelude.{slice_get, slice_index_or, option_map, IsTrue, false}
use Rattle.std.proofs.lemmas.Bool.{cases_lt}
use Rattle.std.proofs.lemmas.Option.{slice_get-map, slice_get_past, slice_get-get_or}
use Rattle.wf_text.specs.declared.place.Place.{Place}

some_inside : (p q : Place) → Some p ≡ Some q → p ≡ q
some_inside p q e = cc (e)

module _ {X : Type 0} (place : X → Place) (nodes : List X) (at : Place) where
  pub none_yet : (n : ℕ) (x : X) → slice_get nodes n ≡ Some x → (place x ≡ at → ⊥)
      → ((k : ℕ) → k < n → slice_get (map place nodes) k ≡ Some at → ⊥) → (k : ℕ) → k < n + 1 → slice_get (map place nodes) k ≡ Some at → ⊥
  none_yet n x is other before k within e = by (cases_lt k n)
    where
      by : (k < n) ⊎ (n ≤ k) → ⊥
      by (inl h) = before k h e
      by (inr h) =
          let same : k ≡ n = omega (arith, within, h) in
          let P : ℕ → Type 0 = λ j. slice_get (map place nodes) j ≡ Some at in
          let here : Some (place x) ≡ Some at = sym (slice_get-map place nodes n ∙ ap (option_map place) is) ∙ subst P same e in
          other (some_inside (place x) at here)

  pub none_at_all : (n : ℕ) → length nodes ≤ n → ((k : ℕ) → k < n → slice_get (map place nodes) k ≡ Some at → ⊥) → (k : ℕ) → slice_get (map place nodes) k ≡ Some at → ⊥
  none_at_all n long before k e = by (cases_lt k n)
    where
      by : (k < n) ⊎ (n ≤ k) → ⊥
      by (inl h) = before k h e
      by (inr h) = let past = slice_get-map place nodes k ∙ ap (option_map place) (slice_get_past nodes k (omega (arith, long, h))) in absurd (cc (past, e))

  -- The same of the list that an accessor lends.
  pub none_in : (xs : List X) → xs ≡ nodes → (n : ℕ) (d : X) → n < length xs → (place (slice_index_or xs n d) ≡ at → IsTrue false)
      → ((k : ℕ) → k < n → slice_get (map place nodes) k ≡ Some at → ⊥) → (k : ℕ) → k < n + 1 → slice_get (map place nodes) k ≡ Some at → ⊥
  none_in xs same n d within other before =
      let P : List X → Type 0 = λ ys. slice_get ys n ≡ Some (slice_index_or xs n d) in
      none_yet n (slice_index_or xs n d) (subst P same (slice_get-get_or xs n d within)) (λ e. let k = other e in absurd (cc (k))) before

  pub none_left : (xs : List X) → xs ≡ nodes → (n : ℕ) → length xs ≤ n → ((k : ℕ) → k < n → slice_get (map place nodes) k ≡ Some at → ⊥)
      → (k : ℕ) → slice_get (map place nodes) k ≡ Some at → ⊥
  none_left xs same n long before =
      let P : List X → Type 0 = λ ys. length ys ≤ n in
      none_at_all n (subst P same long) before
