-- What is made of the items of a list from one on is made of that one, and then of the rest.
use Rattle.std.proofs.Common.{◌≡◌, ◌∙◌, ap, sym, ℕ, zero, suc, ◌+◌, ◌<◌, ◌≤◌, Bool, true, List, [], ◌∷◌, ◌++◌, Some, drop, get_or, length, refl, arith}
use Rattle.std.specs.Prelude.{slice_get}
use Rattle.std.specs.List.{list_all}
use Rattle.c_text.proofs.Trees.{append_nil}
use Rattle.wf_exprs.proofs.Prefixes.{both_left, both_right}

assoc : {A : Type 0} (xs ys zs : List A) → (xs ++ ys) ++ zs ≡ xs ++ (ys ++ zs)
assoc [] ys zs = refl
assoc (x ∷ xs) ys zs = ap (λ l. x ∷ l) (assoc xs ys zs)

pub here : {X : Type 0} (xs : List X) (i : ℕ) (d : X) → i < length xs → slice_get xs i ≡ Some (get_or xs i d)
here [] i d h = absurd (omega (arith, h))
here (x ∷ xs) zero d h = refl
here (x ∷ xs) (suc i) d h = here xs i d (omega (arith, h))

pub all_here : {X : Type 0} (p : X → Bool) (xs : List X) (i : ℕ) (d : X) → i < length xs → list_all p xs ≡ true → p (get_or xs i d) ≡ true
all_here p [] i d h k = absurd (omega (arith, h))
all_here p (x ∷ xs) zero d h k = both_left (p x) (list_all p xs) k
all_here p (x ∷ xs) (suc i) d h k = all_here p xs i d (omega (arith, h)) (both_right (p x) (list_all p xs) k)

pub to_suc : (n : ℕ) → n + 1 ≡ suc n
to_suc n = omega arith

dropped_suc : {X : Type 0} (xs : List X) (i : ℕ) (d : X) → i < length xs → drop i xs ≡ get_or xs i d ∷ drop (suc i) xs
dropped_suc [] i d h = absurd (omega (arith, h))
dropped_suc (x ∷ xs) zero d h = refl
dropped_suc (x ∷ xs) (suc i) d h = dropped_suc xs i d (omega (arith, h))

pub dropped : {X : Type 0} (xs : List X) (i : ℕ) (d : X) → i < length xs → drop i xs ≡ get_or xs i d ∷ drop (i + 1) xs
dropped xs i d h = dropped_suc xs i d h ∙ ap (λ k. get_or xs i d ∷ drop k xs) (sym (to_suc i))

taken_suc : {X : Type 0} (xs : List X) (i : ℕ) (x : X) → slice_get xs i ≡ Some x → drop i xs ≡ x ∷ drop (suc i) xs
taken_suc [] i x h = absurd (cc h)
taken_suc (y ∷ xs) zero x h = let e : y ≡ x = cc h in ap (λ z. z ∷ xs) e
taken_suc (y ∷ xs) (suc i) x h = taken_suc xs i x h

pub dropped_at : {X : Type 0} (xs : List X) (i : ℕ) (x : X) → slice_get xs i ≡ Some x → drop i xs ≡ x ∷ drop (i + 1) xs
dropped_at xs i x h = taken_suc xs i x h ∙ ap (λ k. x ∷ drop k xs) (sym (to_suc i))

pub none_left : {X : Type 0} (xs : List X) (i : ℕ) → length xs ≤ i → drop i xs ≡ []
none_left [] zero h = refl
none_left [] (suc i) h = refl
none_left (x ∷ xs) zero h = absurd (omega (arith, h))
none_left (x ∷ xs) (suc i) h = none_left xs i (omega (arith, h))

-- `g` makes a list of the items, `n` being the number of the first.
module _ {X T : Type 0} (g : ℕ → List X → List T) (none : (n : ℕ) → g n [] ≡ []) (cons : (n : ℕ) (x : X) (xs : List X) → g n (x ∷ xs) ≡ g n (x ∷ []) ++ g (suc n) xs) where
  pub walk_on : (added total one : List T) (n i : ℕ) (xs : List X) (d : X) → i < length xs → one ≡ g n (get_or xs i d ∷ []) → added ++ g n (drop i xs) ≡ total → (added ++ one) ++ g (n + 1) (drop (i + 1) xs) ≡ total
  walk_on added total one n i xs d h e k =
      ap (λ l. (added ++ l) ++ g (n + 1) (drop (i + 1) xs)) e
      ∙ assoc added (g n (get_or xs i d ∷ [])) (g (n + 1) (drop (i + 1) xs))
      ∙ ap (λ m. added ++ (g n (get_or xs i d ∷ []) ++ g m (drop (i + 1) xs))) (to_suc n)
      ∙ ap (λ l. added ++ l) (sym (cons n (get_or xs i d) (drop (i + 1) xs)) ∙ ap (g n) (sym (dropped xs i d h)))
      ∙ k

  pub walk_at : (added total one : List T) (n i : ℕ) (xs : List X) (x : X) → slice_get xs i ≡ Some x → one ≡ g n (x ∷ []) → added ++ g n (drop i xs) ≡ total → (added ++ one) ++ g (n + 1) (drop (i + 1) xs) ≡ total
  walk_at added total one n i xs x h e k =
      ap (λ l. (added ++ l) ++ g (n + 1) (drop (i + 1) xs)) e
      ∙ assoc added (g n (x ∷ [])) (g (n + 1) (drop (i + 1) xs))
      ∙ ap (λ m. added ++ (g n (x ∷ []) ++ g m (drop (i + 1) xs))) (to_suc n)
      ∙ ap (λ l. added ++ l) (sym (cons n x (drop (i + 1) xs)) ∙ ap (g n) (sym (dropped_at xs i x h)))
      ∙ k

  pub walk_end : (added total : List T) (n i : ℕ) (xs : List X) → length xs ≤ i → added ++ g n (drop i xs) ≡ total → added ≡ total
  walk_end added total n i xs h k = sym (append_nil added) ∙ ap (λ l. added ++ l) (sym (none n) ∙ ap (g n) (sym (none_left xs i h))) ∙ k
