-- Tests of every element, and of names that differ, tell what the rules ask.
use Rattle.std.proofs.Common.{◌≡◌, ◌⊎◌, inl, inr, ℕ, zero, suc, Bool, not, ◌&&◌, ◌||◌, List, [], ◌∷◌, Some, refl, sym, ap, ◌∙◌, subst, arith}
use Rattle.std.specs.Prelude.{bytes_eq}
use Rattle.std.specs.Bool.{Decides}
use Rattle.std.specs.List.{list_all}
use Rattle.std.proofs.lemmas.Bool.Decides.{Decides-and, Decides-or, Decides-not, Decides-like}
use Rattle.std.proofs.lemmas.Slice.Eq.{bytes_eq-Decides}
use Rattle.c_meaning.specs.UnitForm.{is_among, all_distinct}
use Rattle.c_form_laws.specs.Places.{At, Has, Each, AllDiffer}

pub each_front : {A : Type 0} (P : ℕ → A → Type 0) (x : A) (xs : List A) → P 0 x → Each (λ i. P (suc i)) xs → Each P (x ∷ xs)
each_front P x xs h k zero y e = let same : x ≡ y = cc e in subst (P 0) same h
each_front P x xs h k (suc i) y e = k i y e

pub each_none : {A : Type 0} (P : ℕ → A → Type 0) → Each P []
each_none P i x e = absurd (cc e)

pub each-decides : {A : Type 0} (t : A → Bool) (P : ℕ → A → Type 0) → ((i : ℕ) (x : A) → Decides (t x) (P i x)) → (xs : List A) → Decides (list_all t xs) (Each P xs)
each-decides t P each [] = (λ _. each_none P, λ _. refl)
each-decides t P each (x ∷ xs) =
    Decides-like (t x && list_all t xs) (λ h. each_front P x xs h.0 h.1) (λ h. (h 0 x refl, λ i y e. h (suc i) y e))
    (Decides-and (t x) (list_all t xs) (each 0 x) (each-decides t (λ i. P (suc i)) (λ i. each (suc i)) xs))

-- Names in lists.
has_or : {A : Type 0} (x y : A) (xs : List A) → Has (x ∷ xs) y → (y ≡ x) ⊎ Has xs y
has_or x y xs h = by h.0 h.1
  where
    by : (i : ℕ) → At (x ∷ xs) i y → (y ≡ x) ⊎ Has xs y
    by zero e = inl (cc e)
    by (suc i) e = inr (i, e)

or_has : {A : Type 0} (x y : A) (xs : List A) → (y ≡ x) ⊎ Has xs y → Has (x ∷ xs) y
or_has x y xs (inl e) = (0, ap Some (sym e))
or_has x y xs (inr h) = (suc h.0, h.1)

pub among-decides : (names : List (List ℕ)) (name : List ℕ) → Decides (is_among names name) (Has names name)
among-decides [] name = (λ h. absurd (cc h), λ h. absurd (let e = h.1 in cc e))
among-decides (x ∷ names) name =
    Decides-like (bytes_eq name x || is_among names name) (or_has x name names) (has_or x name names) (Decides-or (bytes_eq name x) (is_among names name) (bytes_eq-Decides name x) (among-decides names name))

pub differ_front : {A : Type 0} (x : A) (xs : List A) → (Has xs x → ⊥) → AllDiffer xs → AllDiffer (x ∷ xs)
differ_front x xs none differ zero zero y e f = refl
differ_front x xs none differ zero (suc j) y e f = let same : y ≡ x = cc e in absurd (none (j, f ∙ ap Some same))
differ_front x xs none differ (suc i) zero y e f = let same : y ≡ x = cc f in absurd (none (i, e ∙ ap Some same))
differ_front x xs none differ (suc i) (suc j) y e f = ap suc (differ i j y e f)

pub differ_first : {A : Type 0} (x : A) (xs : List A) → AllDiffer (x ∷ xs) → Has xs x → ⊥
differ_first x xs differ h = let e : 0 ≡ suc h.0 = differ 0 (suc h.0) x refl h.1 in omega (arith, e)

pub differ_rest : {A : Type 0} (x : A) (xs : List A) → AllDiffer (x ∷ xs) → AllDiffer xs
differ_rest x xs differ i j y e f = let same : suc i ≡ suc j = differ (suc i) (suc j) y e f in omega (arith, same)

pub none_differ : {A : Type 0} (i j : ℕ) (x : A) → At [] i x → At [] j x → i ≡ j
none_differ i j x e f = absurd (cc e)

pub differ-decides : (names : List (List ℕ)) → Decides (all_distinct names) (AllDiffer names)
differ-decides [] = (λ _ i j x e f. none_differ i j x e f, λ _. refl)
differ-decides (x ∷ names) =
    Decides-like (not (is_among names x) && all_distinct names) (λ h. differ_front x names h.0 h.1) (λ h. (differ_first x names h, differ_rest x names h))
    (Decides-and (not (is_among names x)) (all_distinct names) (Decides-not (is_among names x) (among-decides names x)) (differ-decides names))
