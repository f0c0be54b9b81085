-- Lists that grow by one number, each number once.
use Rattle.std.proofs.Common.{◌≡◌, ◌⊎◌, ℕ, ◌||◌, Bool, true, false, cond, if◌then◌else◌, List, [], ◌∷◌, ◌++◌, Some, is_some, nat_eq, refl, sym, ap, ◌∙◌, inl, inr}
use Rattle.std.specs.List.{list_any}
use Rattle.std.specs.Map.{keys_of, lookup}
use Rattle.std.proofs.lemmas.List.Folds.{list_any-append}
use Rattle.indexmap.specs.IndexSet.{insert_key}
use Rattle.graphs.specs.Graphs.{holds}
use Rattle.graphs.proofs.NumberLemmas.{same_number, number_self}

-- A list after one more number.
holds_pushed : (ks : List ℕ) (a b : ℕ) → holds (ks ++ a ∷ []) b ≡ (holds ks b || nat_eq b a)
holds_pushed ks a b = list_any-append (nat_eq b) ks (a ∷ []) ∙ ap (λ t. holds ks b || t) (or_false (nat_eq b a))
  where
    or_false : (t : Bool) → (t || false) ≡ t
    or_false true = refl
    or_false false = refl

abbrev joined_if : Bool → List ℕ → ℕ → List ℕ
joined_if t ks a = if t then ks else ks ++ a ∷ []

holds_left : (x y : Bool) → x ≡ true → (x || y) ≡ true
holds_left true y h = refl
holds_left false y h = absurd (cc h)

either : (x y : Bool) → (x || y) ≡ true → (x ≡ true) ⊎ (y ≡ true)
either true y h = inl refl
either false y h = inr h

keeps_if : (t : Bool) (ks : List ℕ) (a b : ℕ) → holds ks b ≡ true → holds (joined_if t ks a) b ≡ true
keeps_if true ks a b h = h
keeps_if false ks a b h = holds_pushed ks a b ∙ holds_left (holds ks b) (nat_eq b a) h

pub insert-keeps : (ks : List ℕ) (a b : ℕ) → holds ks b ≡ true → holds (insert_key nat_eq ks a) b ≡ true
insert-keeps ks a b h = keeps_if (list_any (nat_eq a) ks) ks a b h

has_if : (t : Bool) (ks : List ℕ) (a : ℕ) → holds ks a ≡ t → holds (joined_if t ks a) a ≡ true
has_if true ks a h = h
has_if false ks a h = holds_pushed ks a a ∙ ap (λ u. holds ks a || u) (number_self a) ∙ ap (λ u. u || true) h

pub insert-has : (ks : List ℕ) (a : ℕ) → holds (insert_key nat_eq ks a) a ≡ true
insert-has ks a = has_if (list_any (nat_eq a) ks) ks a refl

only_if : (t : Bool) (ks : List ℕ) (a b : ℕ) → holds (joined_if t ks a) b ≡ true → (holds ks b ≡ true) ⊎ (b ≡ a)
only_if true ks a b h = inl h
only_if false ks a b h = elim (either (holds ks b) (nat_eq b a) (sym (holds_pushed ks a b) ∙ h)) [ inl p ↦ inl p | inr q ↦ inr (same_number b a q) ]

pub insert-only : (ks : List ℕ) (a b : ℕ) → holds (insert_key nat_eq ks a) b ≡ true → (holds ks b ≡ true) ⊎ (b ≡ a)
insert-only ks a b h = only_if (list_any (nat_eq a) ks) ks a b h

-- The keys of a map are those at which it has something.
pub known_names : {K X : Type 0} (test : K → Bool) (es : List (K × X)) → list_any test (keys_of es) ≡ is_some (lookup test es)
known_names test [] = refl
known_names test (e ∷ es) = by (test e.0) (known_names test es)
  where
    by : (b : Bool) → list_any test (keys_of es) ≡ is_some (lookup test es) → (b || list_any test (keys_of es)) ≡ is_some (cond b (Some e.1) (lookup test es))
    by true r = refl
    by false r = r
