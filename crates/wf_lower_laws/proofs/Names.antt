-- Lists of names that are all different, and what begins as the name of an item.
use Rattle.std.proofs.Common.{◌≡◌, ◌⊎◌, inl, inr, ℕ, Bool, true, false, not, ◌&&◌, ◌||◌, List, [], ◌∷◌, ◌++◌, refl, sym, ◌∙◌, subst}
use Rattle.std.specs.Prelude.{bytes_eq, codes}
use Rattle.std.specs.List.{list_all}
use Rattle.std.proofs.lemmas.List.Folds.{list_any-append}
use Rattle.std.proofs.lemmas.Slice.Eq.{bytes_eq-Decides}
use Rattle.wf_ast.proofs.Arena.{both_true}
use Rattle.c_meaning.specs.UnitForm.{is_among, all_distinct}
use Rattle.wf_lower_laws.specs.NameLaw.{begins}
use Rattle.wf_lower_laws.proofs.Apart.{left_or, right_or, not_true}

pub either_true : (a b : Bool) → (a || b) ≡ true → (a ≡ true) ⊎ (b ≡ true)
either_true true b h = inl refl
either_true false b h = inr h

pub both_hold : (a b : Bool) → a ≡ true → b ≡ true → (a && b) ≡ true
both_hold a b h j = rw (h, j) refl

-- What is among names that pass a test passes it.
pub among_passes : (T : List ℕ → Bool) (ls : List (List ℕ)) (l : List ℕ) → list_all T ls ≡ true → is_among ls l ≡ true → T l ≡ true
among_passes T [] l h e = absurd (cc e)
among_passes T (x ∷ ls) l h e = by (either_true (bytes_eq l x) (is_among ls l) e) (among_passes T ls l (both_true (T x) (list_all T ls) h).1)
  where
    by : (bytes_eq l x ≡ true) ⊎ (is_among ls l ≡ true) → (is_among ls l ≡ true → T l ≡ true) → T l ≡ true
    by (inl t) more =
        let same : l ≡ x = (bytes_eq-Decides l x).0 t in
        let P : List ℕ → Type 0 = λ z. T z ≡ true in
        subst P (sym same) (both_true (T x) (list_all T ls) h).0
    by (inr t) more = more t

pub distinct_both : (ls ms : List (List ℕ)) → all_distinct ls ≡ true → all_distinct ms ≡ true → ((l : List ℕ) → is_among ls l ≡ true → is_among ms l ≡ false)
    → all_distinct (ls ++ ms) ≡ true
distinct_both [] ms h j k = j
distinct_both (x ∷ ls) ms h j k =
    let p = both_true (not (is_among ls x)) (all_distinct ls) h in
    let own : is_among (x ∷ ls) x ≡ true = left_or (bytes_eq x x) (is_among ls x) ((bytes_eq-Decides x x).1 refl) in
    let none : is_among (ls ++ ms) x ≡ false = list_any-append (bytes_eq x) ls ms ∙ no_or (is_among ls x) (is_among ms x) (not_true (is_among ls x) p.0) (k x own) in
    rw (none, distinct_both ls ms p.1 j (λ l e. k l (right_or (bytes_eq l x) (is_among ls l) e))) refl
  where
    no_or : (a b : Bool) → a ≡ false → b ≡ false → (a || b) ≡ false
    no_or a b h j = rw (h, j) refl

-- Names that pass a test, and names that don't.
pub distinct_by : (T : List ℕ → Bool) (ls ms : List (List ℕ)) → list_all T ls ≡ true → list_all (λ l. not (T l)) ms ≡ true → all_distinct ls ≡ true → all_distinct ms ≡ true
    → all_distinct (ls ++ ms) ≡ true
distinct_by T ls ms h j d e = distinct_both ls ms d e (λ l a. none l a (is_among ms l) refl)
  where
    none : (l : List ℕ) → is_among ls l ≡ true → (b : Bool) → is_among ms l ≡ b → b ≡ false
    none l a false g = refl
    none l a true g = absurd (cc (among_passes T ls l h a, not_true (T l) (among_passes (λ l. not (T l)) ms l j g)))

-- The names that each of a list of things gives, in the manner of its own name.
module _ (IsOf : (own name : List ℕ) → Type 0) (one : (x y l : List ℕ) → IsOf x l → IsOf y l → x ≡ y) where
  pub record Owner (owners : List (List ℕ)) (l : List ℕ) : Type 0 where
    pub own : List ℕ
    pub there : is_among owners own ≡ true
    pub is : IsOf own l

  abbrev pub Owned : (owners : List (List ℕ)) → List (List ℕ) → Type 0
  Owned owners ls = (l : List ℕ) → is_among ls l ≡ true → Owner owners l

  pub owned_none : (owners : List (List ℕ)) → Owned owners []
  owned_none owners l e = absurd (cc e)

  pub owned_next : (x : List ℕ) (owners : List (List ℕ)) (ls ms : List (List ℕ)) → ((l : List ℕ) → is_among ls l ≡ true → IsOf x l) → Owned owners ms → Owned (x ∷ owners) (ls ++ ms)
  owned_next x owners ls ms h o l e = by (either_true (is_among ls l) (is_among ms l) (sym (list_any-append (bytes_eq l) ls ms) ∙ e))
    where
      by : (is_among ls l ≡ true) ⊎ (is_among ms l ≡ true) → Owner (x ∷ owners) l
      by (inl t) = record { own = x; there = left_or (bytes_eq x x) (is_among owners x) ((bytes_eq-Decides x x).1 refl); is = h l t }
      by (inr t) = let it = o l t in record { own = it.own; there = right_or (bytes_eq it.own x) (is_among owners it.own) it.there; is = it.is }

  pub distinct_next : (x : List ℕ) (owners : List (List ℕ)) (ls ms : List (List ℕ)) → not (is_among owners x) ≡ true → ((l : List ℕ) → is_among ls l ≡ true → IsOf x l) → Owned owners ms
      → all_distinct ls ≡ true → all_distinct ms ≡ true → all_distinct (ls ++ ms) ≡ true
  distinct_next x owners ls ms n h o d e = distinct_both ls ms d e (λ l a. none l a (is_among ms l) refl)
    where
      none : (l : List ℕ) → is_among ls l ≡ true → (b : Bool) → is_among ms l ≡ b → b ≡ false
      none l a false g = refl
      none l a true g =
          let it = o l g in
          let same = one x it.own l (h l a) it.is in
          let P : List ℕ → Type 0 = λ z. is_among owners z ≡ true in
          absurd (cc (not_true (is_among owners x) n, subst P (sym same) it.there))

pub after_prefix : (prefix xs ys : List ℕ) → prefix ++ xs ≡ prefix ++ ys → xs ≡ ys
after_prefix [] xs ys h = h
after_prefix (c ∷ prefix) xs ys h = after_prefix prefix xs ys (cc h)

-- As names of items do.
abbrev pub is_item : List ℕ → Bool
is_item name = begins (codes "wuffs_") name || (begins (codes "body_") name || (begins (codes "status_") name || begins (codes "sat_") name))
