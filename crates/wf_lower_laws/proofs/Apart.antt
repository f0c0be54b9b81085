-- Numbers of a list that are all different.
use Rattle.std.proofs.Common.{◌≡◌, ℕ, Bool, true, false, not, ◌&&◌, ◌||◌, List, [], ◌∷◌, ◌++◌, nat_eq, refl, sym, subst, ◌∙◌, arith}
use Rattle.std.specs.List.{list_any}
use Rattle.std.proofs.lemmas.Bool.Decides.{nat_tests}
use Rattle.std.proofs.lemmas.List.Folds.{list_any-append}
use Rattle.wf_ast.proofs.Arena.{both_true}

abbrev pub has : List ℕ → ℕ → Bool
has xs w = list_any (nat_eq w) xs

abbrev pub apart : List ℕ → Bool
apart [] = true
apart (x ∷ xs) = not (has xs x) && apart xs

pub neither : (a b : Bool) → (a || b) ≡ false → (a ≡ false) × (b ≡ false)
neither true b h = absurd (cc h)
neither false b h = (refl, h)

pub left_or : (a b : Bool) → a ≡ true → (a || b) ≡ true
left_or true b h = refl
left_or false b h = absurd (cc h)

pub right_or : (a b : Bool) → b ≡ true → (a || b) ≡ true
right_or true b h = refl
right_or false b h = h

pub has_neither : (w : ℕ) (xs ys : List ℕ) → has (xs ++ ys) w ≡ false → (has xs w ≡ false) × (has ys w ≡ false)
has_neither w xs ys h = neither (has xs w) (has ys w) (sym (list_any-append (nat_eq w) xs ys) ∙ h)

pub not_true : (b : Bool) → not b ≡ true → b ≡ false
not_true true h = absurd (cc h)
not_true false h = refl

pub same_number : (w : ℕ) → nat_eq w w ≡ true
same_number w = grind (arith, nat_tests)

pub apart_front : (xs ys : List ℕ) → apart (xs ++ ys) ≡ true → apart xs ≡ true
apart_front [] ys h = refl
apart_front (x ∷ xs) ys h =
    let p = both_true (not (has (xs ++ ys) x)) (apart (xs ++ ys)) h in
    rw ((has_neither x xs ys (not_true (has (xs ++ ys) x) p.0)).0) (apart_front xs ys p.1)

pub apart_back : (xs ys : List ℕ) → apart (xs ++ ys) ≡ true → apart ys ≡ true
apart_back [] ys h = h
apart_back (x ∷ xs) ys h = apart_back xs ys (both_true (not (has (xs ++ ys) x)) (apart (xs ++ ys)) h).1

-- A number of the front isn't one of the back.
pub apart_both : (w : ℕ) (xs ys : List ℕ) → apart (xs ++ ys) ≡ true → has ys w ≡ true → has xs w ≡ false
apart_both w [] ys h k = refl
apart_both w (x ∷ xs) ys h k = by (nat_eq w x) refl (apart_both w xs ys (both_true (not (has (xs ++ ys) x)) (apart (xs ++ ys)) h).1 k)
  where
    p : (not (has (xs ++ ys) x) ≡ true) × (apart (xs ++ ys) ≡ true)
    p = both_true (not (has (xs ++ ys) x)) (apart (xs ++ ys)) h

    by : (b : Bool) → nat_eq w x ≡ b → has xs w ≡ false → (nat_eq w x || has xs w) ≡ false
    by true e l =
        let same : w ≡ x = grind (arith, nat_tests, e) in
        let none = (has_neither x xs ys (not_true (has (xs ++ ys) x) p.0)).1 in
        let P : ℕ → Type 0 = λ n. has ys n ≡ true in
        let some : has ys x ≡ true = subst P same k in
        absurd (cc (none, some))
    by false e l = rw e l
