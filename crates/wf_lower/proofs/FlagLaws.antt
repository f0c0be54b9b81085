-- Flags that are set one after the other.
use Rattle.std.proofs.Common.{◌≡◌, ◌∙◌, ap, sym, ℕ, zero, suc, ◌+◌, ◌<◌, ◌≤◌, Bool, true, false, ◌||◌, List, [], ◌∷◌, length, drop, Some, nat_eq, refl, arith}
use Rattle.std.specs.Prelude.{slice_get}
use Rattle.std.specs.List.{list_any, slice_set}
use Rattle.std.proofs.lemmas.Bool.Decides.{nat_tests}
use Rattle.wf_lower.specs.Flags.{Sets, is_set}
use Rattle.wf_lower.proofs.Walks.{dropped_at, none_left}

pub or_false : (a : Bool) → (a || false) ≡ a
or_false true = refl
or_false false = refl

or_true : (a : Bool) → (a || true) ≡ true
or_true true = refl
or_true false = refl

pub or_assoc : (a b c : Bool) → (a || (b || c)) ≡ ((a || b) || c)
or_assoc true b c = refl
or_assoc false b c = refl

-- A flag that is set.
same_number : (n : ℕ) → nat_eq n n ≡ true
same_number n = grind (arith, nat_tests)

none_after : (n : ℕ) → nat_eq 0 (suc n) ≡ false
none_after n = grind (arith, nat_tests)

after_none : (n : ℕ) → nat_eq (suc n) 0 ≡ false
after_none n = grind (arith, nat_tests)

both_more : (i n : ℕ) → nat_eq i n ≡ nat_eq (suc i) (suc n)
both_more i n = by (nat_eq i n) refl
  where
    by : (b : Bool) → nat_eq i n ≡ b → b ≡ nat_eq (suc i) (suc n)
    by true e = grind (arith, nat_tests, e)
    by false e = grind (arith, nat_tests, e)

set_at : (i : ℕ) (flags : List Bool) (n : ℕ) → i < length flags → is_set (slice_set flags i true) n ≡ (is_set flags n || nat_eq i n)
set_at i [] n h = absurd (omega (arith, h))
set_at zero (flag ∷ flags) zero h = sym (ap (λ b. flag || b) (same_number 0) ∙ or_true flag)
set_at zero (flag ∷ flags) (suc n) h = sym (ap (λ b. is_set flags n || b) (none_after n) ∙ or_false (is_set flags n))
set_at (suc i) (flag ∷ flags) zero h = sym (ap (λ b. flag || b) (after_none i) ∙ or_false flag)
set_at (suc i) (flag ∷ flags) (suc n) h = set_at i flags n (omega (arith, h)) ∙ ap (λ b. is_set flags n || b) (both_more i n)

pub sets_one : (i : ℕ) (old new : List Bool) → i < length old → new ≡ slice_set old i true → Sets (λ n. nat_eq i n) old new
sets_one i old new h e = λ n. ap (λ flags. is_set flags n) e ∙ set_at i old n h

-- What is known of a list's items so far, where those from one on are left, and of all of them.
module _ {X : Type 0} (names : ℕ → X → Bool) (xs : List X) (i n : ℕ) (all : Bool) where
  pub sets_more : (old new : List Bool) (x : X) → slice_get xs i ≡ Some x → is_set new n ≡ (is_set old n || names n x)
      → (is_set old n || list_any (names n) (drop i xs)) ≡ all → (is_set new n || list_any (names n) (drop (i + 1) xs)) ≡ all
  sets_more old new x is sets so_far =
      let rest = list_any (names n) (drop (i + 1) xs) in
      ap (λ b. b || rest) sets ∙ sym (or_assoc (is_set old n) (names n x) rest) ∙ ap (λ l. is_set old n || list_any (names n) l) (sym (dropped_at xs i x is)) ∙ so_far

  pub sets_end : (flags : List Bool) → length xs ≤ i → (is_set flags n || list_any (names n) (drop i xs)) ≡ all → is_set flags n ≡ all
  sets_end flags past so_far = sym (or_false (is_set flags n)) ∙ ap (λ l. is_set flags n || list_any (names n) l) (sym (none_left xs i past)) ∙ so_far
