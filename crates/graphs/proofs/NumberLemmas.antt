-- Numbers: when two are one, which of them a list has, and ways from one to another over a graph.
use Rattle.std.proofs.Common.{◌≡◌, ℕ, zero, suc, ◌<◌, ◌||◌, Bool, true, false, List, [], ◌∷◌, length, Some, slice_get, nat_eq, slice_index_or, refl, sym, ap, subst, arith}
use Rattle.std.specs.Cmp.{IsEquivalence}
use Rattle.std.proofs.lemmas.Bool.Decides.{nat_tests}
use Rattle.graphs.specs.Graphs.{Path, last, more, holds}

pub same_number : (a b : ℕ) → nat_eq a b ≡ true → a ≡ b
same_number a b h = grind (arith, nat_tests, h)

pub number_self : (a : ℕ) → nat_eq a a ≡ true
number_self a = grind (arith, nat_tests)

pub numbers_equivalence : IsEquivalence nat_eq
numbers_equivalence = record {
  refl = number_self;
  symm = λ x y. grind (arith, nat_tests);
  congr = λ x y z h. congr_numbers x y z h;
}
  where
    congr_numbers : (x y z : ℕ) → nat_eq x y ≡ true → nat_eq x z ≡ nat_eq y z
    congr_numbers x y z h = ap (λ n. nat_eq n z) (same_number x y h)

holds_left : (x y : Bool) → x ≡ true → (x || y) ≡ true
holds_left true y h = refl
holds_left false y h = absurd (cc h)

-- Ways.
pub path-push : (step : ℕ → ℕ → Bool) (a b c : ℕ) → Path step a b → step b c ≡ true → Path step a c
path-push step _ _ c (last a b s) q = more a b c s (last b c q)
path-push step _ _ c (more a b d s p) q = more a b c s (path-push step b d c p q)

-- What a list has at a place, it has.
pub holds_index : (ks : List ℕ) (i d : ℕ) → i < length ks → holds ks (slice_index_or ks i d) ≡ true
holds_index [] i d h = absurd (omega (arith, h))
holds_index (k ∷ ks) zero d h = holds_left (nat_eq k k) (holds ks k) (number_self k)
holds_index (k ∷ ks) (suc i) d h = right (nat_eq (slice_index_or ks i d) k) (holds ks (slice_index_or ks i d)) (holds_index ks i d (omega (arith, h)))
  where
    right : (x y : Bool) → y ≡ true → (x || y) ≡ true
    right true y h = refl
    right false y h = h

pub holds_at : (ks : List ℕ) (i a : ℕ) → slice_get ks i ≡ Some a → holds ks a ≡ true
holds_at [] i a e = absurd (cc e)
holds_at (k ∷ ks) zero a e = let same : k ≡ a = cc e in holds_left (nat_eq a k) (holds ks a) (let P : ℕ → Type 0 = λ c. nat_eq a c ≡ true in subst P (sym same) (number_self a))
holds_at (k ∷ ks) (suc i) a e = right (nat_eq a k) (holds ks a) (holds_at ks i a e)
  where
    right : (x y : Bool) → y ≡ true → (x || y) ≡ true
    right true y h = refl
    right false y h = h
