-- A walk that has begun with every number and has come back has an order of all of them.
use Rattle.std.proofs.Common.{◌≡◌, ◌⊎◌, ℕ, zero, suc, ◌<◌, ◌≤◌, ◌||◌, Bool, true, false, List, [], ◌∷◌, ◌++◌, length, take, Some, slice_get, nat_eq, refl, sym, ap, ◌∙◌, subst, inl, inr, arith, length-append, append-nil}
use Rattle.std.specs.List.{IsDistinct}
use Rattle.std.proofs.lemmas.Map.Keys.{IsDistinct-push}
use Rattle.std.proofs.lemmas.Map.Made.{length-le_from_is_member}
use Rattle.std.proofs.lemmas.Map.Steps.{length-le_from_distinct_below}
use Rattle.graphs.specs.Graphs.{Path, last, more, holds, goes}
use Rattle.graphs.proofs.NumberLemmas.{same_number, number_self, numbers_equivalence}
use Rattle.graphs.specs.declared.walk.Walk.{Walk}
use Rattle.graphs.specs.Leaving.{IsLeaving}
use Rattle.graphs.specs.Orders.{IsOrder, IsOrderOffCycles, HasCycle}
use Rattle.graphs.specs.Walking.{Walks, has_begun}
use Rattle.graphs.proofs.WalkLemmas.{either, found-at, take-at, one-place, holds-pushed, walk-few}

-- The numbers below a number.
abbrev below : ℕ → List ℕ
below zero = []
below (suc n) = below n ++ n ∷ []

below-long : (n : ℕ) → length (below n) ≡ n
below-long zero = refl
below-long (suc n) = omega (arith, below-long n, length-append (below n) (n ∷ []))

below-has : (n b : ℕ) → holds (below n) b ≡ true → b < n
below-has zero b h = absurd (cc h)
below-has (suc n) b h = elim (either (nat_eq b n) (holds (below n) b) (sym (holds-pushed (below n) n b) ∙ h)) [
  | inl p ↦ omega (arith, same_number b n p)
  | inr q ↦ omega (arith, below-has n b q)
]

not-true : (t : Bool) → (t ≡ true → ⊥) → t ≡ false
not-true true h = absurd (h refl)
not-true false h = refl

below-distinct : (n : ℕ) → IsDistinct nat_eq (below n)
unfolding IsDistinct
below-distinct zero = tt
below-distinct (suc n) = IsDistinct-push numbers_equivalence (below n) n (below-distinct n) (not-true (holds (below n) n) (λ h. absurd (omega (arith, below-has n n h))))

-- A list that has all numbers below one is as long as that at least.
all-long : (n : ℕ) (ks : List ℕ) → ((b : ℕ) → b < n → holds ks b ≡ true) → n ≤ length ks
all-long n ks h = omega (arith, below-long n, length-le_from_is_member numbers_equivalence (below n) ks (below-distinct n) (λ b m. h b (below-has n b m)))

pub leaving-made : (rows : List (List ℕ)) (walk : Walk) → Walks rows walk → walk.path.items ≡ [] → ((b : ℕ) → b < length rows → has_begun walk b ≡ true) → IsLeaving (length rows) (goes rows) walk.order.items
leaving-made rows walk h empty all = record {
  whole = omega (arith, walk-few rows walk.order.items walk.path.items h.going, all-long (length rows) walk.order.items (λ b l. sym (same b) ∙ all b l));
  within = λ b k. h.going.within b (same b ∙ k);
  once = let P : List ℕ → Type 0 = IsDistinct nat_eq in subst P alone h.going.once;
  back = h.going.back;
  nest = h.going.left;
}
  where
    alone : walk.order.items ++ walk.path.items ≡ walk.order.items
    alone = ap (λ l. walk.order.items ++ l) empty ∙ append-nil walk.order.items

    same : (b : ℕ) → has_begun walk b ≡ holds walk.order.items b
    same b = ap (λ l. holds l b) alone

at-take : (ks : List ℕ) (i j a : ℕ) → j < i → slice_get ks j ≡ Some a → holds (take i ks) a ≡ true
at-take ks zero j a l h = absurd (omega (arith, l))
at-take [] (suc i) j a l h = absurd (cc h)
at-take (k ∷ ks) (suc i) zero a l h = let same : k ≡ a = cc h in let P : ℕ → Type 0 = λ x. (nat_eq a x || holds (take i ks) a) ≡ true in subst P (sym same) (ap (λ t. t || holds (take i ks) a) (number_self a))
at-take (k ∷ ks) (suc i) (suc j) a l h = or-right (nat_eq a k) (holds (take i ks) a) (at-take ks i j a (omega (arith, l)) h)
  where
    or-right : (x y : Bool) → y ≡ true → (x || y) ≡ true
    or-right true y h = refl
    or-right false y h = h

-- A number of a list with no two equal doesn't stand before itself.
pub once-apart : (ks : List ℕ) (i a : ℕ) → IsDistinct nat_eq ks → slice_get ks i ≡ Some a → holds (take i ks) a ≡ true → ⊥
once-apart ks i a h at k =
    let r = take-at ks i a k in
    one-place ks r.0 i a h r.1.0 r.1.1 at

-- Only a number of the graph goes anywhere.
pub goes-below : (rows : List (List ℕ)) (a b : ℕ) → goes rows a b ≡ true → a < length rows
goes-below [] a b g = absurd (cc g)
goes-below (r ∷ rs) zero b g = omega arith
goes-below (r ∷ rs) (suc a) b g = omega (arith, goes-below rs a b g)

-- Who lists n numbers below n, each once, has all of them.
pub all-held : (n : ℕ) (order : List ℕ) → length order ≡ n → ((a : ℕ) → holds order a ≡ true → a < n) → IsDistinct nat_eq order → (a : ℕ) → a < n → holds order a ≡ true
all-held n order whole below once a l = by_test (holds order a) refl
  where
    by_test : (t : Bool) → holds order a ≡ t → t ≡ true
    by_test true e = refl
    by_test false e =
        let longer = IsDistinct-push numbers_equivalence order a once e in
        let within : (q : ℕ) → holds (order ++ a ∷ []) q ≡ true → q < n = λ q k. inside q (either (nat_eq q a) (holds order q) (sym (holds-pushed order a q) ∙ k)) in
        let most = length-le_from_distinct_below (order ++ a ∷ []) n longer within in
        absurd (omega (arith, most, whole, length-append order (a ∷ [])))
      where
        inside : (q : ℕ) → (nat_eq q a ≡ true) ⊎ (holds order q ≡ true) → q < n
        inside q (inl p) = omega (arith, l, same_number q a p)
        inside q (inr k) = below q k

module _ (rows : List (List ℕ)) (order : List ℕ) (h : IsOrder rows order) where
  -- The order has every number of the graph.
  has-all : (a : ℕ) → a < length rows → holds order a ≡ true
  has-all = all-held (length rows) order h.whole h.within h.once

  -- What a way leads to stands before it.
  way-behind : (i a b : ℕ) → slice_get order i ≡ Some a → Path (goes rows) a b → holds (take i order) b ≡ true
  way-behind i _ _ at (last a b s) = h.behind i a b at s
  way-behind i _ _ at (more a b c s p) =
      let r = take-at order i b (h.behind i a b at s) in
      let q = take-at order r.0 c (way-behind r.0 b c r.1.1 p) in
      at-take order i q.0 c (omega (arith, q.1.0, r.1.0)) q.1.1

  pub no-cycle : HasCycle rows → ⊥
  no-cycle c =
      let r = found-at order c.0 (has-all c.0 (begins c.0 c.0 c.1)) in
      once-apart order r.0 c.0 h.once r.1 (way-behind r.0 c.0 c.0 r.1 c.1)
    where
      begins : (a b : ℕ) → Path (goes rows) a b → a < length rows
      begins _ _ (last a b s) = goes-below rows a b s
      begins _ _ (more a b c s p) = goes-below rows a b s

-- In the order in which a walk left the numbers each stands after those that it goes to and that have no way back.
pub leaving-off-cycles : (rows : List (List ℕ)) (order : List ℕ) → IsLeaving (length rows) (goes rows) order → IsOrderOffCycles rows order
leaving-off-cycles rows order leaving = record {
  whole = leaving.whole;
  every = all-held (length rows) order leaving.whole leaving.within leaving.once;
  within = leaving.within;
  once = leaving.once;
  behind = leaving.back;
}

-- Where no number has a way back to itself that is an order.
pub order-open : (rows : List (List ℕ)) (order : List ℕ) → IsOrderOffCycles rows order → (HasCycle rows → ⊥) → IsOrder rows order
order-open rows order h open_ = record {
  whole = h.whole;
  within = h.within;
  once = h.once;
  behind = λ i a b at g. elim (h.behind i a b at g) [
    | inl k ↦ k
    | inr p ↦ absurd (open_ (a, more a b a g p))
  ];
}
