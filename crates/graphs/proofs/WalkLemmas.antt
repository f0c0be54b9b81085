-- A walk goes on, and comes back: what stands in the order and on the path.
use Rattle.std.proofs.Common.{◌≡◌, ◌⊎◌, ℕ, zero, suc, ◌+◌, ◌-◌, ◌<◌, ◌≤◌, ◌||◌, Bool, true, false, List, [], ◌∷◌, ◌++◌, length, take, Some, slice_get, nat_eq, slice_index_or, refl, sym, ap, ◌∙◌, subst, inl, inr, arith, length-append, append_assoc}
use Rattle.std.specs.List.{IsDistinct}
use Rattle.std.proofs.lemmas.Bool.Decides.{nat_tests}
use Rattle.std.proofs.lemmas.List.Folds.{list_any-append}
use Rattle.std.proofs.lemmas.List.Sorted.{IsPermutation-append_comm, IsPermutation-append_right}
use Rattle.std.proofs.lemmas.Map.Keys.{IsDistinct-push, IsDistinct-IsPermutation, apart_from_distinct}
use Rattle.std.proofs.lemmas.Map.Steps.{length-le_from_distinct_below}
use Rattle.std.proofs.lemmas.Option.{get_or_from_slice_get, slice_get_within}
use Rattle.graphs.specs.Graphs.{Path, last, holds, row_at, goes, AreWithin}
use Rattle.graphs.proofs.NumberLemmas.{same_number, number_self, numbers_equivalence, path-push, holds_at}
use Rattle.graphs.specs.declared.walk.Walk.{Walk}
use Rattle.graphs.specs.Leaving.{IsNest}
use Rattle.graphs.specs.Walking.{AreFlagsOf, ArePassed, IsOpen, IsWalk, Walks, IsNext, IsDone, Advances, has_begun}

or_false : (t : Bool) → (t || false) ≡ t
or_false true = refl
or_false false = refl

or_or : (x y z : Bool) → ((x || y) || z) ≡ (x || (y || z))
or_or true y z = refl
or_or false y z = refl

or_swap : (x y : Bool) → (x || y) ≡ (y || x)
or_swap true true = refl
or_swap true false = refl
or_swap false true = refl
or_swap false false = refl

pub either : (x y : Bool) → (x || y) ≡ true → (x ≡ true) ⊎ (y ≡ true)
either true y h = inl refl
either false y h = inr h

or_left : (x y : Bool) → x ≡ true → (x || y) ≡ true
or_left true y h = refl
or_left false y h = absurd (cc h)

or_right : (x y : Bool) → y ≡ true → (x || y) ≡ true
or_right true y h = refl
or_right false y h = h

-- A list with one more number after it.
holds-both : (ks js : List ℕ) (b : ℕ) → holds (ks ++ js) b ≡ (holds ks b || holds js b)
holds-both ks js b = list_any-append (nat_eq b) ks js

pub holds-pushed : (ks : List ℕ) (a b : ℕ) → holds (ks ++ a ∷ []) b ≡ (nat_eq b a || holds ks b)
holds-pushed ks a b = holds-both ks (a ∷ []) b ∙ ap (λ t. holds ks b || t) (or_false (nat_eq b a)) ∙ or_swap (holds ks b) (nat_eq b a)

pub keeps-pushed : (ks : List ℕ) (a b : ℕ) → holds ks b ≡ true → holds (ks ++ a ∷ []) b ≡ true
keeps-pushed ks a b h = holds-pushed ks a b ∙ or_right (nat_eq b a) (holds ks b) h

pub has-pushed : (ks : List ℕ) (a : ℕ) → holds (ks ++ a ∷ []) a ≡ true
has-pushed ks a = holds-pushed ks a a ∙ or_left (nat_eq a a) (holds ks a) (number_self a)

pub get-front : (ks js : List ℕ) (i : ℕ) → i < length ks → slice_get (ks ++ js) i ≡ slice_get ks i
get-front [] js i h = absurd (omega (arith, h))
get-front (k ∷ ks) js zero h = refl
get-front (k ∷ ks) js (suc i) h = get-front ks js i (omega (arith, h))

pub get-seam : (ks : List ℕ) (a : ℕ) → slice_get (ks ++ a ∷ []) (length ks) ≡ Some a
get-seam [] a = refl
get-seam (k ∷ ks) a = get-seam ks a

pub get-within : (ks : List ℕ) (i a : ℕ) → slice_get ks i ≡ Some a → i < length ks
get-within [] i a h = absurd (cc h)
get-within (k ∷ ks) zero a h = omega arith
get-within (k ∷ ks) (suc i) a h = omega (arith, get-within ks i a h)

get-behind : (ks js : List ℕ) (i : ℕ) → slice_get (ks ++ js) (length ks + i) ≡ slice_get js i
get-behind [] js i = let e : 0 + i ≡ i = omega arith in ap (slice_get js) e
get-behind (k ∷ ks) js i = let e : suc (length ks) + i ≡ suc (length ks + i) = omega arith in ap (slice_get (k ∷ (ks ++ js))) e ∙ get-behind ks js i

take-front : (ks js : List ℕ) (i : ℕ) → i ≤ length ks → take i (ks ++ js) ≡ take i ks
take-front ks js zero h = refl
take-front [] js (suc i) h = absurd (omega (arith, h))
take-front (k ∷ ks) js (suc i) h = ap (λ l. k ∷ l) (take-front ks js i (omega (arith, h)))

take-all : (ks js : List ℕ) → take (length ks) (ks ++ js) ≡ ks
take-all [] js = refl
take-all (k ∷ ks) js = ap (λ l. k ∷ l) (take-all ks js)

take-full : (ks : List ℕ) → take (length ks) ks ≡ ks
take-full [] = refl
take-full (k ∷ ks) = ap (λ l. k ∷ l) (take-full ks)

-- Places of what a list has.
pub found-at : (ks : List ℕ) (a : ℕ) → holds ks a ≡ true → (j : ℕ) × (slice_get ks j ≡ Some a)
found-at [] a h = absurd (cc h)
found-at (k ∷ ks) a h = elim (either (nat_eq a k) (holds ks a) h) [
  | inl p ↦ (0, ap Some (sym (same_number a k p)))
  | inr q ↦ let r = found-at ks a q in (suc r.0, r.1)
]

pub take-at : (ks : List ℕ) (i a : ℕ) → holds (take i ks) a ≡ true → (j : ℕ) × ((j < i) × (slice_get ks j ≡ Some a))
take-at ks zero a h = absurd (let none : false ≡ true = h in cc none)
take-at [] (suc i) a h = absurd (cc h)
take-at (k ∷ ks) (suc i) a h = elim (either (nat_eq a k) (holds (take i ks) a) h) [
  | inl p ↦ (0, (omega arith, ap Some (sym (same_number a k p))))
  | inr q ↦ let r = take-at ks i a q in (suc r.0, (omega (arith, r.1.0), r.1.1))
]

-- A list with no two equal has no number at two places.
pub one-place : (ks : List ℕ) (i j a : ℕ) → IsDistinct nat_eq ks → i < j → slice_get ks i ≡ Some a → slice_get ks j ≡ Some a → ⊥
one-place ks i j a h l at_i at_j =
    let differ = apart_from_distinct nat_eq ks i j 0 h l (slice_get_within ks j a at_j) in
    let first = get_or_from_slice_get ks i a 0 at_i in
    let second = get_or_from_slice_get ks j a 0 at_j in
    grind (arith, nat_tests, differ, first, second)

-- The last place of a list with one more number.
pub place : (ks : List ℕ) (a i x : ℕ) → slice_get (ks ++ a ∷ []) i ≡ Some x → (slice_get ks i ≡ Some x) ⊎ ((i ≡ length ks) × (x ≡ a))
place [] a zero x h = inr (refl, let same : a ≡ x = cc h in sym same)
place [] a (suc i) x h = absurd (cc h)
place (k ∷ ks) a zero x h = inl h
place (k ∷ ks) a (suc i) x h = elim (place ks a i x h) [ inl p ↦ inl p | inr q ↦ inr (ap suc q.0, q.1) ]

-- The list before its last number.
split-at : (ks : List ℕ) (n a : ℕ) → length ks ≡ suc n → slice_get ks n ≡ Some a → ks ≡ take n ks ++ a ∷ []
split-at [] n a e h = absurd (cc h)
split-at (k ∷ []) zero a e h = let same : k ≡ a = cc h in ap (λ x. x ∷ []) same
split-at (k ∷ (j ∷ ks)) zero a e h = absurd (omega (arith, e))
split-at (k ∷ ks) (suc n) a e h = ap (λ l. k ∷ l) (split-at ks n a (omega (arith, e)) h)

last-split : (ks : List ℕ) (a : ℕ) → slice_get ks (length ks - 1) ≡ Some a → ks ≡ take (length ks - 1) ks ++ a ∷ []
last-split ks a h = split-at ks (length ks - 1) a (omega (arith, get-within ks (length ks - 1) a h)) h

-- Places of a row, one by one.
pub take-more : (ks : List ℕ) (i b d : ℕ) → i < length ks → holds (take (i + 1) ks) b ≡ true → (holds (take i ks) b ≡ true) ⊎ (b ≡ slice_index_or ks i d)
take-more [] i b d l h = absurd (omega (arith, l))
take-more (k ∷ ks) zero b d l h = elim (either (nat_eq b k) (holds [] b) h) [ inl p ↦ inr (same_number b k p) | inr q ↦ absurd (cc q) ]
take-more (k ∷ ks) (suc i) b d l h = elim (either (nat_eq b k) (holds (take (i + 1) ks) b) (ap (λ n. holds (take n (k ∷ ks)) b) more ∙ h)) [
  | inl p ↦ inl (or_left (nat_eq b k) (holds (take i ks) b) p)
  | inr q ↦ elim (take-more ks i b d (omega (arith, l)) q) [ inl r ↦ inl (or_right (nat_eq b k) (holds (take i ks) b) r) | inr e ↦ inr e ]
]
  where
    more : suc (i + 1) ≡ suc i + 1
    more = omega arith

pub take-whole : (ks : List ℕ) (i b : ℕ) → length ks ≤ i → holds ks b ≡ true → holds (take i ks) b ≡ true
take-whole [] i b l h = absurd (cc h)
take-whole (k ∷ ks) zero b l h = absurd (omega (arith, l))
take-whole (k ∷ ks) (suc i) b l h = elim (either (nat_eq b k) (holds ks b) h) [
  | inl p ↦ or_left (nat_eq b k) (holds (take i ks) b) p
  | inr q ↦ or_right (nat_eq b k) (holds (take i ks) b) (take-whole ks i b (omega (arith, l)) q)
]

module _ (rows : List (List ℕ)) where
  -- A path with one more number, to which its last one goes.
  leads-pushed : (ps : List ℕ) (c : ℕ) → ((i j a b : ℕ) → i < j → slice_get ps i ≡ Some a → slice_get ps j ≡ Some b → Path (goes rows) a b)
      → ((a : ℕ) → slice_get ps (length ps - 1) ≡ Some a → goes rows a c ≡ true)
      → (i j a b : ℕ) → i < j → slice_get (ps ++ c ∷ []) i ≡ Some a → slice_get (ps ++ c ∷ []) j ≡ Some b → Path (goes rows) a b
  leads-pushed ps c old new i j a b l at_i at_j = by_place (place ps c i a at_i) (place ps c j b at_j)
    where
      from_last : (n : ℕ) → length ps ≡ suc n → slice_get ps i ≡ Some a → Path (goes rows) a c
      from_last n e p = at_end (nat_eq i n) refl
        where
          last_of : (k : ℕ) (ks : List ℕ) → k < length ks → (z : ℕ) × (slice_get ks k ≡ Some z)
          last_of k [] h = absurd (omega (arith, h))
          last_of zero (x ∷ xs) h = (x, refl)
          last_of (suc k) (x ∷ xs) h = last_of k xs (omega (arith, h))

          spot : length ps - 1 ≡ n
          spot = omega (arith, e)

          at_end : (t : Bool) → nat_eq i n ≡ t → Path (goes rows) a c
          at_end true s =
              let here : slice_get ps (length ps - 1) ≡ Some a = ap (slice_get ps) (spot ∙ sym (same_number i n s)) ∙ p in
              last a c (new a here)
          at_end false s =
              let m = last_of n ps (omega (arith, e)) in
              let inside : i < length ps = get-within ps i a p in
              let below : i < n = grind (arith, nat_tests, s, inside, e) in
              path-push (goes rows) a m.0 c (old i n a m.0 below p m.1) (new m.0 (ap (slice_get ps) spot ∙ m.1))

      to_last : (ks : List ℕ) → ks ≡ ps → slice_get ps i ≡ Some a → Path (goes rows) a c
      to_last [] e p = absurd (let none : slice_get [] i ≡ Some a = ap (λ ks. slice_get ks i) e ∙ p in cc none)
      to_last (k ∷ ks) e p = from_last (length ks) (sym (ap length e)) p

      by_place : (slice_get ps i ≡ Some a) ⊎ ((i ≡ length ps) × (a ≡ c)) → (slice_get ps j ≡ Some b) ⊎ ((j ≡ length ps) × (b ≡ c)) → Path (goes rows) a b
      by_place (inl p) (inl q) = old i j a b l p q
      by_place (inl p) (inr q) = let P : ℕ → Type 0 = Path (goes rows) a in subst P (sym q.1) (to_last ps refl p)
      by_place (inr p) (inl q) = absurd (let inside = get-within ps j b q in omega (arith, inside, l, p.0))
      by_place (inr p) (inr q) = absurd (omega (arith, l, p.0, q.0))

  -- The walk goes on to a number that isn't in it. What is open stays so, and nothing was left since the number was begun.
  enter-opened : (os ps : List ℕ) (c : ℕ) → IsWalk rows os ps → (p a : ℕ) → slice_get (ps ++ c ∷ []) p ≡ Some a → (from : ℕ) × IsOpen rows os (ps ++ c ∷ []) from p a
  enter-opened os ps c h p a at = by_place (place ps c p a at)
    where
      by_place : (slice_get ps p ≡ Some a) ⊎ ((p ≡ length ps) × (a ≡ c)) → (from : ℕ) × IsOpen rows os (ps ++ c ∷ []) from p a
      by_place (inl k) =
          let old = h.opened p a k in
          let same : take p (ps ++ c ∷ []) ≡ take p ps = take-front ps (c ∷ []) p (omega (arith, get-within ps p a k)) in (
            old.0,
            record {
              upto = old.1.upto;
              met = old.1.met;
              before = λ j b d l m g. ap (λ t. holds (take old.0 os ++ t) d) same ∙ old.1.before j b d l m g;
            },
          )
      by_place (inr e) =
          let same : take p (ps ++ c ∷ []) ≡ ps = ap (λ n. take n (ps ++ c ∷ [])) e.0 ∙ take-all ps (c ∷ []) in (
            length os,
            record {
              upto = omega arith;
              met = λ j b l m. absurd (let inside = get-within os j b m in omega (arith, inside, l));
              before = λ j b d l m g. ap (λ t. holds (take (length os) os ++ t) d) same ∙ ap (λ t. holds (t ++ ps) d) (take-full os) ∙ h.told j b d m g;
            },
          )

  enter-walk : (os ps : List ℕ) (c : ℕ) → IsWalk rows os ps → c < length rows → holds (os ++ ps) c ≡ false
      → ((a : ℕ) → slice_get ps (length ps - 1) ≡ Some a → goes rows a c ≡ true) → IsWalk rows os (ps ++ c ∷ [])
  enter-walk os ps c h below fresh next =
      let assoc : (os ++ ps) ++ c ∷ [] ≡ os ++ (ps ++ c ∷ []) = append_assoc os ps (c ∷ []) in record {
        told = λ i a b at g. ap (λ l. holds l b) (sym assoc) ∙ keeps-pushed (os ++ ps) c b (h.told i a b at g);
        back = h.back;
        left = h.left;
        opened = enter-opened os ps c h;
        leads = leads-pushed ps c h.leads next;
        within = λ b k. inside b (either (nat_eq b c) (holds (os ++ ps) b) (sym (holds-pushed (os ++ ps) c b) ∙ ap (λ l. holds l b) assoc ∙ k));
        once = let P : List ℕ → Type 0 = IsDistinct nat_eq in subst P assoc (IsDistinct-push numbers_equivalence (os ++ ps) c h.once fresh);
      }
    where
      inside : (b : ℕ) → (nat_eq b c ≡ true) ⊎ (holds (os ++ ps) b ≡ true) → b < length rows
      inside b (inl e) = let P : ℕ → Type 0 = λ x. x < length rows in subst P (sym (same_number b c e)) below
      inside b (inr k) = h.within b k

  moved : (os front : List ℕ) (a b : ℕ) → holds ((os ++ a ∷ []) ++ front) b ≡ holds (os ++ (front ++ a ∷ [])) b
  moved os front a b =
      holds-both (os ++ a ∷ []) front b ∙ ap (λ t. t || holds front b) (holds-both os (a ∷ []) b) ∙ or_or (holds os b) (holds (a ∷ []) b) (holds front b)
      ∙ ap (λ t. holds os b || t) (or_swap (holds (a ∷ []) b) (holds front b) ∙ sym (holds-both front (a ∷ []) b)) ∙ sym (holds-both os (front ++ a ∷ []) b)

  -- The walk comes back from the last number of the path, with all of whose row it has begun.
  module _ (os front : List ℕ) (a : ℕ) (h : IsWalk rows os (front ++ a ∷ [])) (whole : (b : ℕ) → goes rows a b ≡ true → holds (os ++ (front ++ a ∷ [])) b ≡ true) where
    once-left : IsDistinct nat_eq ((os ++ a ∷ []) ++ front)
    once-left =
        let P : List ℕ → Type 0 = IsDistinct nat_eq in
        let permuted = IsPermutation-append_right os (front ++ a ∷ []) (a ∷ [] ++ front) (IsPermutation-append_comm front (a ∷ [])) in
        subst P (sym (append_assoc os (a ∷ []) front)) (IsDistinct-IsPermutation nat_eq flips (os ++ (front ++ a ∷ [])) (os ++ (a ∷ [] ++ front)) permuted h.once)
      where
        flips : (x y : ℕ) → nat_eq x y ≡ nat_eq y x
        flips x y = grind (arith, nat_tests)

    told-left : (i x b : ℕ) → slice_get (os ++ a ∷ []) i ≡ Some x → goes rows x b ≡ true → holds ((os ++ a ∷ []) ++ front) b ≡ true
    told-left i x b at g = moved os front a b ∙ by_place (place os a i x at)
      where
        by_place : (slice_get os i ≡ Some x) ⊎ ((i ≡ length os) × (x ≡ a)) → holds (os ++ (front ++ a ∷ [])) b ≡ true
        by_place (inl k) = h.told i x b k g
        by_place (inr e) = whole b (ap (λ y. goes rows y b) (sym e.1) ∙ g)

    -- What the number goes to was left before, or stands on the path, and so has a way to it.
    way-back : (b : ℕ) → goes rows a b ≡ true → (holds os b ≡ true) ⊎ Path (goes rows) b a
    way-back b g = by_list (either (holds os b) (holds (front ++ a ∷ []) b) (sym (holds-both os (front ++ a ∷ []) b) ∙ whole b g))
      where
        by_list : (holds os b ≡ true) ⊎ (holds (front ++ a ∷ []) b ≡ true) → (holds os b ≡ true) ⊎ Path (goes rows) b a
        by_list (inl k) = inl k
        by_list (inr k) =
            let r = found-at (front ++ a ∷ []) b k in
            inr (by_place r.0 (place front a r.0 b r.1))
          where
            by_place : (j : ℕ) → (slice_get front j ≡ Some b) ⊎ ((j ≡ length front) × (b ≡ a)) → Path (goes rows) b a
            by_place j (inl m) =
                let inside = get-within front j b m in
                h.leads j (length front) b a inside (get-front front (a ∷ []) j inside ∙ m) (get-seam front a)
            by_place j (inr e) =
                let P : ℕ → Type 0 = λ y. Path (goes rows) y a in
                subst P (sym e.1) (last a a (ap (goes rows a) (sym e.1) ∙ g))

    back-left : (i x b : ℕ) → slice_get (os ++ a ∷ []) i ≡ Some x → goes rows x b ≡ true → (holds (take i (os ++ a ∷ [])) b ≡ true) ⊎ Path (goes rows) b x
    back-left i x b at g = by_place (place os a i x at)
      where
        by_place : (slice_get os i ≡ Some x) ⊎ ((i ≡ length os) × (x ≡ a)) → (holds (take i (os ++ a ∷ [])) b ≡ true) ⊎ Path (goes rows) b x
        by_place (inl k) =
            let same : take i (os ++ a ∷ []) ≡ take i os = take-front os (a ∷ []) i (omega (arith, get-within os i x k)) in
            let P : List ℕ → Type 0 = λ l. (holds l b ≡ true) ⊎ Path (goes rows) b x in
            subst P (sym same) (h.back i x b k g)
        by_place (inr e) =
            let same : take i (os ++ a ∷ []) ≡ os = ap (λ n. take n (os ++ a ∷ [])) e.0 ∙ take-all os (a ∷ []) in
            let P : List ℕ → Type 0 = λ l. (holds l b ≡ true) ⊎ Path (goes rows) b x in
            let Q : ℕ → Type 0 = λ y. (holds os b ≡ true) ⊎ Path (goes rows) b y in
            subst P (sym same) (subst Q (sym e.1) (way-back b (ap (λ y. goes rows y b) (sym e.1) ∙ g)))

    -- A number that was left keeps its nest.
    nest-kept : (i x from : ℕ) → i < length os → IsNest (goes rows) os from i x → IsNest (goes rows) (os ++ a ∷ []) from i x
    nest-kept i x from inside n = record {
      upto = n.upto;
      met = λ j b l m at. n.met j b l m (sym (get-front os (a ∷ []) j (omega (arith, m, inside))) ∙ at);
      apart = λ j m b c l k u at_j at_m g.
          n.apart j m b c l k u (sym (get-front os (a ∷ []) j (omega (arith, l, k, u, inside))) ∙ at_j) (sym (get-front os (a ∷ []) m (omega (arith, u, inside))) ∙ at_m) g;
    }

    -- The number that is left has one.
    nest-made : (from : ℕ) → IsOpen rows os (front ++ a ∷ []) from (length front) a → IsNest (goes rows) (os ++ a ∷ []) from (length os) a
    nest-made from o = record {
      upto = o.upto;
      met = λ j b l m at. o.met j b l (sym (get-front os (a ∷ []) j m) ∙ at);
      apart = apart;
    }
      where
        apart : (j m b c : ℕ) → j < from → from ≤ m → m ≤ length os → slice_get (os ++ a ∷ []) j ≡ Some b → slice_get (os ++ a ∷ []) m ≡ Some c → goes rows b c ≡ true → ⊥
        apart j m b c l k u at_j at_m g =
            let early : slice_get os j ≡ Some b = sym (get-front os (a ∷ []) j (omega (arith, l, o.upto))) ∙ at_j in
            let known = ap (λ t. holds (take from os ++ t) c) (sym (take-all front (a ∷ []))) ∙ o.before j b c l early g in
            by_list (either (holds (take from os) c) (holds front c) (sym (holds-both (take from os) front c) ∙ known))
          where
            here : slice_get ((os ++ a ∷ []) ++ front) m ≡ Some c
            here = get-front (os ++ a ∷ []) front m (get-within (os ++ a ∷ []) m c at_m) ∙ at_m

            by_list : (holds (take from os) c ≡ true) ⊎ (holds front c ≡ true) → ⊥
            by_list (inl t) =
                let r = take-at os from c t in
                let inside : r.0 < length os = get-within os r.0 c r.1.1 in
                let there : slice_get ((os ++ a ∷ []) ++ front) r.0 ≡ Some c =
                get-front (os ++ a ∷ []) front r.0 (omega (arith, inside, length-append os (a ∷ []))) ∙ get-front os (a ∷ []) r.0 inside ∙ r.1.1 in
                one-place ((os ++ a ∷ []) ++ front) r.0 m c once-left (omega (arith, r.1.0, k)) there here
            by_list (inr t) =
                let r = found-at front c t in
                let there : slice_get ((os ++ a ∷ []) ++ front) (length (os ++ a ∷ []) + r.0) ≡ Some c = get-behind (os ++ a ∷ []) front r.0 ∙ r.1 in
                one-place ((os ++ a ∷ []) ++ front) m (length (os ++ a ∷ []) + r.0) c once-left (omega (arith, u, length-append os (a ∷ []))) here there

    left-left : (i x : ℕ) → slice_get (os ++ a ∷ []) i ≡ Some x → (from : ℕ) × IsNest (goes rows) (os ++ a ∷ []) from i x
    left-left i x at = by_place (place os a i x at)
      where
        by_place : (slice_get os i ≡ Some x) ⊎ ((i ≡ length os) × (x ≡ a)) → (from : ℕ) × IsNest (goes rows) (os ++ a ∷ []) from i x
        by_place (inl k) = let old = h.left i x k in (old.0, nest-kept i x old.0 (get-within os i x k) old.1)
        by_place (inr e) =
            let o = h.opened (length front) a (get-seam front a) in
            let P : ℕ → Type 0 = λ y. IsNest (goes rows) (os ++ a ∷ []) o.0 y x in
            let Q : ℕ → Type 0 = λ y. IsNest (goes rows) (os ++ a ∷ []) o.0 (length os) y in
            (o.0, subst P (sym e.0) (subst Q (sym e.1) (nest-made o.0 o.1)))

    -- What is open stays so: a way leads from it to the number that is left.
    open-kept : (p x from : ℕ) → slice_get front p ≡ Some x → IsOpen rows os (front ++ a ∷ []) from p x → IsOpen rows (os ++ a ∷ []) front from p x
    open-kept p x from at o = record {
      upto = omega (arith, o.upto, length-append os (a ∷ []));
      met = λ j b l m. by_place j b l (place os a j b m);
      before = λ j b c l m g.
          let early : slice_get os j ≡ Some b = sym (get-front os (a ∷ []) j (omega (arith, l, o.upto))) ∙ m in
          ap (λ t. holds (t ++ take p front) c) (take-front os (a ∷ []) from o.upto)
          ∙ ap (λ t. holds (take from os ++ t) c) (sym (take-front front (a ∷ []) p (omega (arith, inside)))) ∙ o.before j b c l early g;
    }
      where
        inside : p < length front
        inside = get-within front p x at

        by_place : (j b : ℕ) → from ≤ j → (slice_get os j ≡ Some b) ⊎ ((j ≡ length os) × (b ≡ a)) → Path (goes rows) x b
        by_place j b l (inl k) = o.met j b l k
        by_place j b l (inr e) =
            let P : ℕ → Type 0 = Path (goes rows) x in
            subst P (sym e.1) (h.leads p (length front) x a inside (get-front front (a ∷ []) p inside ∙ at) (get-seam front a))

    opened-left : (p x : ℕ) → slice_get front p ≡ Some x → (from : ℕ) × IsOpen rows (os ++ a ∷ []) front from p x
    opened-left p x at =
        let old = h.opened p x (get-front front (a ∷ []) p (get-within front p x at) ∙ at) in
        (old.0, open-kept p x old.0 at old.1)

    leave-front : IsWalk rows (os ++ a ∷ []) front
    leave-front = record {
      told = told-left;
      back = back-left;
      left = left-left;
      opened = opened-left;
      leads = λ i j x y l p q. h.leads i j x y l (get-front front (a ∷ []) i (get-within front i x p) ∙ p) (get-front front (a ∷ []) j (get-within front j y q) ∙ q);
      within = λ b k. h.within b (sym (moved os front a b) ∙ k);
      once = once-left;
    }

  leave-walk : (os ps : List ℕ) (a : ℕ) → IsWalk rows os ps → slice_get ps (length ps - 1) ≡ Some a → ((b : ℕ) → goes rows a b ≡ true → holds (os ++ ps) b ≡ true)
      → IsWalk rows (os ++ a ∷ []) (take (length ps - 1) ps)
  leave-walk os ps a h is whole =
      let P : List ℕ → Type 0 = IsWalk rows os in
      let Q : List ℕ → Type 0 = λ l. (b : ℕ) → goes rows a b ≡ true → holds (os ++ l) b ≡ true in
      let split = last-split ps a is in
      leave-front os (take (length ps - 1) ps) a (subst P split h) (subst Q split whole)

  -- What was begun is the same.
  leave-begun : (os ps : List ℕ) (a b : ℕ) → slice_get ps (length ps - 1) ≡ Some a → holds ((os ++ a ∷ []) ++ take (length ps - 1) ps) b ≡ holds (os ++ ps) b
  leave-begun os ps a b is = moved os (take (length ps - 1) ps) a b ∙ ap (λ l. holds (os ++ l) b) (sym (last-split ps a is))

  -- No more numbers were begun than the graph has.
  pub walk-few : (os ps : List ℕ) → IsWalk rows os ps → length os + length ps ≤ length rows
  walk-few os ps h = omega (arith, length-append os ps, length-le_from_distinct_below (os ++ ps) (length rows) h.once h.within)

-- Flags of numbers, one by one.
flags-none : (n : ℕ) (flags : List Bool) → length flags ≡ n → ((b : ℕ) (d : Bool) → b < n → slice_index_or flags b d ≡ false) → AreFlagsOf n flags []
flags-none n flags long none = record { len = long; same = λ b d l. none b d l }

pub flags-set : (n : ℕ) (old new : List Bool) (old_numbers new_numbers : List ℕ) (a : ℕ) → AreFlagsOf n old old_numbers → length new ≡ length old
    → ((b : ℕ) (d : Bool) → b < length old → slice_index_or new b d ≡ (nat_eq b a || slice_index_or old b d)) → ((b : ℕ) → holds new_numbers b ≡ (nat_eq b a || holds old_numbers b))
    → AreFlagsOf n new new_numbers
flags-set n old new old_numbers new_numbers a h long set pushed = record {
  len = long ∙ h.len;
  same = λ b d l. set b d (omega (arith, l, h.len)) ∙ ap (λ t. nat_eq b a || t) (h.same b d l) ∙ sym (pushed b);
}

flags-same : (n : ℕ) (flags : List Bool) (old new : List ℕ) → AreFlagsOf n flags old → ((b : ℕ) → holds new b ≡ holds old b) → AreFlagsOf n flags new
flags-same n flags old new h same = record { len = h.len; same = λ b d l. h.same b d l ∙ sym (same b) }

passed-none : (rows : List (List ℕ)) (passed : List ℕ) → length passed ≡ length rows → ((b d : ℕ) → b < length rows → slice_index_or passed b d ≡ 0) → ArePassed rows [] passed
passed-none rows passed long zeros = record {
  len = long;
  front = λ a b d l h. absurd (nothing (row_at rows a) b (sym (ap (λ n. holds (take n (row_at rows a)) b) (zeros a d l)) ∙ h));
}
  where
    nothing : (row : List ℕ) (b : ℕ) → holds (take 0 row) b ≡ true → ⊥
    nothing row b h = cc h

passed-keeps : (rows : List (List ℕ)) (old new passed : List ℕ) → ArePassed rows old passed → ((b : ℕ) → holds old b ≡ true → holds new b ≡ true) → ArePassed rows new passed
passed-keeps rows old new passed h keeps = record { len = h.len; front = λ a b d l k. keeps b (h.front a b d l k) }

-- Steps of a walk.
walk-same : (rows : List (List ℕ)) (os ps os' ps' : List ℕ) → os' ≡ os → ps' ≡ ps → IsWalk rows os ps → IsWalk rows os' ps'
walk-same rows os ps os' ps' e f h =
    let P : List ℕ → Type 0 = λ l. IsWalk rows l ps in
    let Q : List ℕ → Type 0 = λ l. IsWalk rows os' l in
    subst Q (sym f) (subst P (sym e) h)

module _ (rows : List (List ℕ)) (old new : Walk) (a : ℕ) (passed : new.passed.items ≡ old.passed.items) (walks : Walks rows old) where
  passed-more : ((b : ℕ) → has_begun old b ≡ true → has_begun new b ≡ true) → ArePassed rows (new.order.items ++ new.path.items) new.passed.items
  passed-more keeps =
      let P : List ℕ → Type 0 = ArePassed rows (new.order.items ++ new.path.items) in
      subst P (sym passed) (passed-keeps rows (old.order.items ++ old.path.items) (new.order.items ++ new.path.items) old.passed.items walks.passed keeps)

  pub enter-advances : new.order.items ≡ old.order.items → new.path.items ≡ old.path.items ++ a ∷ [] → length new.begun.items ≡ length old.begun.items
      → ((b : ℕ) (d : Bool) → b < length old.begun.items → slice_index_or new.begun.items b d ≡ (nat_eq b a || slice_index_or old.begun.items b d))
      → IsNext rows old a → Advances rows old new
  enter-advances order path long set next = record {
    walks = record { going = going; begun = begun; passed = passed-more keeps };
    remembers = keeps;
    falls = omega (arith, walk-few rows new.order.items new.path.items going, ap length order, ap length path, length-append old.path.items (a ∷ []));
  }
    where
      both_lists : (b : ℕ) → has_begun new b ≡ (nat_eq b a || has_begun old b)
      both_lists b =
          ap (λ l. holds (l ++ new.path.items) b) order ∙ ap (λ l. holds (old.order.items ++ l) b) path
          ∙ sym (ap (λ l. holds l b) (append_assoc old.order.items old.path.items (a ∷ []))) ∙ holds-pushed (old.order.items ++ old.path.items) a b

      keeps : (b : ℕ) → has_begun old b ≡ true → has_begun new b ≡ true
      keeps b h = both_lists b ∙ or_right (nat_eq b a) (has_begun old b) h

      going : IsWalk rows new.order.items new.path.items
      going = walk-same rows old.order.items (old.path.items ++ a ∷ []) new.order.items new.path.items order path (enter-walk rows old.order.items old.path.items a walks.going next.below next.fresh next.led)

      begun : AreFlagsOf (length rows) new.begun.items (new.order.items ++ new.path.items)
      begun = flags-set (length rows) old.begun.items new.begun.items (old.order.items ++ old.path.items) (new.order.items ++ new.path.items) a walks.begun long set both_lists

  pub leave-advances : new.order.items ≡ old.order.items ++ a ∷ [] → new.path.items ≡ take (length old.path.items - 1) old.path.items → new.begun.items ≡ old.begun.items
      → IsDone rows old a → Advances rows old new
  leave-advances order path begun done = record {
    walks = record { going = going; begun = begun_same; passed = passed-more (λ b h. both_lists b ∙ h) };
    remembers = λ b h. both_lists b ∙ h;
    falls = omega (
      arith,
      walk-few rows new.order.items new.path.items going,
      ap length order,
      ap length path,
      length-append old.order.items (a ∷ []),
      ap length (last-split old.path.items a done.last),
      length-append (take (length old.path.items - 1) old.path.items) (a ∷ []),
    );
  }
    where
      both_lists : (b : ℕ) → has_begun new b ≡ has_begun old b
      both_lists b =
          ap (λ l. holds (l ++ new.path.items) b) order ∙ ap (λ l. holds ((old.order.items ++ a ∷ []) ++ l) b) path
          ∙ leave-begun rows old.order.items old.path.items a b done.last

      going : IsWalk rows new.order.items new.path.items
      going =
          walk-same rows (old.order.items ++ a ∷ []) (take (length old.path.items - 1) old.path.items) new.order.items new.path.items order path
          (leave-walk rows old.order.items old.path.items a walks.going done.last done.whole)

      begun_same : AreFlagsOf (length rows) new.begun.items (new.order.items ++ new.path.items)
      begun_same =
          let P : List Bool → Type 0 = λ l. AreFlagsOf (length rows) l (new.order.items ++ new.path.items) in
          subst P (sym begun) (flags-same (length rows) old.begun.items (old.order.items ++ old.path.items) (new.order.items ++ new.path.items) walks.begun both_lists)

-- No walk yet.
pub nothing-walked : (rows : List (List ℕ)) (walk : Walk) (n : ℕ) → length rows ≡ n → walk.order.items ≡ [] → walk.path.items ≡ []
    → length walk.begun.items ≡ n → ((b : ℕ) (d : Bool) → b < n → slice_index_or walk.begun.items b d ≡ false)
    → length walk.passed.items ≡ n → ((b d : ℕ) → b < n → slice_index_or walk.passed.items b d ≡ 0)
    → Walks rows walk
unfolding IsDistinct
nothing-walked rows walk n e order path long_b begun long zeros = record {
  going = walk-same rows [] [] walk.order.items walk.path.items order path none;
  begun =
      let P : List ℕ → Type 0 = λ l. AreFlagsOf (length rows) walk.begun.items l in
      subst P (sym both_lists) (flags-none (length rows) walk.begun.items (long_b ∙ sym e) (λ b d l. begun b d (omega (arith, l, e))));
  passed =
      let P : List ℕ → Type 0 = λ l. ArePassed rows l walk.passed.items in
      subst P (sym both_lists) (passed-none rows walk.passed.items (long ∙ sym e) (λ b d l. zeros b d (omega (arith, l, e))));
}
  where
    both_lists : walk.order.items ++ walk.path.items ≡ []
    both_lists = ap (λ l. l ++ walk.path.items) order ∙ path

    none : IsWalk rows [] []
    none = record {
      told = λ i a b h. absurd (cc h);
      back = λ i a b h. absurd (cc h);
      left = λ i a h. absurd (cc h);
      opened = λ p a h. absurd (cc h);
      leads = λ i j a b l h. absurd (cc h);
      within = λ b h. absurd (cc h);
      once = tt;
    }

-- What a row has is what a number goes to, and what was passed of it was begun.
module _ (rows : List (List ℕ)) (walk : Walk) (a : ℕ) (row : List ℕ) (walks : Walks rows walk) (row_is : row ≡ row_at rows a) where
  begun-flag : (b : ℕ) → has_begun walk b ≡ true → slice_index_or walk.begun.items b false ≡ true
  begun-flag b h = walks.begun.same b false (walks.going.within b h) ∙ h

  pub goes-row : (b : ℕ) → goes rows a b ≡ holds row b
  goes-row b = ap (λ r. holds r b) (sym row_is)

  pub passed-flags : a < length rows → (from b : ℕ) → from ≡ slice_index_or walk.passed.items a from → holds (take from row) b ≡ true → slice_index_or walk.begun.items b false ≡ true
  passed-flags inside from b is h =
      begun-flag b (walks.passed.front a b from inside (sym (ap (λ n. holds (take n (row_at rows a)) b) is) ∙ ap (λ r. holds (take from r) b) (sym row_is) ∙ h))

  pub flags-begun : AreWithin rows (length rows) → (b : ℕ) → goes rows a b ≡ true → (t : Bool) → slice_index_or walk.begun.items b false ≡ t → has_begun walk b ≡ t
  flags-begun within b g t h = sym (walks.begun.same b false (within a b g)) ∙ h

-- The last of the path is a number of the graph.
pub last-within : (rows : List (List ℕ)) (walk : Walk) (a : ℕ) → Walks rows walk → slice_get walk.path.items (length walk.path.items - 1) ≡ Some a → a < length rows
last-within rows walk a h e =
    h.going.within a (holds-both walk.order.items walk.path.items a ∙ or_right (holds walk.order.items a) (holds walk.path.items a) (holds_at walk.path.items (length walk.path.items - 1) a e))
