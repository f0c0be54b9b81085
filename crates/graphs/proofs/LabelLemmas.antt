-- Labels are given in rounds, and numbers with one label are tied.
use Rattle.std.proofs.Common.{◌≡◌, ◌⊎◌, ℕ, zero, suc, ◌+◌, ◌<◌, ◌≤◌, ◌||◌, Bool, true, false, if◌then◌else◌, List, [], ◌∷◌, ◌++◌, length, take, Some, slice_get, nat_eq, nat_lt, slice_index_or, refl, sym, ap, ◌∙◌, subst, inl, inr, arith}
use Rattle.std.specs.List.{IsDistinct}
use Rattle.std.proofs.lemmas.Bool.Decides.{nat_tests}
use Rattle.std.proofs.lemmas.Map.Keys.{IsDistinct-push}
use Rattle.std.proofs.lemmas.Map.Steps.{length-le_from_distinct_below}
use Rattle.graphs.specs.Graphs.{Path, last, more, holds, goes}
use Rattle.graphs.proofs.NumberLemmas.{same_number, number_self, numbers_equivalence, holds_at}
use Rattle.graphs.specs.Leaving.{IsLeaving}
use Rattle.graphs.specs.Labels.{goes_back, label, AreTied, AreLabels, AreGiven, AreJoined, IsRound}
use Rattle.graphs.proofs.WalkLemmas.{either, found-at, place, get-front, get-within, holds-pushed, keeps-pushed, has-pushed, take-more}
use Rattle.graphs.proofs.OrderLemmas.{all-held}

not_both : (t : Bool) → t ≡ true → t ≡ false → ⊥
not_both true h k = cc k
not_both false h k = cc h

-- What stands at a place of a list, as it is read.
pub place-read : (ks : List ℕ) (p b : ℕ) → p < length ks → b ≡ slice_index_or ks p b → slice_get ks p ≡ Some b
place-read [] p b l e = absurd (omega (arith, l))
place-read (k ∷ ks) zero b l e = ap (λ x. Some x) (sym e)
place-read (k ∷ ks) (suc p) b l e = place-read ks p b (omega (arith, l)) e

pub label-read : (ks : List ℕ) (b l : ℕ) → b < length ks → l ≡ slice_index_or ks b l → label ks b ≡ l
label-read [] b l m e = absurd (omega (arith, m))
label-read (k ∷ ks) zero l m e = sym e
label-read (k ∷ ks) (suc b) l m e = label-read ks b l (omega (arith, m)) e

-- Numbers that are tied.
path-join : (step : ℕ → ℕ → Bool) (a b c : ℕ) → Path step a b → Path step b c → Path step a c
path-join step _ _ c (last a b s) q = more a b c s q
path-join step _ _ c (more a b d s p) q = more a b c s (path-join step b d c p q)

module _ (step : ℕ → ℕ → Bool) where
  tied-back : (a b : ℕ) → AreTied step a b → AreTied step b a
  tied-back a b (inl e) = inl (sym e)
  tied-back a b (inr p) = inr (p.1, p.0)

  tied-both : (a b r : ℕ) → AreTied step a r → AreTied step b r → AreTied step a b
  tied-both a b r (inl e) q = let P : ℕ → Type 0 = λ x. AreTied step x b in subst P (sym e) (tied-back b r q)
  tied-both a b r (inr p) (inl e) = let P : ℕ → Type 0 = AreTied step a in subst P (sym e) (inr p)
  tied-both a b r (inr p) (inr q) = inr (path-join step a r b p.0 q.1, path-join step b r a q.0 p.1)

  tied-step : (a b r : ℕ) → step a b ≡ true → AreTied step b r → Path step a r
  tied-step a b r g (inl e) = let P : ℕ → Type 0 = Path step a in subst P e (last a b g)
  tied-step a b r g (inr p) = more a b r g p.0

-- A list with one label set.
label-out : (ks : List ℕ) (b : ℕ) → length ks ≤ b → label ks b ≡ 0
label-out [] b l = refl
label-out (k ∷ ks) zero l = absurd (omega (arith, l))
label-out (k ∷ ks) (suc b) l = label-out ks b (omega (arith, l))

module _ (old new : List ℕ) (a l : ℕ) (inside : a < length old) (len : length new ≡ length old)
    (set : (b d : ℕ) → b < length old → slice_index_or new b d ≡ (if nat_eq b a then l else slice_index_or old b d)) where
  set-here : label new a ≡ l
  set-here = set a 0 inside ∙ ap (λ (t : Bool). if t then l else slice_index_or old a 0) (number_self a)

  set-other : (b : ℕ) → nat_eq b a ≡ false → label new b ≡ label old b
  set-other b e = by_test (nat_lt b (length old)) refl
    where
      by_test : (t : Bool) → nat_lt b (length old) ≡ t → label new b ≡ label old b
      by_test true t =
          let below : b < length old = grind (arith, nat_tests, t) in
          set b 0 below ∙ ap (λ (u : Bool). if u then l else slice_index_or old b 0) e
      by_test false t =
          let over : length old ≤ b = grind (arith, nat_tests, t) in
          label-out new b (omega (arith, over, len)) ∙ sym (label-out old b over)

-- The label of a round, as the code counts it.
pub next-label : (old new : List ℕ) (a i : ℕ) → ((b d : ℕ) → b < length old → slice_index_or new b d ≡ (if nat_eq b a then i + 1 else slice_index_or old b d))
    → (b d : ℕ) → b < length old → slice_index_or new b d ≡ (if nat_eq b a then suc i else slice_index_or old b d)
next-label old new a i set b d l =
    let e : i + 1 ≡ suc i = omega arith in
    set b d l ∙ ap (λ (m : ℕ). if nat_eq b a then m else slice_index_or old b d) e

-- A number that has a label stands in the queue.
pub label-held : (n : ℕ) (step : ℕ → ℕ → Bool) (order labels queue : List ℕ) (i a : ℕ) → AreGiven n step order labels queue i → (label labels a ≡ 0 → ⊥) → holds queue a ≡ true
label-held n step order labels queue i a given some = by_label (label labels a) refl
  where
    by_label : (l : ℕ) → label labels a ≡ l → holds queue a ≡ true
    by_label zero e = absurd (some e)
    by_label (suc k) e = given.only a k e

-- One more label.
module _ (n : ℕ) (step : ℕ → ℕ → Bool) (order old new queue longer : List ℕ) (i a : ℕ) (given : AreGiven n step order old queue i)
    (free : label old a ≡ 0) (below : a < n) (len : length new ≡ length old) (pushed : longer ≡ queue ++ a ∷ [])
    (set : (b d : ℕ) → b < length old → slice_index_or new b d ≡ (if nat_eq b a then suc i else slice_index_or old b d)) where
  inside : a < length old
  inside = omega (arith, below, given.len)

  pub here : label new a ≡ suc i
  here = set-here old new a (suc i) inside len set

  other : (b : ℕ) → nat_eq b a ≡ false → label new b ≡ label old b
  other = set-other old new a (suc i) inside len set

  out : holds queue a ≡ false
  out = by_test (holds queue a) refl
    where
      by_test : (t : Bool) → holds queue a ≡ t → t ≡ false
      by_test true t = absurd (let r = given.has a t in omega (arith, r.1, free))
      by_test false t = refl

  held : (b : ℕ) → holds longer b ≡ (nat_eq b a || holds queue b)
  held b = ap (λ l. holds l b) pushed ∙ holds-pushed queue a b

  which : (b : ℕ) → holds longer b ≡ true → (b ≡ a) ⊎ (holds queue b ≡ true)
  which b h = elim (either (nat_eq b a) (holds queue b) (sym (held b) ∙ h)) [ inl p ↦ inl (same_number b a p) | inr q ↦ inr q ]

  pub keeps : (b : ℕ) → holds queue b ≡ true → holds longer b ≡ true
  keeps b h = ap (λ l. holds l b) pushed ∙ keeps-pushed queue a b h

  pub joins : holds longer a ≡ true
  joins = ap (λ l. holds l a) pushed ∙ has-pushed queue a

  apart : (b : ℕ) → holds queue b ≡ true → nat_eq b a ≡ false
  apart b h = by_test (nat_eq b a) refl
    where
      by_test : (t : Bool) → nat_eq b a ≡ t → t ≡ false
      by_test true t = absurd (not_both (holds queue a) (ap (holds queue) (sym (same_number b a t)) ∙ h) out)
      by_test false t = refl

  same : (b : ℕ) → holds queue b ≡ true → label new b ≡ label old b
  same b h = other b (apart b h)

  which-label : (b k : ℕ) → label new b ≡ suc k → ((b ≡ a) × (k ≡ i)) ⊎ (label old b ≡ suc k)
  which-label b k h = by_test (nat_eq b a) refl
    where
      by_test : (t : Bool) → nat_eq b a ≡ t → ((b ≡ a) × (k ≡ i)) ⊎ (label old b ≡ suc k)
      by_test true t =
          let e : b ≡ a = same_number b a t in
          let both : label new b ≡ suc i = ap (label new) e ∙ here in
          inl (e, omega (arith, both, h))
      by_test false t = inr (sym (other b t) ∙ h)

  rises : (b : ℕ) → label old b ≤ label new b
  rises b = by_test (nat_eq b a) refl
    where
      by_test : (t : Bool) → nat_eq b a ≡ t → label old b ≤ label new b
      by_test true t = let none : label old b ≡ 0 = ap (label old) (same_number b a t) ∙ free in omega (arith, none)
      by_test false t = omega (arith, other b t)

  given-more : (r : ℕ) → slice_get order i ≡ Some r → AreTied step a r → AreGiven n step order new longer i
  given-more r is tied = record {
    len = len ∙ given.len;
    has = λ b h. has b (which b h);
    only = λ b k h. only b k (which-label b k h);
    within = λ b h. within b (which b h);
    once = let P : List ℕ → Type 0 = IsDistinct nat_eq in subst P (sym pushed) (IsDistinct-push numbers_equivalence queue a given.once out);
    lowest = λ b k h. lowest b k (which-label b k h);
    roots = λ b k h. roots b k (which-label b k h);
  }
    where
      has : (b : ℕ) → (b ≡ a) ⊎ (holds queue b ≡ true) → (k : ℕ) × (label new b ≡ suc k)
      has b (inl e) = (i, ap (label new) e ∙ here)
      has b (inr h) = let r = given.has b h in (r.0, same b h ∙ r.1)

      only : (b k : ℕ) → ((b ≡ a) × (k ≡ i)) ⊎ (label old b ≡ suc k) → holds longer b ≡ true
      only b k (inl e) = ap (holds longer) e.0 ∙ joins
      only b k (inr h) = keeps b (given.only b k h)

      within : (b : ℕ) → (b ≡ a) ⊎ (holds queue b ≡ true) → b < n
      within b (inl e) = omega (arith, e, below)
      within b (inr h) = given.within b h

      lowest : (b k : ℕ) → ((b ≡ a) × (k ≡ i)) ⊎ (label old b ≡ suc k) → i ≤ k
      lowest b k (inl e) = omega (arith, e.1)
      lowest b k (inr h) = given.lowest b k h

      roots : (b k : ℕ) → ((b ≡ a) × (k ≡ i)) ⊎ (label old b ≡ suc k) → (q : ℕ) × ((slice_get order k ≡ Some q) × AreTied step b q)
      roots b k (inl e) = let P : ℕ → Type 0 = λ x. AreTied step x r in (r, (ap (slice_get order) e.1 ∙ is, subst P (sym e.0) tied))
      roots b k (inr h) = given.roots b k h

  -- The round goes on when it labels a number that goes to one of the queue.
  goes-on : (p b : ℕ) → IsLeaving n step order → IsRound n step order old queue p i → slice_get queue p ≡ Some b → step a b ≡ true → IsRound n step order new longer p i
  goes-on p b leaving h at g = record {
    given = given-more h.root h.root_is (inr (way, back));
    above = λ j c l k. keeps c (h.above j c l k);
    done = λ j c d l k s. done j c d l (place queue a j d (ap (λ q. slice_get q j) (sym pushed) ∙ k)) s;
    now = λ j c l k. now j c l (place queue a j c (ap (λ q. slice_get q j) (sym pushed) ∙ k));
    root = h.root;
    root_is = h.root_is;
    from = h.from;
    nest = h.nest;
    gathered = λ c k. gathered c (which-label c i k);
  }
    where
      labelled : label old b ≡ suc i
      labelled = h.now p b (omega arith) at

      way : Path step a h.root
      way =
          let r = given.roots b i labelled in
          let both : Some r.0 ≡ Some h.root = sym r.1.0 ∙ h.root_is in
          let one : r.0 ≡ h.root = cc both in
          let P : ℕ → Type 0 = Path step a in
          subst P one (tied-step step a b r.0 g r.1.1)

      -- The place of the number in the order.
      spot : (j : ℕ) × (slice_get order j ≡ Some a)
      spot = found-at order a (all-held n order leaving.whole leaving.within leaving.once a below)

      before : spot.0 < i
      before = by_test (nat_lt spot.0 i) refl
        where
          by_test : (t : Bool) → nat_lt spot.0 i ≡ t → spot.0 < i
          by_test true t = grind (arith, nat_tests, t)
          by_test false t = let over : i ≤ spot.0 = grind (arith, nat_tests, t) in absurd (not_both (holds queue a) (h.above spot.0 a over spot.1) out)

      since : h.from ≤ spot.0
      since = by_test (nat_lt spot.0 h.from) refl
        where
          by_test : (t : Bool) → nat_lt spot.0 h.from ≡ t → h.from ≤ spot.0
          by_test true t =
              let under : spot.0 < h.from = grind (arith, nat_tests, t) in
              let m = h.gathered b labelled in
              absurd (h.nest.apart spot.0 m.0 a b under m.1.0 m.1.1.0 spot.1 m.1.1.1 g)
          by_test false t = grind (arith, nat_tests, t)

      back : Path step h.root a
      back = h.nest.met spot.0 a since before spot.1

      done : (j c d : ℕ) → j < p → (slice_get queue j ≡ Some d) ⊎ ((j ≡ length queue) × (d ≡ a)) → step c d ≡ true → label new d ≤ label new c
      done j c d l (inl k) s = omega (arith, h.done j c d l k s, rises c, same d (holds_at queue j d k))
      done j c d l (inr e) s = absurd (let within = get-within queue p b at in omega (arith, within, l, e.0))

      now : (j c : ℕ) → p ≤ j → (slice_get queue j ≡ Some c) ⊎ ((j ≡ length queue) × (c ≡ a)) → label new c ≡ suc i
      now j c l (inl k) = same c (holds_at queue j c k) ∙ h.now j c l k
      now j c l (inr e) = ap (label new) e.1 ∙ here

      gathered : (c : ℕ) → ((c ≡ a) × (i ≡ i)) ⊎ (label old c ≡ suc i) → (m : ℕ) × ((h.from ≤ m) × ((m ≤ i) × (slice_get order m ≡ Some c)))
      gathered c (inl e) = (spot.0, (since, (omega (arith, before), spot.1 ∙ ap (λ x. Some x) (sym e.0))))
      gathered c (inr k) = h.gathered c k

  -- A place of the queue keeps its number.
  place-kept : (p b : ℕ) → slice_get queue p ≡ Some b → slice_get longer p ≡ Some b
  place-kept p b at = ap (λ q. slice_get q p) pushed ∙ get-front queue (a ∷ []) p (get-within queue p b at) ∙ at

  -- One more place of the row of a number of the queue.
  pub place-labelled : (p b : ℕ) (row : List ℕ) (k : ℕ) → IsLeaving n step order → IsRound n step order old queue p i → slice_get queue p ≡ Some b → step a b ≡ true
      → k < length row → slice_index_or row k 0 ≡ a → ((q : ℕ) → holds (take k row) q ≡ true → holds queue q ≡ true)
      → IsRound n step order new longer p i × (slice_get longer p ≡ Some b) × ((q : ℕ) → holds (take (k + 1) row) q ≡ true → holds longer q ≡ true)
  place-labelled p b row k leaving h at g l e before = (goes-on p b leaving h at g, place-kept p b at, behind)
    where
      behind : (q : ℕ) → holds (take (k + 1) row) q ≡ true → holds longer q ≡ true
      behind q t = elim (take-more row k q 0 l t) [ inl u ↦ keeps q (before q u) | inr s ↦ ap (holds longer) (s ∙ e) ∙ joins ]

-- A round begins with its root.
pub round-begins : (n : ℕ) (step : ℕ → ℕ → Bool) (order old new queue longer : List ℕ) (i r : ℕ) → IsLeaving n step order → AreJoined n step order old queue (i + 1)
    → slice_get order i ≡ Some r → label old r ≡ 0 → r < n → length new ≡ length old → longer ≡ queue ++ r ∷ []
    → ((b d : ℕ) → b < length old → slice_index_or new b d ≡ (if nat_eq b r then suc i else slice_index_or old b d))
    → IsRound n step order new longer (length queue) i
round-begins n step order old new queue longer i r leaving h is free below len pushed set = record {
  given = given-more n step order old new queue longer i r lower free below len pushed set r is (inl refl);
  above = λ j b l k. above j b l k (nat_eq j i) refl;
  done = λ j a b l k s. done j a b l (place queue r j b (ap (λ q. slice_get q j) (sym pushed) ∙ k)) s;
  now = λ j b l k. now j b l (place queue r j b (ap (λ q. slice_get q j) (sym pushed) ∙ k));
  root = r;
  root_is = is;
  from = (leaving.nest i r is).0;
  nest = (leaving.nest i r is).1;
  gathered = λ b k. gathered b (which-label n step order old new queue longer i r lower free below len pushed set b i k);
}
  where
    lower : AreGiven n step order old queue i
    lower = record {
      len = h.given.len;
      has = h.given.has;
      only = h.given.only;
      within = h.given.within;
      once = h.given.once;
      lowest = λ b k l. omega (arith, h.given.lowest b k l);
      roots = h.given.roots;
    }

    above : (j b : ℕ) → i ≤ j → slice_get order j ≡ Some b → (t : Bool) → nat_eq j i ≡ t → holds longer b ≡ true
    above j b l k true t =
        let both : Some b ≡ Some r = sym k ∙ ap (slice_get order) (same_number j i t) ∙ is in
        let one : b ≡ r = cc both in
        ap (holds longer) one ∙ joins n step order old new queue longer i r lower free below len pushed set
    above j b l k false t =
        let over : i + 1 ≤ j = grind (arith, nat_tests, t, l) in
        keeps n step order old new queue longer i r lower free below len pushed set b (h.above j b over k)

    done : (j a b : ℕ) → j < length queue → (slice_get queue j ≡ Some b) ⊎ ((j ≡ length queue) × (b ≡ r)) → step a b ≡ true → label new b ≤ label new a
    done j a b l (inl k) s =
        omega (
          arith,
          h.falls a b s,
          rises n step order old new queue longer i r lower free below len pushed set a,
          same n step order old new queue longer i r lower free below len pushed set b (holds_at queue j b k),
        )
    done j a b l (inr e) s = absurd (omega (arith, l, e.0))

    now : (j b : ℕ) → length queue ≤ j → (slice_get queue j ≡ Some b) ⊎ ((j ≡ length queue) × (b ≡ r)) → label new b ≡ suc i
    now j b l (inl k) = absurd (let within = get-within queue j b k in omega (arith, within, l))
    now j b l (inr e) = ap (label new) e.1 ∙ here n step order old new queue longer i r lower free below len pushed set

    gathered : (b : ℕ) → ((b ≡ r) × (i ≡ i)) ⊎ (label old b ≡ suc i) → (m : ℕ) × (((leaving.nest i r is).0 ≤ m) × ((m ≤ i) × (slice_get order m ≡ Some b)))
    gathered b (inl e) = (i, ((leaving.nest i r is).1.upto, (omega arith, is ∙ ap (λ x. Some x) (sym e.0))))
    gathered b (inr k) = absurd (let low = h.given.lowest b i k in omega (arith, low))

module _ (n : ℕ) (step : ℕ → ℕ → Bool) (order labels queue : List ℕ) (i : ℕ) where
  -- A number that has a label needs no round.
  pub round-skipped : (r : ℕ) → AreJoined n step order labels queue (i + 1) → slice_get order i ≡ Some r → (label labels r ≡ 0 → ⊥) → AreJoined n step order labels queue i
  round-skipped r h is some = record {
    given = record {
      len = h.given.len;
      has = h.given.has;
      only = h.given.only;
      within = h.given.within;
      once = h.given.once;
      lowest = λ b k l. omega (arith, h.given.lowest b k l);
      roots = h.given.roots;
    };
    above = λ j b l k. above j b l k (nat_eq j i) refl;
    falls = h.falls;
  }
    where
      above : (j b : ℕ) → i ≤ j → slice_get order j ≡ Some b → (t : Bool) → nat_eq j i ≡ t → holds queue b ≡ true
      above j b l k true t =
          let both : Some b ≡ Some r = sym k ∙ ap (slice_get order) (same_number j i t) ∙ is in
          let one : b ≡ r = cc both in
          ap (holds queue) one ∙ label-held n step order labels queue (i + 1) r h.given some
      above j b l k false t = let over : i + 1 ≤ j = grind (arith, nat_tests, t, l) in h.above j b over k

  -- All that go to a number of the queue were looked at.
  pub row-ends : (p b : ℕ) → IsRound n step order labels queue p i → slice_get queue p ≡ Some b → ((a : ℕ) → step a b ≡ true → holds queue a ≡ true) → IsRound n step order labels queue (p + 1) i
  row-ends p b h at all = record {
    given = h.given;
    above = h.above;
    done = λ j a c l k s. done j a c l k s (nat_eq j p) refl;
    now = λ j c l k. h.now j c (omega (arith, l)) k;
    root = h.root;
    root_is = h.root_is;
    from = h.from;
    nest = h.nest;
    gathered = h.gathered;
  }
    where
      done : (j a c : ℕ) → j < p + 1 → slice_get queue j ≡ Some c → step a c ≡ true → (t : Bool) → nat_eq j p ≡ t → label labels c ≤ label labels a
      done j a c l k s true t =
          let both : Some c ≡ Some b = sym k ∙ ap (slice_get queue) (same_number j p t) ∙ at in
          let one : c ≡ b = cc both in
          let r = h.given.has a (all a (ap (step a) (sym one) ∙ s)) in
          omega (arith, ap (label labels) one, h.now p b (omega arith) at, r.1, h.given.lowest a r.0 r.1)
      done j a c l k s false t = let under : j < p = grind (arith, nat_tests, t, l) in h.done j a c under k s

  -- The queue was gone through.
  pub round-ends : (p : ℕ) → length queue ≤ p → IsRound n step order labels queue p i → AreJoined n step order labels queue i
  round-ends p over h = record { given = h.given; above = h.above; falls = λ a b s. by_label a b s (label labels b) refl }
    where
      by_label : (a b : ℕ) → step a b ≡ true → (l : ℕ) → label labels b ≡ l → label labels b ≤ label labels a
      by_label a b s zero e = omega (arith, e)
      by_label a b s (suc k) e =
          let r = found-at queue b (h.given.only b k e) in
          let within = get-within queue r.0 b r.1 in
          h.done r.0 a b (omega (arith, within, over)) r.1 s

  -- The queue has no more numbers than the graph.
  pub queue-few : AreGiven n step order labels queue i → length queue ≤ n
  queue-few h = length-le_from_distinct_below queue n h.once h.within

-- Before the first round.
pub none-given : (n : ℕ) (step : ℕ → ℕ → Bool) (order labels queue : List ℕ) (i : ℕ) → length order ≡ i → length labels ≡ n → ((b d : ℕ) → b < n → slice_index_or labels b d ≡ 0) → queue ≡ []
    → AreJoined n step order labels queue i
unfolding IsDistinct
none-given n step order labels queue i whole len zeros empty = record {
  given = record {
    len = len;
    has = λ b h. absurd (let none : holds [] b ≡ true = ap (λ q. holds q b) (sym empty) ∙ h in cc none);
    only = λ b k h. absurd (omega (arith, h, unlabelled b));
    within = λ b h. absurd (let none : holds [] b ≡ true = ap (λ q. holds q b) (sym empty) ∙ h in cc none);
    once = let P : List ℕ → Type 0 = IsDistinct nat_eq in subst P (sym empty) tt;
    lowest = λ b k h. absurd (omega (arith, h, unlabelled b));
    roots = λ b k h. absurd (omega (arith, h, unlabelled b));
  };
  above = λ j b l k. absurd (let within = get-within order j b k in omega (arith, within, l, whole));
  falls = λ a b s. omega (arith, unlabelled b);
}
  where
    unlabelled : (b : ℕ) → label labels b ≡ 0
    unlabelled b = by_test (nat_lt b n) refl
      where
        by_test : (t : Bool) → nat_lt b n ≡ t → label labels b ≡ 0
        by_test true t = let below : b < n = grind (arith, nat_tests, t) in zeros b 0 below
        by_test false t = let over : n ≤ b = grind (arith, nat_tests, t) in label-out labels b (omega (arith, over, len))

-- After the last one.
pub all-given : (n : ℕ) (step : ℕ → ℕ → Bool) (order labels queue : List ℕ) → IsLeaving n step order → AreJoined n step order labels queue 0 → AreLabels n step labels
all-given n step order labels queue leaving h = record { len = h.given.len; falls = h.falls; tied = tied }
  where
    has : (a : ℕ) → a < n → (k : ℕ) × (label labels a ≡ suc k)
    has a below =
        let r = found-at order a (all-held n order leaving.whole leaving.within leaving.once a below) in
        h.given.has a (h.above r.0 a (omega arith) r.1)

    tied : (a b : ℕ) → a < n → b < n → label labels a ≡ label labels b → AreTied step a b
    tied a b l m e =
        let k = has a l in
        let j = has b m in
        let one : j.0 ≡ k.0 = omega (arith, e, k.1, j.1) in
        let r = h.given.roots a k.0 k.1 in
        let q = h.given.roots b j.0 j.1 in
        let both : Some q.0 ≡ Some r.0 = sym q.1.0 ∙ ap (slice_get order) one ∙ r.1.0 in
        let same : q.0 ≡ r.0 = cc both in
        let P : ℕ → Type 0 = AreTied step b in
        tied-both step a b r.0 r.1.1 (subst P same q.1.1)

-- Who goes to a number with its own label stands on a cycle.
module _ (rows : List (List ℕ)) (labels : List ℕ) (h : AreLabels (length rows) (goes rows) labels) where
  pub stays-sound : (a b : ℕ) → a < length rows → b < length rows → goes rows a b ≡ true → label labels b ≡ label labels a → Path (goes rows) a a
  stays-sound a b l m g e = by_tie (h.tied b a m l e)
    where
      by_tie : AreTied (goes rows) b a → Path (goes rows) a a
      by_tie (inl s) = last a a (ap (goes rows a) (sym s) ∙ g)
      by_tie (inr p) = more a b a g p.0

  way-falls : (a b : ℕ) → Path (goes rows) a b → label labels b ≤ label labels a
  way-falls _ _ (last a b s) = h.falls a b s
  way-falls _ _ (more a b c s p) = omega (arith, h.falls a b s, way-falls b c p)

  first-step : (a c : ℕ) → Path (goes rows) a c → label labels c ≡ label labels a → (b : ℕ) × ((goes rows a b ≡ true) × (label labels b ≡ label labels a))
  first-step _ _ (last a b s) e = (b, (s, e))
  first-step _ _ (more a b c s p) e = (b, (s, omega (arith, h.falls a b s, way-falls b c p, e)))

  pub stays-complete : (a : ℕ) → Path (goes rows) a a → (b : ℕ) × ((goes rows a b ≡ true) × (label labels b ≡ label labels a))
  stays-complete a p = first-step a a p refl

-- The steps of a graph are those of the turned one.
steps-same : (rows turned shown : List (List ℕ)) → shown ≡ turned → ((a b : ℕ) → goes turned b a ≡ goes rows a b) → goes_back shown ≡ goes rows
steps-same rows turned shown e h =
    let back : goes_back turned ≡ goes rows = λ i a b. h a b i in
    ap goes_back e ∙ back

pub leaving-turned : (rows turned shown : List (List ℕ)) (order : List ℕ) → shown ≡ turned → length turned ≡ length rows → ((a b : ℕ) → goes turned b a ≡ goes rows a b)
    → IsLeaving (length rows) (goes rows) order → IsLeaving (length shown) (goes_back shown) order
leaving-turned rows turned shown order e len h leaving =
    let P : ℕ → Type 0 = λ n. IsLeaving n (goes rows) order in
    let Q : (ℕ → ℕ → Bool) → Type 0 = λ step. IsLeaving (length shown) step order in
    subst Q (sym (steps-same rows turned shown e h)) (subst P (sym (ap length e ∙ len)) leaving)

pub labels-turned : (rows turned shown : List (List ℕ)) (labels : List ℕ) → shown ≡ turned → length turned ≡ length rows → ((a b : ℕ) → goes turned b a ≡ goes rows a b)
    → AreLabels (length shown) (goes_back shown) labels → AreLabels (length rows) (goes rows) labels
labels-turned rows turned shown labels e len h made =
    let P : ℕ → Type 0 = λ n. AreLabels n (goes rows) labels in
    let Q : (ℕ → ℕ → Bool) → Type 0 = λ step. AreLabels (length shown) step labels in
    subst P (ap length e ∙ len) (subst Q (steps-same rows turned shown e h) made)
