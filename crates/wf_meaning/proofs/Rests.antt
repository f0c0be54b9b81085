-- What a run leaves at a suspension is what stands at a point.
use Rattle.std.proofs.Common.{◌≡◌, ℕ, zero, suc, ◌+◌, ◌<◌, Bool, true, false, ◌&&◌, List, [], ◌∷◌, ◌++◌, Option, Some, None, ◌⊎◌, inl, inr, refl, sym, ap, ◌∙◌, subst, arith, nat_eq}
use Rattle.std.specs.Prelude.{slice_get, if◌then◌else◌}
use Rattle.std.specs.List.{AllByRecursion}
use Rattle.std.proofs.lemmas.Bool.Decides.{nat_tests}
use Rattle.wf_base.specs.HostRun.{Host}
use Rattle.wf_ast.specs.TypedTree.{CondTree, Simple, Site, Head, Block, end, plain, choose, loop}
use Rattle.wf_ast.specs.TypedPackage.{MethodTree, PackageTree}
use Rattle.wf_meaning.specs.SourceState.{Behind, stop, behind_if, again, Remaining}
use Rattle.wf_meaning.specs.Remaining.{Items, Marker, is_point, points_in, first, rest_in, rest, number_of, marker_of}
use Rattle.wf_meaning.specs.Laws.{Ascend, IsRest}
use Rattle.wf_meaning.proofs.Lists.{Has, has_more}
use Rattle.wf_meaning.proofs.Lists2.{some_same}
use Rattle.wf_meaning.proofs.Numbers.{numbered}
use Rattle.wf_meaning.proofs.Stays.{Places}

-- The sides of a list that is joined.
has_front : {X : Type 0} (xs ys : List X) (x : X) → Has xs x → Has (xs ++ ys) x
has_front {X} xs ys x h = record { place = h.place; is = go xs h.place h.is }
  where
    go : (zs : List X) (i : ℕ) → slice_get zs i ≡ Some x → slice_get (zs ++ ys) i ≡ Some x
    go [] i e = absurd (cc (e))
    go (z ∷ zs) zero e = e
    go (z ∷ zs) (suc i) e = go zs i e

has_back : {X : Type 0} (xs ys : List X) (x : X) → Has ys x → Has (xs ++ ys) x
has_back [] ys x h = h
has_back (z ∷ zs) ys x h = has_more z (zs ++ ys) x (has_back zs ys x h)

one : {X : Type 0} (P : X → Type 0) (xs : List X) (x : X) → AllByRecursion P xs → Has xs x → P x
one {X} P xs x h k = go xs k.place h k.is
  where
    go : (zs : List X) (i : ℕ) → AllByRecursion P zs → slice_get zs i ≡ Some x → P x
    go [] i h e = absurd (cc (e))
    go (z ∷ zs) zero h e = let q : z ≡ x = cc in subst P q h.0
    go (z ∷ zs) (suc i) h e = go zs i h.1 e

some_or_none : {X : Type 0} (o : Option X) → ((x : X) → o ≡ Some x → ⊥) → o ≡ None
some_or_none None h = refl
some_or_none (Some x) h = absurd (h x refl)

module _ (num : Site → ℕ) where
  -- No two of these points have one number.
  abbrev Differ : List Site → Type 0
  Differ [] = Unit {0}
  Differ (s ∷ ss) = AllByRecursion (λ t. num s ≡ num t → ⊥) ss × Differ ss

  abbrev Apart : List Site → List Site → Type 0
  Apart xs ys = (s t : Site) → Has xs s → Has ys t → num s ≡ num t → ⊥

  record Split (xs ys : List Site) : Type 0 where
    front : Differ xs
    back : Differ ys
    apart : Apart xs ys

  all_front : (P : Site → Type 0) (xs ys : List Site) → AllByRecursion P (xs ++ ys) → AllByRecursion P xs
  all_front P [] ys h = tt
  all_front P (x ∷ xs) ys h = (h.0, all_front P xs ys h.1)

  all_back : (P : Site → Type 0) (xs ys : List Site) → AllByRecursion P (xs ++ ys) → AllByRecursion P ys
  all_back P [] ys h = h
  all_back P (x ∷ xs) ys h = all_back P xs ys h.1

  split : (xs ys : List Site) → Differ (xs ++ ys) → Split xs ys
  split [] ys h = record { front = tt; back = h; apart = λ s t a b e. absurd (none s a) }
    where
      none : (s : Site) → Has [] s → ⊥
      none s a = let e = a.is in cc
  split (x ∷ xs) ys h =
      let inner = split xs ys h.1 in
      record { front = (all_front _ xs ys h.0, inner.front); back = inner.back; apart = λ s t a b e. go inner s t a.place a.is b e }
    where
      go : Split xs ys → (s t : Site) (i : ℕ) → slice_get (x ∷ xs) i ≡ Some s → Has ys t → num s ≡ num t → ⊥
      go inner s t zero is b e = let q : x ≡ s = cc in one (λ u. num x ≡ num u → ⊥) ys t (all_back _ xs ys h.0) b (ap num q ∙ e)
      go inner s t (suc i) is b e = inner.apart s t (record { place = i; is = is }) b e

  -- A search finds only points of its block, by their numbers.
  record Source (k : ℕ) (points : List Site) : Type 0 where
    point : Site
    has : Has points point
    numbered : num point ≡ k

  source_front : (k : ℕ) (xs ys : List Site) → Source k xs → Source k (xs ++ ys)
  source_front k xs ys h = record { point = h.point; has = has_front xs ys h.point h.has; numbered = h.numbered }

  source_back : (k : ℕ) (xs ys : List Site) → Source k ys → Source k (xs ++ ys)
  source_back k xs ys h = record { point = h.point; has = has_back xs ys h.point h.has; numbered = h.numbered }

  of_first : (k : ℕ) (points : List Site) (a b : Option Items) (items : Items) → (a ≡ Some items → Source k points) → (b ≡ Some items → Source k points) → first a b ≡ Some items → Source k points
  of_first k points None b items f g e = g e
  of_first k points (Some x) b items f g e = f e

  of_plain : (k : ℕ) (point test : Bool) (site : Site) (r : List Site) (here : Items) (later : Option Items) (items : Items)
      → (point && test) ≡ true ⊎ (later ≡ Some items) → (test ≡ true → num site ≡ k) → (later ≡ Some items → Source k r) → Source k (if point then site ∷ r else r)
  of_plain k true test site r here later items (inl e) f g = record { point = site; has = record { place = 0; is = refl }; numbered = f e }
  of_plain k false test site r here later items (inl e) f g = absurd (cc (e))
  of_plain k true test site r here later items (inr e) f g = let s = g e in record { point = s.point; has = has_more site r s.point s.has; numbered = s.numbered }
  of_plain k false test site r here later items (inr e) f g = g e

  either_found : (test : Bool) (here items : Items) (later : Option Items) → (if test then Some here else later) ≡ Some items → (test ≡ true) ⊎ (later ≡ Some items)
  either_found true here items later e = inl refl
  either_found false here items later e = inr e

  equal_of : (a k : ℕ) → nat_eq a k ≡ true → a ≡ k
  equal_of a k e = grind (arith, nat_tests, e)

  source : (k : ℕ) (block : Block) (behind : Behind) (items : Items) → rest_in num k block behind ≡ Some items → Source k (points_in block)
  source k end behind items e = absurd (cc (e))
  source k (plain site s r) behind items e =
      of_plain k (is_point s) (nat_eq (num site) k) site (points_in r) (record { block = plain site s r; behind = behind }) (rest_in num k r behind) items
      (either_found _ _ items (rest_in num k r behind) e) (equal_of (num site) k) (source k r behind items)
  source k (choose site chained c a d r) behind items e =
      of_first k _ _ _ items (λ h. source_front k (points_in a) _ (source k a (behind_if r behind) items h))
      (λ h. source_back k (points_in a) _ (of_first k _ _ _ items (λ j. source_front k (points_in d) _ (source k d (behind_if r behind) items j)) (λ j. source_back k (points_in d) _ (source k r behind items j)) h)) e
  source k (loop site head body r) behind items e =
      of_first k _ _ _ items (λ h. source_front k (points_in body) _ (source k body (again site head body r behind) items h)) (λ h. source_back k (points_in body) _ (source k r behind items h)) e

  -- What isn't among the numbers of a block isn't found there.
  missing : (k : ℕ) (block : Block) (behind : Behind) (others : List Site) → Apart (points_in block) others → Source k others → rest_in num k block behind ≡ None
  missing k block behind others apart s =
      some_or_none _ (λ items e. let t = source k block behind items e in apart t.point s.point t.has s.has (t.numbered ∙ sym s.numbered))

  module _ (top : Block) where
    record Found (block : Block) (behind : Behind) : Type 0 where
      found : (k : ℕ) (items : Items) → rest_in num k block behind ≡ Some items → rest_in num k top stop ≡ Some items
      apart : Differ (points_in block)

    abbrev AllFound : Behind → Type 0
    AllFound stop = Unit {0}
    AllFound (behind_if r k) = Found r k × AllFound k
    AllFound (again site head body r k) = Found body (again site head body r k) × (Found r k × AllFound k)

    abbrev Stands : Block → Behind → Type 0
    Stands block behind = Found block behind × AllFound behind

    found_end : (behind : Behind) → Found end behind
    found_end behind = record { found = λ k items e. absurd (cc (e)); apart = tt }

    -- After a statement.
    after_point : (site : Site) (s : Simple) (r : Block) (behind : Behind) (test : Bool) → is_point s ≡ test
        → Differ (if test then site ∷ points_in r else points_in r) → Found (plain site s r) behind → Found r behind
    after_point site s r behind true p differ h =
        record {
          found = λ k items e.
              let t = source k r behind items e in
              let other : nat_eq (num site) k ≡ false = unequal (num site) k (λ q. one (λ u. num site ≡ num u → ⊥) (points_in r) t.point differ.0 t.has (q ∙ sym t.numbered)) in
              h.found k items (rw (p, other) e);
          apart = differ.1;
        }
      where
        unequal : (a b : ℕ) → (a ≡ b → ⊥) → nat_eq a b ≡ false
        unequal a b n = by_test (nat_eq a b) refl
          where
            by_test : (test : Bool) → nat_eq a b ≡ test → test ≡ false
            by_test true e = absurd (n (grind (arith, nat_tests, e)))
            by_test false e = refl
    after_point site s r behind false p differ h = record { found = λ k items e. h.found k items (rw p e); apart = differ }

    after : (site : Site) (s : Simple) (r : Block) (behind : Behind) → Found (plain site s r) behind → Found r behind
    after site s r behind h = after_point site s r behind (is_point s) refl h.apart h

    -- Inside and after an `if`.
    to_then : (site : Site) (chained : Bool) (c : CondTree) (a d r : Block) (behind : Behind) → Found (choose site chained c a d r) behind → Found a (behind_if r behind)
    to_then site chained c a d r behind h =
        let s = split (points_in a) (points_in d ++ points_in r) h.apart in
        record { found = λ k items e. h.found k items (rw e refl); apart = s.front }

    to_else : (site : Site) (chained : Bool) (c : CondTree) (a d r : Block) (behind : Behind) → Found (choose site chained c a d r) behind → Found d (behind_if r behind)
    to_else site chained c a d r behind h =
        let s = split (points_in a) (points_in d ++ points_in r) h.apart in
        let t = split (points_in d) (points_in r) s.back in
        record {
          found = λ k items e.
              let here = source k d (behind_if r behind) items e in
              let none = missing k a (behind_if r behind) (points_in d ++ points_in r) s.apart (source_front k (points_in d) (points_in r) here) in
              h.found k items (rw (none, e) refl);
          apart = t.front;
        }

    behind_choice : (site : Site) (chained : Bool) (c : CondTree) (a d r : Block) (behind : Behind) → Found (choose site chained c a d r) behind → Found r behind
    behind_choice site chained c a d r behind h =
        let s = split (points_in a) (points_in d ++ points_in r) h.apart in
        let t = split (points_in d) (points_in r) s.back in
        record {
          found = λ k items e.
              let here = source k r behind items e in
              let none = missing k a (behind_if r behind) (points_in d ++ points_in r) s.apart (source_back k (points_in d) (points_in r) here) in
              let none' = missing k d (behind_if r behind) (points_in r) t.apart here in
              h.found k items (rw (none, none', e) refl);
          apart = t.back;
        }

    -- Inside and after a loop.
    into : (site : Site) (head : Head) (body r : Block) (behind : Behind) → Found (loop site head body r) behind → Found body (again site head body r behind)
    into site head body r behind h =
        let s = split (points_in body) (points_in r) h.apart in
        record { found = λ k items e. h.found k items (rw e refl); apart = s.front }

    past : (site : Site) (head : Head) (body r : Block) (behind : Behind) → Found (loop site head body r) behind → Found r behind
    past site head body r behind h =
        let s = split (points_in body) (points_in r) h.apart in
        record {
          found = λ k items e.
              let none = missing k body (again site head body r behind) (points_in r) s.apart (source k r behind items e) in
              h.found k items (rw (none, e) refl);
          apart = s.back;
        }

    marker_stands : (w : ℕ) (behind : Behind) (m : Marker) → AllFound behind → marker_of w behind ≡ Some m → AllFound (again m.site m.head m.body m.rest m.behind)
    marker_stands w stop m h e = absurd (cc (e))
    marker_stands w (behind_if r k) m h e = marker_stands w k m h.1 e
    marker_stands w (again site head body r k) m h e = by_test (nat_eq site.number w) e (marker_stands w k m h.1.1)
      where
        here : Marker
        here = record { site = site; head = head; body = body; rest = r; behind = k }

        by_test : (test : Bool) → (if test then Some here else marker_of w k) ≡ Some m → (marker_of w k ≡ Some m → AllFound (again m.site m.head m.body m.rest m.behind)) → AllFound (again m.site m.head m.body m.rest m.behind)
        by_test true q inner = let P : Marker → Type 0 = λ it. AllFound (again it.site it.head it.body it.rest it.behind) in subst P (some_same here m q) h
        by_test false q inner = inner q

    first_pick : {Q : Type 0} (a b : Option Items) (items : Items) → first a b ≡ Some items → (a ≡ Some items → Q) → (b ≡ Some items → Q) → Q
    first_pick None b items e f g = g e
    first_pick (Some x) b items e f g = f e

    if_pick : {Q : Type 0} (test : Bool) (here items : Items) (later : Option Items) → (if test then Some here else later) ≡ Some items → (here ≡ items → Q) → (later ≡ Some items → Q) → Q
    if_pick true here items later e f g = f (some_same here items e)
    if_pick false here items later e f g = g e

    -- A search leads only to places that stand so.
    reached : (k : ℕ) (block : Block) (behind : Behind) (items : Items) → rest_in num k block behind ≡ Some items → Stands block behind → Stands items.block items.behind
    reached k end behind items e h = absurd (cc (e))
    reached k (plain site s r) behind items e h =
        let here : Items = record { block = plain site s r; behind = behind } in
        let P : Items → Type 0 = λ it. Stands it.block it.behind in
        if_pick (is_point s && nat_eq (num site) k) here items (rest_in num k r behind) e (λ q. subst P q h) (λ q. reached k r behind items q (after site s r behind h.0, h.1))
    reached k (choose site chained c a d r) behind items e h =
        let next = behind_choice site chained c a d r behind h.0 in
        first_pick (rest_in num k a (behind_if r behind)) (first (rest_in num k d (behind_if r behind)) (rest_in num k r behind)) items e
        (λ q. reached k a (behind_if r behind) items q (to_then site chained c a d r behind h.0, (next, h.1)))
        (λ q. first_pick (rest_in num k d (behind_if r behind)) (rest_in num k r behind) items q
        (λ j. reached k d (behind_if r behind) items j (to_else site chained c a d r behind h.0, (next, h.1)))
        (λ j. reached k r behind items j (next, h.1)))
    reached k (loop site head body r) behind items e h =
        let inner = into site head body r behind h.0 in
        let next = past site head body r behind h.0 in
        first_pick (rest_in num k body (again site head body r behind)) (rest_in num k r behind) items e
        (λ q. reached k body (again site head body r behind) items q (inner, (inner, (next, h.1))))
        (λ q. reached k r behind items q (next, h.1))

    -- A point that stands so is found at its own number.
    own_place : (site : Site) (s : Simple) (r : Block) (behind : Behind) → is_point s ≡ true → Found (plain site s r) behind → rest_in num (num site) top stop ≡ Some (record { block = plain site s r; behind = behind })
    own_place site s r behind e h = h.found (num site) (record { block = plain site s r; behind = behind }) (rw (e, itself (num site)) refl)
      where
        itself : (n : ℕ) → nat_eq n n ≡ true
        itself n = grind (arith, nat_tests)

-- The points of a whole body have numbers of their own.
module _ (num : Site → ℕ) where
  all_apart : (i j : ℕ) (s : Site) (ss : List Site) → num s ≡ 1 + i → i < j → ((k : ℕ) (t : Site) → slice_get ss k ≡ Some t → num t ≡ 1 + (j + k)) → AllByRecursion (λ t. num s ≡ num t → ⊥) ss
  all_apart i j s [] e below h = tt
  all_apart i j s (t ∷ ss) e below h =
      let here = h 0 t refl in
      let further : (k : ℕ) (u : Site) → slice_get ss k ≡ Some u → num u ≡ 1 + ((j + 1) + k) = λ k u q. let g = h (suc k) u q in omega (arith, g) in
      (λ q. absurd (omega (arith, e, below, here, q)), all_apart i (j + 1) s ss e (omega (arith, below)) further)

  differ_all : (i : ℕ) (ss : List Site) → ((k : ℕ) (t : Site) → slice_get ss k ≡ Some t → num t ≡ 1 + (i + k)) → Differ num ss
  differ_all i [] h = tt
  differ_all i (s ∷ ss) h =
      let here = h 0 s refl in
      let further : (k : ℕ) (u : Site) → slice_get ss k ≡ Some u → num u ≡ 1 + ((i + 1) + k) = λ k u q. let g = h (suc k) u q in omega (arith, g) in
      (all_apart i (i + 1) s ss (omega (arith, here)) (omega arith) further, differ_all (i + 1) ss further)

differ_body : (body : Block) → Ascend (points_in body) → Differ (number_of body) (points_in body)
differ_body body h = differ_all (number_of body) 0 (points_in body) (λ k t e. let n = numbered (points_in body) h k t e in omega (arith, n))

resume : (p : PackageTree) (m : ℕ) (x : MethodTree) → slice_get p.methods m ≡ Some x → Stands (number_of x.body) x.body x.body stop → (left : Remaining) → IsRest p m left → Stands (number_of x.body) x.body left.block left.behind
unfolding rest
resume p m x known start left h =
    let items : Items = record { block = left.block; behind = left.behind } in
    let same : h.method ≡ x = some_same h.method x (sym h.known ∙ known) in
    let P : MethodTree → Type 0 = λ y. rest y.body h.point ≡ Some items in
    reached (number_of x.body) x.body h.point x.body stop items (subst P same h.stands) start

-- The points of each method stand in order of place.
abbrev pub PointsAscend : PackageTree → Type 0
PointsAscend p = (m : ℕ) (method : MethodTree) → slice_get p.methods m ≡ Some method → Ascend (points_in method.body)

-- The places of a method, for what remains of it.
pub rest_places : (p : PackageTree) → PointsAscend p → (m : ℕ) (x : MethodTree) → slice_get p.methods m ≡ Some x → (B A : ℕ → Type 0) (h0 : Host) → Places B A h0 (IsRest p) m x.body
unfolding rest
rest_places p ordered m x known B A h0 =
    let top = x.body in
    let num = number_of top in
    let start : Stands num top top stop = (record { found = λ k items e. e; apart = differ_body top (ordered m x known) }, tt) in
    record {
      P = Stands num top;
      starts = start;
      goes_on = λ left h. resume p m x known start left h;
      after = λ site s r k h. (after num top site s r k h.0, h.1);
      to_then = λ site chained c a d r k h. (to_then num top site chained c a d r k h.0, (behind_choice num top site chained c a d r k h.0, h.1));
      to_else = λ site chained c a d r k h. (to_else num top site chained c a d r k h.0, (behind_choice num top site chained c a d r k h.0, h.1));
      joins = λ r k h. (h.1.0, h.1.1);
      into = λ site head body r k h. (into num top site head body r k h.0, (into num top site head body r k h.0, (past num top site head body r k h.0, h.1)));
      past = λ site head body r k h. (past num top site head body r k h.0, h.1);
      back_into = λ site head body r k h. (h.1.0, h.1);
      back_past = λ site head body r k h. (h.1.1.0, h.1.1.1);
      marked = λ w block k mk h e. (found_end num top _, marker_stands num top w k mk h.1 e);
      kept = λ site s r k done locals e h. record { method = x; known = known; point = num site; stands = own_place num top site s r k e h.0 };
    }
