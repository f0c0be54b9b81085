-- The search for a point by its place finds the point that stands there: the points of a body stand in order of place.
use Rattle.std.proofs.Common.{◌≡◌, ℕ, Bool, true, false, ◌&&◌, List, [], ◌∷◌, ◌++◌, Some, None, ◌⊎◌, inl, inr, refl, sym, ap, ◌∙◌, arith, nat_eq, nat_lt}
use Rattle.std.specs.Prelude.{if◌then◌else◌}
use Rattle.std.specs.List.{AllByRecursion}
use Rattle.std.proofs.lemmas.Bool.Decides.{nat_tests}
use Rattle.wf_text.specs.declared.place.Place.{Place}
use Rattle.wf_ast.specs.TypedTree.{Site, Block, end, plain, choose, loop}
use Rattle.wf_ast.specs.StatementOrder.{stands_before}
use Rattle.wf_ast.proofs.Arena.{both_true}
use Rattle.wf_meaning.specs.SourceState.{Behind, again, behind_if}
use Rattle.wf_meaning.specs.Remaining.{Items, is_point, points_in}
use Rattle.wf_meaning.specs.Laws.{Ascend}
use Rattle.wf_mean_exprs.specs.MachineState.{same_place, standing_at}
use Rattle.wf_mean_flows.specs.Flows.{StandsIn}

itself : (n : ℕ) → nat_eq n n ≡ true
itself n = grind (arith, nat_tests)

not_less : (m n : ℕ) → nat_eq m n ≡ true → nat_lt m n ≡ false
not_less m n h = grind (arith, nat_tests, h)

same_self : (a : Place) → same_place a a ≡ true
same_self a = rw (itself a.file, itself a.line, itself a.col) refl

-- What stands before a place doesn't stand there.
not_same : (a b : Place) → stands_before a b ≡ true → same_place a b ≡ false
not_same a b h = by_test (same_place a b) refl
  where
    by_test : (t : Bool) → same_place a b ≡ t → t ≡ false
    by_test false e = refl
    by_test true e =
        let p = both_true (nat_eq a.file b.file) (nat_eq a.line b.line && nat_eq a.col b.col) e in
        let q = both_true (nat_eq a.line b.line) (nat_eq a.col b.col) p.1 in
        let none : stands_before a b ≡ false = rw (not_less a.file b.file p.0, p.0, not_less a.line b.line q.0, q.0, not_less a.col b.col q.1) refl in
        absurd (cc (none, h))

ascend_front : (xs ys : List Site) → Ascend (xs ++ ys) → Ascend xs
ascend_front [] ys h = tt
ascend_front (x ∷ xs) ys h = (all_front xs ys h.0, ascend_front xs ys h.1)
  where
    all_front : (zs ys : List Site) → AllByRecursion (λ (t : Site). stands_before x.at t.at ≡ true) (zs ++ ys) → AllByRecursion (λ (t : Site). stands_before x.at t.at ≡ true) zs
    all_front [] ys h = tt
    all_front (z ∷ zs) ys h = (h.0, all_front zs ys h.1)

ascend_back : (xs ys : List Site) → Ascend (xs ++ ys) → Ascend ys
ascend_back [] ys h = h
ascend_back (x ∷ xs) ys h = ascend_back xs ys h.1

module _ (at : Place) where
  abbrev Absent : List Site → Type 0
  Absent sites = AllByRecursion (λ (s : Site). same_place s.at at ≡ false) sites

  abbrev Present : List Site → Type 0
  Present [] = ⊥
  Present (s ∷ ss) = (s.at ≡ at) ⊎ Present ss

  absent_front : (xs ys : List Site) → Absent (xs ++ ys) → Absent xs
  absent_front [] ys h = tt
  absent_front (x ∷ xs) ys h = (h.0, absent_front xs ys h.1)

  absent_back : (xs ys : List Site) → Absent (xs ++ ys) → Absent ys
  absent_back [] ys h = h
  absent_back (x ∷ xs) ys h = absent_back xs ys h.1

  present_front : (xs ys : List Site) → Present xs → Present (xs ++ ys)
  present_front [] ys h = absurd h
  present_front (x ∷ xs) ys (inl h) = inl h
  present_front (x ∷ xs) ys (inr h) = inr (present_front xs ys h)

  present_back : (xs ys : List Site) → Present ys → Present (xs ++ ys)
  present_back [] ys h = h
  present_back (x ∷ xs) ys h = inr (present_back xs ys h)

  before : (x : Place) (zs : List Site) → AllByRecursion (λ (t : Site). stands_before x t.at ≡ true) zs → Present zs → stands_before x at ≡ true
  before x [] h k = absurd k
  before x (z ∷ zs) h (inl k) = ap (stands_before x) (sym k) ∙ h.0
  before x (z ∷ zs) h (inr k) = before x zs h.1 k

  -- What stands there after others isn't among these.
  apart : (xs ys : List Site) → Ascend (xs ++ ys) → Present ys → Absent xs
  apart [] ys h k = tt
  apart (x ∷ xs) ys h k = (not_same x.at at (before x.at (xs ++ ys) h.0 (present_back xs ys k)), apart xs ys h.1 k)

  -- Where no point stands at the place, none is found.
  not_there : (b : Block) (behind : Behind) → Absent (points_in b) → standing_at at b behind ≡ None
  not_there end behind h = refl
  not_there (plain site s rest) behind h = by_point (is_point s) refl h (not_there rest behind)
    where
      by_point : (t : Bool) → is_point s ≡ t → Absent (if t then site ∷ points_in rest else points_in rest) → (Absent (points_in rest) → standing_at at rest behind ≡ None) → standing_at at (plain site s rest) behind ≡ None
      by_point true e h more = rw (e, h.0) (more h.1)
      by_point false e h more = rw e (more h)
  not_there (choose site chained c a b rest) behind h =
      let inner = absent_back (points_in a) (points_in b ++ points_in rest) h in
      rw (not_there a (behind_if rest behind) (absent_front (points_in a) (points_in b ++ points_in rest) h), not_there b (behind_if rest behind) (absent_front (points_in b) (points_in rest) inner))
      (not_there rest behind (absent_back (points_in b) (points_in rest) inner))
  not_there (loop site head body rest) behind h =
      rw (not_there body (again site head body rest behind) (absent_front (points_in body) (points_in rest) h)) (not_there rest behind (absent_back (points_in body) (points_in rest) h))

  module _ (items : Items) where
    -- A point that stands in a block is among its points.
    among : (b : Block) (behind : Behind) → StandsIn at items b behind → Present (points_in b)
    among end behind h = absurd h
    among (plain site s rest) behind (inl h) = rw h.0 (inl h.1)
    among (plain site s rest) behind (inr h) = by_point (is_point s) (among rest behind h)
      where
        by_point : (t : Bool) → Present (points_in rest) → Present (if t then site ∷ points_in rest else points_in rest)
        by_point true h = inr h
        by_point false h = h
    among (choose site chained c a b rest) behind (inl h) = present_front (points_in a) (points_in b ++ points_in rest) (among a (behind_if rest behind) h)
    among (choose site chained c a b rest) behind (inr (inl h)) = present_back (points_in a) (points_in b ++ points_in rest) (present_front (points_in b) (points_in rest) (among b (behind_if rest behind) h))
    among (choose site chained c a b rest) behind (inr (inr h)) = present_back (points_in a) (points_in b ++ points_in rest) (present_back (points_in b) (points_in rest) (among rest behind h))
    among (loop site head body rest) behind (inl h) = present_front (points_in body) (points_in rest) (among body (again site head body rest behind) h)
    among (loop site head body rest) behind (inr h) = present_back (points_in body) (points_in rest) (among rest behind h)

    pub found_there : (b : Block) (behind : Behind) → Ascend (points_in b) → StandsIn at items b behind → standing_at at b behind ≡ Some items
    found_there end behind asc h = absurd h
    found_there (plain site s rest) behind asc (inl h) =
        let same : same_place site.at at ≡ true = ap (λ p. same_place p at) h.1 ∙ same_self at in
        rw (h.0, same) (ap Some (sym h.2))
    found_there (plain site s rest) behind asc (inr h) = by_point (is_point s) refl asc (among rest behind h) (λ more. found_there rest behind more h)
      where
        by_point : (t : Bool) → is_point s ≡ t → Ascend (if t then site ∷ points_in rest else points_in rest) → Present (points_in rest) → (Ascend (points_in rest) → standing_at at rest behind ≡ Some items) → standing_at at (plain site s rest) behind ≡ Some items
        by_point true e asc k more = rw (e, not_same site.at at (before site.at (points_in rest) asc.0 k)) (more asc.1)
        by_point false e asc k more = rw e (more asc)
    found_there (choose site chained c a b rest) behind asc (inl h) =
        rw (found_there a (behind_if rest behind) (ascend_front (points_in a) (points_in b ++ points_in rest) asc) h) refl
    found_there (choose site chained c a b rest) behind asc (inr (inl h)) =
        let inner = ascend_back (points_in a) (points_in b ++ points_in rest) asc in
        let k = present_front (points_in b) (points_in rest) (among b (behind_if rest behind) h) in
        rw (not_there a (behind_if rest behind) (apart (points_in a) (points_in b ++ points_in rest) asc k), found_there b (behind_if rest behind) (ascend_front (points_in b) (points_in rest) inner) h) refl
    found_there (choose site chained c a b rest) behind asc (inr (inr h)) =
        let inner = ascend_back (points_in a) (points_in b ++ points_in rest) asc in
        let k = among rest behind h in
        rw (not_there a (behind_if rest behind) (apart (points_in a) (points_in b ++ points_in rest) asc (present_back (points_in b) (points_in rest) k)), not_there b (behind_if rest behind) (apart (points_in b) (points_in rest) inner k))
        (found_there rest behind (ascend_back (points_in b) (points_in rest) inner) h)
    found_there (loop site head body rest) behind asc (inl h) =
        rw (found_there body (again site head body rest behind) (ascend_front (points_in body) (points_in rest) asc) h) refl
    found_there (loop site head body rest) behind asc (inr h) =
        let k = among rest behind h in
        rw (not_there body (again site head body rest behind) (apart (points_in body) (points_in rest) asc k)) (found_there rest behind (ascend_back (points_in body) (points_in rest) asc) h)
