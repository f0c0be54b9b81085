-- Of the methods with too many points one decides, or none has too many: all points of all methods are looked at.
use Rattle.std.proofs.Common.{◌≡◌, ◌⊎◌, inl, inr, ℕ, zero, suc, ◌+◌, Bool, true, false, if◌then◌else◌, nat_eq, List, [], ◌∷◌, map, slice_get, Option, None, Some, refl, sym, ap, ◌∙◌, subst, arith}
use Rattle.std.proofs.lemmas.Bool.Decides.{nat_tests}
use Rattle.wf_text.specs.declared.rules.Refusal.{Refusal}
use Rattle.wf_text.specs.declared.rules.Rule.TheVariants.{L9}
use Rattle.wf_text.specs.Precedence.{sooner, soonest, Decides}
use Rattle.wf_text.proofs.PrecedenceLaws.{Decides-map, Decides-sooner}
use Rattle.wf_ast.specs.TypedTree.{Site, Block}
use Rattle.wf_ast.specs.TypedPackage.{MethodTree, PackageTree}
use Rattle.wf_meaning.specs.Remaining.{points_in, number_of}
use Rattle.wf_typed_tree.specs.ElaboratedPackage.{typed_package}
use Rattle.wf_points.specs.PointNumbers.{most_points, HasTooMany}
use Rattle.wf_bounds_laws.specs.BoundsLaws.{PointsAreDecided}

-- What is refused at a point.
abbrev refused_with : (number : ℕ) → Site → Option Refusal
refused_with number point = if nat_eq number (most_points + 1) then Some (record { rule = L9; at = point.at }) else None

abbrev refused_at : (body : Block) → Site → Option Refusal
refused_at body point = refused_with (number_of body point) point

abbrev InSites : (body : Block) → List Site → Refusal → Type 0
InSites body [] r = ⊥
InSites body (point ∷ points) r = (refused_at body point ≡ Some r) ⊎ InSites body points r

abbrev InMethods : List MethodTree → Refusal → Type 0
InMethods [] r = ⊥
InMethods (m ∷ ms) r = InSites m.body (points_in m.body) r ⊎ InMethods ms r

sites-decide : (P : Refusal → Type 0) (found : Option Refusal) (body : Block) (points : List Site) → Decides P found
    → Decides (λ r. P r ⊎ InSites body points r) (soonest found (map (refused_at body) points))
sites-decide P found body [] h = Decides-map P (λ r. P r ⊎ InSites body [] r) found (λ r p. inl p) (λ r c. elim c [ inl p ↦ p | inr q ↦ absurd q ]) h
sites-decide P found body (point ∷ points) h =
    Decides-map (λ r. (P r ⊎ (refused_at body point ≡ Some r)) ⊎ InSites body points r) (λ r. P r ⊎ InSites body (point ∷ points) r) (soonest (sooner found (refused_at body point)) (map (refused_at body) points))
    (λ r c. elim c [ inl p ↦ elim p [ inl k ↦ inl k | inr n ↦ inr (inl n) ] | inr q ↦ inr (inr q) ])
    (λ r c. elim c [ inl k ↦ inl (inl k) | inr q ↦ elim q [ inl n ↦ inl (inr n) | inr a ↦ inr a ] ])
    (sites-decide (λ r. P r ⊎ (refused_at body point ≡ Some r)) (sooner found (refused_at body point)) body points (Decides-sooner P found (refused_at body point) h))

record AreDecided (P : Refusal → Type 0) : Type 0 where
  found : Option Refusal
  decides : Decides P found

methods-decide : (P : Refusal → Type 0) (found : Option Refusal) (ms : List MethodTree) → Decides P found → AreDecided (λ r. P r ⊎ InMethods ms r)
methods-decide P found [] h = record {
  found = found;
  decides = Decides-map P (λ r. P r ⊎ InMethods [] r) found (λ r p. inl p) (λ r c. elim c [ inl p ↦ p | inr q ↦ absurd q ]) h;
}
methods-decide P found (m ∷ ms) h =
    let here = sites-decide P found m.body (points_in m.body) h in
    let rest = methods-decide (λ r. P r ⊎ InSites m.body (points_in m.body) r) (soonest found (map (refused_at m.body) (points_in m.body))) ms here in
    record {
      found = rest.found;
      decides = Decides-map (λ r. (P r ⊎ InSites m.body (points_in m.body) r) ⊎ InMethods ms r) (λ r. P r ⊎ InMethods (m ∷ ms) r) rest.found
          (λ r c. elim c [ inl p ↦ elim p [ inl k ↦ inl k | inr n ↦ inr (inl n) ] | inr q ↦ inr (inr q) ])
          (λ r c. elim c [ inl k ↦ inl (inl k) | inr q ↦ elim q [ inl n ↦ inl (inr n) | inr a ↦ inr a ] ])
          rest.decides;
    }

-- A point that is refused is the 1,025th.
record IsTooMany (number : ℕ) (point : Site) (r : Refusal) : Type 0 where
  numbered : number ≡ most_points + 1
  refused : r ≡ record { rule = L9; at = point.at }

too-many : (number : ℕ) (point : Site) (r : Refusal) → refused_with number point ≡ Some r → IsTooMany number point r
too-many number point r e = by_case (nat_eq number (most_points + 1)) refl e
  where
    by_case : (b : Bool) → nat_eq number (most_points + 1) ≡ b → (if b then Some (record { rule = L9; at = point.at }) else None) ≡ Some r → IsTooMany number point r
    by_case true h k = record { numbered = grind (arith, nat_tests, h); refused = let same : record { rule = L9; at = point.at } ≡ r = cc k in sym same }
    by_case false h k = absurd (cc k)

is-refused : (number : ℕ) (point : Site) (r : Refusal) → IsTooMany number point r → refused_with number point ≡ Some r
is-refused number point r h =
    let passed : nat_eq number (most_points + 1) ≡ true = let n = h.numbered in grind (arith, nat_tests, n) in
    ap (λ (b : Bool). if b then Some (record { rule = L9; at = point.at }) else None) passed ∙ ap (λ x. Some x) (sym h.refused)

record HasPoint (body : Block) (points : List Site) (r : Refusal) : Type 0 where
  place : ℕ
  point : Site
  stands : slice_get points place ≡ Some point
  too : IsTooMany (number_of body point) point r

from-sites : (body : Block) (points : List Site) (r : Refusal) → InSites body points r → HasPoint body points r
from-sites body [] r h = absurd h
from-sites body (point ∷ points) r (inl e) = record { place = 0; point = point; stands = refl; too = too-many (number_of body point) point r e }
from-sites body (point ∷ points) r (inr h) =
    let k = from-sites body points r h in
    record { place = suc k.place; point = k.point; stands = k.stands; too = k.too }

to-sites : (body : Block) (points : List Site) (r : Refusal) (i : ℕ) (point : Site) → slice_get points i ≡ Some point → IsTooMany (number_of body point) point r → InSites body points r
to-sites body [] r i point e h = absurd (cc e)
to-sites body (x ∷ points) r zero point e h =
    let same : x ≡ point = cc e in
    let T : Site → Type 0 = λ y. refused_at body y ≡ Some r in
    inl (subst T (sym same) (is-refused (number_of body point) point r h))
to-sites body (x ∷ points) r (suc i) point e h = inr (to-sites body points r i point e h)

record HasMethod (ms : List MethodTree) (r : Refusal) : Type 0 where
  number : ℕ
  method : MethodTree
  known : slice_get ms number ≡ Some method
  there : InSites method.body (points_in method.body) r

from-methods : (ms : List MethodTree) (r : Refusal) → InMethods ms r → HasMethod ms r
from-methods [] r h = absurd h
from-methods (m ∷ ms) r (inl h) = record { number = 0; method = m; known = refl; there = h }
from-methods (m ∷ ms) r (inr h) =
    let k = from-methods ms r h in
    record { number = suc k.number; method = k.method; known = k.known; there = k.there }

to-methods : (ms : List MethodTree) (r : Refusal) (i : ℕ) (m : MethodTree) → slice_get ms i ≡ Some m → InSites m.body (points_in m.body) r → InMethods ms r
to-methods [] r i m e h = absurd (cc e)
to-methods (x ∷ ms) r zero m e h =
    let same : x ≡ m = cc e in
    let T : MethodTree → Type 0 = λ y. InSites y.body (points_in y.body) r in
    inl (subst T (sym same) h)
to-methods (x ∷ ms) r (suc i) m e h = inr (to-methods ms r i m e h)

module _ (p : PackageTree) where
  breaks : (r : Refusal) → InMethods p.methods r → HasTooMany p r
  breaks r h =
      let m = from-methods p.methods r h in
      let at = from-sites m.method.body (points_in m.method.body) r m.there in
      record { number = m.number; method = m.method; place = at.place; point = at.point; known = m.known; stands = at.stands; numbered = at.too.numbered; refused = at.too.refused }

  broken : (r : Refusal) → HasTooMany p r → InMethods p.methods r
  broken r h = to-methods p.methods r h.number h.method h.known (to-sites h.method.body (points_in h.method.body) r h.place h.point h.stands (record { numbered = h.numbered; refused = h.refused }))

  decided : AreDecided (HasTooMany p)
  decided =
      let all = methods-decide (λ _. ⊥) None p.methods (λ r q. q) in
      record {
        found = all.found;
        decides = Decides-map (λ r. ⊥ ⊎ InMethods p.methods r) (HasTooMany p) all.found (λ r c. elim c [ inl q ↦ absurd q | inr q ↦ breaks r q ]) (λ r h. inr (broken r h)) all.decides;
      }

pub points_are_decided : PointsAreDecided
points_are_decided p = let d = decided (typed_package p) in (d.found, d.decides)
